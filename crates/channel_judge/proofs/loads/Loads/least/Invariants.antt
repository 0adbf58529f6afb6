-- The best so far and the channels that are ahead have the same least one as all of them.
-- Assumes nothing.
use Rattle.std.proofs.Common.{◌≡◌, drop}
use Rattle.channel_judge.specs.Counters.{load_by}
use Rattle.channel_judge.proofs.Least.{least_from}
use Rattle.channel_judge.proofs.loads.Loads.least.Given as goal

abbrev pub invariant-loop-channel : goal.invariant-loop-channel
invariant-loop-channel l =
    least_from (load_by l.self) l.initial.own l.others ≡ least_from (load_by l.self) l.own (drop l.channel-index l.others)
