-- What has been counted and the entries that are ahead make up the sixteen.
-- Assumes nothing.
use Rattle.std.proofs.Common.{◌-◌}
use Rattle.channel_judge.specs.Loads.{channels_from, count}
use Rattle.channel_judge.proofs.Counters.{Underway}
use Rattle.channel_judge.proofs.loads.Loads.count_sequence.Given as goal

abbrev pub invariant-loop-n : goal.invariant-loop-n
invariant-loop-n l =
    Underway l.fn.self l.self (λ c. count c (channels_from l.encoding l.bytes l.n (16 - l.n))) (λ c. count c (channels_from l.encoding l.bytes 0 16))
