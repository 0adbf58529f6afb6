-- Behind the last channel the best one is the least of all.
-- Assumes nothing.
use Rattle.std.proofs.Common.{◌≤◌, length, sym, ap, ◌∙◌, arith}
use Rattle.std.proofs.lemmas.List.{drop_all}
use Rattle.wire.specs.Answer.{answer}
use Rattle.channel_judge.specs.Counters.{load_by}
use Rattle.channel_judge.proofs.Least.{least_from, proposed-least}
use Rattle.channel_judge.proofs.loads.Loads.least.Goals as goal

pub returns : goal.returns
returns c =
    let load_of = load_by c.args.self.now in
    let some : 1 ≤ length c.args.permitted.now = omega arith in
    let least = c.loop-channel.invariant ∙ ap (least_from load_of c.loop-channel.own) (drop_all _ _ c.loop-channel-test.false) in
    rw (proposed-least load_of c.args.permitted.now some) (ap answer (sym least))
