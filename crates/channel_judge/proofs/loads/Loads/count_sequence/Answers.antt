-- No counter passes the number of entries; a turn counts the next one; and behind the last, all sixteen are counted.
-- Assumes nothing.
use Rattle.std.proofs.Common.{◌≡◌, ◌-◌, arith}
use Rattle.channel_judge.proofs.Counters.{bounded, further, ended, sixteen-most, next-entry}
use Rattle.channel_judge.proofs.loads.Loads.count_sequence.Goals as goal

pub count-requires : goal.count-requires
count-requires c =
    let most = bounded {n = 1024} {m = 16} c.loop-n.invariant c.requires.at_most (sixteen-most c.args.encoding c.args.bytes.now) c.corrected_entry.result in
    omega arith

pub loop-n-preserved : goal.loop-n-preserved
loop-n-preserved c =
    let a = c.args in
    further c.loop-n.invariant c.count.ensures (λ channel. rw (next-entry a.encoding a.bytes.now c.loop-n.n (omega arith), ← c.corrected_entry.ensures) (omega arith))

pub returns : goal.returns
returns c =
    let n = c.loop-n.n in
    let none : 16 - n ≡ 0 = omega arith in
    ended c.loop-n.invariant (λ channel. rw none)
