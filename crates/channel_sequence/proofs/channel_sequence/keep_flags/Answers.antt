-- A turn keeps one entry, and behind the last there is none.
-- Assumes nothing.
use Rattle.std.proofs.Common.{◌≡◌, sym, ◌+◌, ◌*◌, ◌∙◌, length-set, arith}
use lib.ListN.{drop_of_length-le}
use lib.Seq.{take_all}
use mathlib.Core.List.{append-nil}
use Rattle.channel_sequence.proofs.KeptEntries.{kept-step}
use Rattle.channel_sequence.proofs.channel_sequence.keep_flags.Goals as goal

pub loop-i-preserved : goal.loop-i-preserved
loop-i-preserved c =
    let entries = c.loop-i.entries in
    let i = 2 * c.loop-i.i in
    let next : 2 * (c.loop-i.i + 1) ≡ i + 2 = omega arith in
    (simp length-set (omega arith), rw (next, c.from_bits.ensures) (kept-step entries i (omega arith) ∙ c.loop-i.invariant.1))

pub returns : goal.returns
returns c =
    let entries = c.loop-i.entries in
    let i = 2 * c.loop-i.i in
    rw (← c.loop-i.invariant.1, drop_of_length-le entries {i = i} (omega arith), take_all i entries (omega arith)) (sym (append-nil entries))
