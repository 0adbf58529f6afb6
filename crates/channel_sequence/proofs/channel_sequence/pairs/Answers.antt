-- A turn fills one entry, and behind the last there is none.
-- Assumes nothing.
use Rattle.std.proofs.Common.{◌≡◌, ◌+◌, ◌-◌, ◌*◌, ◌∷◌, [], suc, sym, ◌∙◌, length-set, arith}
use lib.Seq.{take_all}
use mathlib.Core.List.{append-nil}
use Rattle.channel_sequence.specs.Sequences.{times}
use Rattle.channel_sequence.proofs.Entries.{entry-step}
use Rattle.channel_sequence.proofs.channel_sequence.pairs.Goals as goal

pub loop-i-preserved : goal.loop-i-preserved
unfolding times
loop-i-preserved c =
    let a = c.args in
    let bytes = c.loop-i.bytes in
    let i = 2 * c.loop-i.i in
    let next : 2 * (c.loop-i.i + 1) ≡ i + 2 = omega arith in
    let left : 16 - c.loop-i.i ≡ suc (16 - (c.loop-i.i + 1)) = omega arith in (
      simp length-set (omega arith),
      rw next (entry-step bytes i a.first a.second (times (16 - (c.loop-i.i + 1)) (a.first ∷ a.second ∷ [])) (omega arith) ∙ (rw left at c.loop-i.invariant.1)),
    )

pub returns : goal.returns
unfolding times
returns c =
    let bytes = c.loop-i.bytes in
    let i = 2 * c.loop-i.i in
    let none : 16 - c.loop-i.i ≡ 0 = omega arith in
    sym (append-nil bytes) ∙ (rw (none, take_all i bytes (omega arith)) at c.loop-i.invariant.1)
