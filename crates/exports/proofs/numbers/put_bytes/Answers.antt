-- One more byte is stored where the next one of what is pasted stands.
-- Assumes nothing.
use Rattle.std.proofs.Common.{sym, ap, ◌∙◌, arith, set, length-set, add-one}
use native.Mathlib.Nat.{zero-add}
use lib.Seq.{paste, paste-suc}
use Rattle.exports.proofs.numbers.put_bytes.Goals as goal

pub loop-i-preserved : goal.loop-i-preserved
loop-i-preserved c =
    let ns = c.args.numbers.now in
    let bytes = c.args.bytes.now in
    let i = c.loop-i.i in
    let so_far = paste ns 0 bytes i in (
      simp length-set (omega arith),
      rw c.loop-i.invariant.1
          (ap (λ k. set so_far k c.from.result) (sym (zero-add i)) ∙ rw (c.from.ensures, add-one i) (paste-suc ns 0 bytes i 0 (omega arith) (omega arith))),
    )
