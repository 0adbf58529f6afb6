-- The number's digits are put once all are there, and twenty places are enough.
-- Assumes nothing.
use Rattle.std.proofs.Common.{refl, arith}
use Rattle.text.proofs.Digits.{some-digit, gather_none, gather-more, gather-all}
use Rattle.text.proofs.decimal.put_decimal.Goals as goal

pub loop-first-init : goal.loop-first-init
loop-first-init c = (gather_none c.args.n _ (omega arith) refl, refl)

pub loop-first-preserved : goal.loop-first-preserved
loop-first-preserved c = (gather-more c.loop-first.invariant.0 c.digit.ensures (omega arith), c.loop-first.invariant.1)

pub returns-then-rest-eq0 : goal.returns-then-rest-eq0
returns-then-rest-eq0 c =
    let digits = gather-all c.loop-first.invariant.0 c.digit.ensures (omega arith) in
    rw (digits, c.loop-first.invariant.1) at c.put_slice.ensures

pub unreachable-requires : goal.unreachable-requires
unreachable-requires c = omega (arith, some-digit c.loop-first.rest)
