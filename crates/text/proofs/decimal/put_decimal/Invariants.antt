-- Each turn gathers one digit more, and none is put yet.
-- Assumes nothing.
use Rattle.std.proofs.Common.{◌≡◌}
use Rattle.text.proofs.Digits.{Gathered}
use Rattle.text.proofs.decimal.put_decimal.Given as goal

abbrev pub invariant-loop-first : goal.invariant-loop-first
invariant-loop-first l = Gathered l.n l.digits l.first l.rest × (l.buf ≡ l.fn.buf)
