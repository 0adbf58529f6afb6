-- After i turns the first i stand there, and behind them what stood there.
-- Assumes nothing.
use Rattle.std.proofs.Common.{length, ◌≡◌}
use lib.Seq.{paste}
use Rattle.exports.proofs.numbers.put_bytes.Given as goal

abbrev pub invariant-loop-i : goal.invariant-loop-i
invariant-loop-i l = (length l.numbers ≡ length l.fn.numbers) × (l.numbers ≡ paste l.fn.numbers 0 l.bytes l.i)
