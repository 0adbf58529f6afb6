-- After i turns the first i numbers stand behind the place, and all others as they were.
-- Assumes nothing.
use Rattle.std.proofs.Common.{length, ◌≡◌}
use lib.Seq.{paste}
use Rattle.exports.proofs.numbers.put_part.Given as goal

abbrev pub invariant-loop-i : goal.invariant-loop-i
invariant-loop-i l = (length l.buffer ≡ length l.fn.buffer) × (l.buffer ≡ paste l.fn.buffer l.at l.part l.i)
