-- After i turns the first i bytes stand in the buffer, and all others as before.
-- Assumes nothing.
use Rattle.std.proofs.Common.{length, ◌≡◌}
use lib.Seq.{paste}
use Rattle.wire.proofs.write.put_slice.Given as goal

abbrev pub invariant-loop-i : goal.invariant-loop-i
invariant-loop-i l = (length l.buf ≡ length l.fn.buf) × (l.buf ≡ paste l.fn.buf l.at l.bytes l.i)
