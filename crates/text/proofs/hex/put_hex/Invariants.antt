-- After i turns the digits of i bytes stand in the buffer.
-- Assumes nothing.
use Rattle.std.proofs.Common.{length, ◌*◌}
use Rattle.text.specs.Text.{hex}
use Rattle.text.proofs.Begun.{Begun}
use Rattle.text.proofs.hex.put_hex.Given as goal

abbrev pub invariant-loop-i : goal.invariant-loop-i
invariant-loop-i l = Begun l.fn.buf l.at (hex l.bytes) (2 * length l.bytes) (2 * l.i) l.buf
