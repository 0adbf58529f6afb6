-- The bytes of the pairs so far stand in the buffer, and what is left of the word is hex too.
-- Assumes nothing.
use Rattle.std.proofs.Common.{◌≡◌}
use Rattle.std.specs.Slice.Iter.{chunks_exact_rest, chunks_exact_size}
use Rattle.text.proofs.Pasting.{Pasting}
use Rattle.text.proofs.hex.hex_into.Given as goal

abbrev pub invariant-loop-pair : goal.invariant-loop-pair
invariant-loop-pair l = (chunks_exact_size l.pair-iterator ≡ 2) × Pasting l.word (chunks_exact_rest l.pair-iterator) l.fn.buf l.at l.place l.buf
