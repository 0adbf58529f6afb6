-- Pair after pair is passed, and the word is hex where what is left of it is.
-- Assumes nothing.
use Rattle.std.proofs.Common.{length, ◌%◌, ◌≡◌}
use Rattle.std.specs.Slice.Iter.{chunks_exact_rest, chunks_exact_size}
use Rattle.text.specs.Words.{meant, hex_of}
use Rattle.text.proofs.hex.is_hex.Given as goal

abbrev pub invariant-loop-pair : goal.invariant-loop-pair
invariant-loop-pair l =
    (chunks_exact_size l.pair-iterator ≡ 2) × (length (chunks_exact_rest l.pair-iterator) % 2 ≡ length l.word % 2) × (meant (hex_of l.word) ≡ meant (hex_of (chunks_exact_rest l.pair-iterator)))
