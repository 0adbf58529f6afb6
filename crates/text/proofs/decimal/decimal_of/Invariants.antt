-- What is left of the word says, behind the number so far, what the whole word says.
-- Assumes nothing.
use Rattle.std.proofs.Common.{◌≡◌, ◌<◌, ◌^◌, drop}
use Rattle.text.specs.Words.{digits_of, in64_bits, decimal_of}
use Rattle.text.proofs.decimal.decimal_of.Given as goal

abbrev pub invariant-loop-letter : goal.invariant-loop-letter
invariant-loop-letter l = (l.n < 2 ^ 64) × (decimal_of l.word ≡ in64_bits (digits_of l.n (drop l.letter-index l.word)))
