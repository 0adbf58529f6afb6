-- The sizes of a sequence, encoding by encoding, and the part of its bytes that is written.
-- Assumes nothing.
use Prim.Native.Nat.{ℕ}
use native.Mathlib.Omega.{arith}
use mathlib.Core.Path.{◌≡◌, sym, ap, ◌∙◌}
use mathlib.Core.Bool.{Bool, true, false, ◌&&◌, and_assoc, and-true}
use mathlib.Core.List.{List, [], ◌∷◌}
use lib.Dec.{eqb}
use lib.ListN.{length, drop}
use lib.Seq.{length-take-le}
use borrow.Author.Tests.{ne_eqb}
use Rattle.std.specs.List.{fold}
use Rattle.wire.specs.declared.refusal.Refusal.TheVariants.{Encoding, Inconsistent}
use Rattle.wire.specs.Answer.{answer, refusal}
use Rattle.wire.specs.Writing.{length_of}
use Rattle.channel.specs.Channels.{encoding_of}
use Rattle.channel_sequence.specs.declared.channel_sequence.ChannelSequence.{ChannelSequence}
use Rattle.channel_sequence.specs.Sequences.{all_zero, bytes_of}

-- a fold over the numbers
abbrev pub zero_also : Bool → ℕ → Bool
zero_also none number = none && eqb number 0

pub fold-zero : (none : Bool) (ns : List ℕ) → fold zero_also none ns ≡ (none && all_zero ns)
fold-zero none [] = sym (and-true none)
fold-zero none (n ∷ ns) = fold-zero (none && eqb n 0) ns ∙ and_assoc none (eqb n 0) (all_zero ns)

-- the size by the encoding
module _ (q : ChannelSequence) where
  pub class-sized : length q.bytes ≡ 32 → q.encoding ≡ 3 → length_of (bytes_of q) ≡ answer 32
  unfolding encoding_of
  class-sized whole e = rw e (ap answer (length-take-le 32 q.bytes (omega arith)))

  pub simple-sized : length q.bytes ≡ 32 → q.encoding ≡ 0 → all_zero (drop 16 q.bytes) ≡ true → length_of (bytes_of q) ≡ answer 16
  unfolding encoding_of
  simple-sized whole e none = rw (e, none) (ap answer (length-take-le 16 q.bytes (omega arith)))

  pub simple-unsized : q.encoding ≡ 0 → all_zero (drop 16 q.bytes) ≡ false → bytes_of q ≡ refusal Inconsistent
  unfolding encoding_of
  simple-unsized e some = rw (e, some)

  pub other-unsized : ¬ (q.encoding ≡ 0) → ¬ (q.encoding ≡ 1) → ¬ (q.encoding ≡ 3) → bytes_of q ≡ refusal Encoding
  unfolding encoding_of
  other-unsized not one three = rw (ne_eqb q.encoding 0 not, ne_eqb q.encoding 1 one, ne_eqb q.encoding 3 three)
