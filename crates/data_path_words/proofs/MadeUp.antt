-- The names make up their masks: a test is computed over each list, and what it finds of all names holds of any two.
-- Assumes nothing.
use Prim.Native.Nat.{ℕ, zero, suc, ◌<◌}
use native.Mathlib.Nat.{not-suc-le-zero, le_of_suc-le-suc}
use mathlib.Core.Path.{◌≡◌, refl}
use mathlib.Core.Bool.{Bool, true, ◌&&◌}
use mathlib.Core.List.{List, [], ◌∷◌}
use borrow.Author.Tests.{eqb-true}
use lib.Bits.{bit_and, and_zero_r}
use lib.Dec.{eqb}
use lib.ListN.{get_or}
use Rattle.wire.specs.ShortFields.{total}
use Rattle.wire.proofs.Tests.{both}
use Rattle.data_path_words.specs.Names.{MakeUp, flag_names, extended_names, channel_names, option_names}

-- a number that has no bit in common with any of some others
abbrev beside : ℕ → List ℕ → Bool
beside n [] = true
beside n (m ∷ rest) = eqb (bit_and n m) 0 && beside n rest

abbrev all_apart : List ℕ → Bool
all_apart [] = true
all_apart (n ∷ rest) = beside n rest && all_apart rest

beside-each : (n : ℕ) (rest : List ℕ) → beside n rest ≡ true → (j : ℕ) → bit_and n (get_or rest j 0) ≡ 0
beside-each n [] e j = and_zero_r n
beside-each n (m ∷ rest) e zero = eqb-true (bit_and n m) 0 (both (eqb (bit_and n m) 0) (beside n rest) e).0
beside-each n (m ∷ rest) e (suc j) = beside-each n rest (both (eqb (bit_and n m) 0) (beside n rest) e).1 j

apart-each : (names : List ℕ) → all_apart names ≡ true → (i j : ℕ) → i < j → bit_and (get_or names i 0) (get_or names j 0) ≡ 0
apart-each [] e i j h = refl
apart-each (n ∷ rest) e i zero h = absurd (not-suc-le-zero h)
apart-each (n ∷ rest) e zero (suc j) h = beside-each n rest (both (beside n rest) (all_apart rest) e).0 j
apart-each (n ∷ rest) e (suc i) (suc j) h = apart-each rest (both (beside n rest) (all_apart rest) e).1 i j (le_of_suc-le-suc h)

make-up : (names : List ℕ) → all_apart names ≡ true → MakeUp names (total names)
make-up names e = record { sum = refl; apart = apart-each names e }

pub flags-made-up : MakeUp flag_names 0xFFFF
flags-made-up = make-up flag_names refl

pub extended-made-up : MakeUp extended_names 0xFF7F
extended-made-up = make-up extended_names refl

pub channels-made-up : MakeUp channel_names 0x7
channels-made-up = make-up channel_names refl

pub options-made-up : MakeUp option_names 0xFFFFFE6A
options-made-up = make-up option_names refl
