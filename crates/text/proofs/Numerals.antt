-- A number is read digit after digit, and one that does not fit never fits again, so that each digit can be tested as it is read.
-- Assumes nothing.
use Prim.Native.Nat.{ℕ, ◌+◌, ◌*◌, ◌^◌, ◌≤◌, ◌<◌}
use native.Mathlib.Omega.{arith}
use mathlib.Core.Path.{◌≡◌, refl}
use mathlib.Core.Bool.{Bool, true, false}
use mathlib.Core.List.{List, [], ◌∷◌}
use lib.Dec.{ltb}
use lib.ListN.{length}
use borrow.Author.Tests.{ltb-true, ltb-false, le-ltb}
use Rattle.std.specs.Prelude.{Option, Some, None}
use Rattle.text.specs.Words.{◌>>=◌, provided, digit_of, digits_of, in64_bits, decimal_of}
use Rattle.text.proofs.Letters.{among_in}

-- a word of some digits and not too many
pub few-digits : (word : List ℕ) → 1 ≤ length word → length word ≤ 20 → decimal_of word ≡ in64_bits (digits_of 0 word)
few-digits word h k = rw (among_in {first = 1} {last = 20} {n = length word} h k)

too_large : (rest : List ℕ) (n : ℕ) → 2 ^ 64 ≤ n → in64_bits (digits_of n rest) ≡ None
unfolding digits_of
too_large [] n h = rw (le-ltb n (2 ^ 64) h)
too_large (letter ∷ rest) n h = go (digit_of letter) (λ d. too_large rest (n * 10 + d) (omega arith))
  where
    go : (digit : Option ℕ) → ((d : ℕ) → in64_bits (digits_of (n * 10 + d) rest) ≡ None) → in64_bits (digit >>= λ d. digits_of (n * 10 + d) rest) ≡ None
    go (Some d) larger = larger d
    go None larger = refl

pub digit_by_digit : (n letter : ℕ) (rest : List ℕ) → in64_bits (digits_of n (letter ∷ rest)) ≡ (in64_bits (digits_of n (letter ∷ [])) >>= λ m. in64_bits (digits_of m rest))
unfolding digits_of
digit_by_digit n letter rest = go (digit_of letter)
  where
    fit : (m : ℕ) (b : Bool) → ltb m (2 ^ 64) ≡ b → in64_bits (digits_of m rest) ≡ (in64_bits (Some m) >>= λ m. in64_bits (digits_of m rest))
    fit m true e = rw e
    fit m false e = rw e (too_large rest m (ltb-false m (2 ^ 64) e))

    go : (digit : Option ℕ) → in64_bits (digit >>= λ d. digits_of (n * 10 + d) rest) ≡ (in64_bits (digit >>= λ d. Some (n * 10 + d)) >>= λ m. in64_bits (digits_of m rest))
    go (Some d) = fit (n * 10 + d) (ltb (n * 10 + d) (2 ^ 64)) refl
    go None = refl

pub in64-below : (said : Option ℕ) {m : ℕ} → in64_bits said ≡ Some m → m < 2 ^ 64
in64-below (Some n) {m} e = go (ltb n (2 ^ 64)) refl e
  where
    go : (b : Bool) → ltb n (2 ^ 64) ≡ b → provided b n ≡ Some m → m < 2 ^ 64
    go true f e = let same : n ≡ m = cc in omega (arith, ltb-true n (2 ^ 64) f)
    go false f e = cc
in64-below None e = cc
