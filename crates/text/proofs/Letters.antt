-- A letter is a digit where it stands among the digits: by the two tests that say so.
-- Assumes nothing.
use Prim.Native.Nat.{ℕ, ◌+◌, ◌-◌, ◌≤◌, ◌<◌}
use native.Mathlib.Omega.{arith}
use mathlib.Core.Path.{◌≡◌, refl, ap, ◌∙◌}
use mathlib.Core.Bool.{Bool, true, false, cond, ◌&&◌}
use lib.Dec.{leb, ltb}
use borrow.Author.Tests.{le-leb, leb-true, ltb-true, ltb-false}
use Rattle.wire.proofs.Tests.{both}
use Rattle.text.specs.Text.{hex_digit}
use Rattle.std.specs.Prelude.{Some, None}
use Rattle.text.specs.Words.{among, hex_digit_of}

pub among_in : {first last n : ℕ} → first ≤ n → n ≤ last → among first last n ≡ true
among_in {first} {last} {n} h k = rw (le-leb first n h, le-leb n last k)

pub among-out : (first last n : ℕ) → (first ≤ n → n ≤ last → ⊥) → among first last n ≡ false
among-out first last n outside = go (leb first n) refl (leb n last) refl
  where
    go : (a : Bool) → leb first n ≡ a → (b : Bool) → leb n last ≡ b → (a && b) ≡ false
    go true p true q = absurd (outside (leb-true first n p) (leb-true n last q))
    go true p false q = refl
    go false p b q = refl

-- a hex digit is of one of three kinds, and any other letter is none
module _ (letter : ℕ) where
  pub decimal_digit : 48 ≤ letter → letter ≤ 57 → hex_digit_of letter ≡ Some (letter - 48)
  decimal_digit h k = rw (among_in {first = 48} {last = 57} {n = letter} h k)

  pub upper-digit : 65 ≤ letter → letter ≤ 70 → hex_digit_of letter ≡ Some (letter - 65 + 10)
  upper-digit h k = rw (among-out 48 57 letter (λ a b. omega arith), among_in {first = 65} {last = 70} {n = letter} h k)

  pub lower-digit : 97 ≤ letter → letter ≤ 102 → hex_digit_of letter ≡ Some (letter - 97 + 10)
  lower-digit h k =
      rw (among-out 48 57 letter (λ a b. omega arith), among-out 65 70 letter (λ a b. omega arith), among_in {first = 97} {last = 102} {n = letter} h k)

  pub no_digit : (48 ≤ letter → letter ≤ 57 → ⊥) → (65 ≤ letter → letter ≤ 70 → ⊥) → (97 ≤ letter → letter ≤ 102 → ⊥) → hex_digit_of letter ≡ None
  no_digit f g h = rw (among-out 48 57 letter f, among-out 65 70 letter g, among-out 97 102 letter h)

  pub below-sixteen : {d : ℕ} → hex_digit_of letter ≡ Some d → d < 16
  below-sixteen {d} e = go (among 48 57 letter) refl (among 65 70 letter) refl (among 97 102 letter) refl e
    where
      last_of : (first last : ℕ) → among first last letter ≡ true → letter ≤ last
      last_of first last p = leb-true letter last (both (leb first letter) (leb letter last) p).1

      go : (a : Bool) → among 48 57 letter ≡ a → (b : Bool) → among 65 70 letter ≡ b → (c : Bool) → among 97 102 letter ≡ c
          → cond a (Some (letter - 48)) (cond b (Some (letter - 65 + 10)) (cond c (Some (letter - 97 + 10)) None)) ≡ Some d → d < 16
      go true p b q c r e = let same : letter - 48 ≡ d = cc in omega (arith, last_of 48 57 p)
      go false p true q c r e = let same : letter - 65 + 10 ≡ d = cc in omega (arith, last_of 65 70 q)
      go false p false q true r e = let same : letter - 97 + 10 ≡ d = cc in omega (arith, last_of 97 102 r)
      go false p false q false r e = cc

-- the letter of a hex digit says that digit
pub digit-again : (d : ℕ) → d < 16 → hex_digit_of (hex_digit d) ≡ Some d
digit-again d h = go (ltb d 10) refl
  where
    go : (b : Bool) → ltb d 10 ≡ b → hex_digit_of (cond b (48 + d) (65 + (d - 10))) ≡ Some d
    go true e = let few = ltb-true d 10 e in decimal_digit (48 + d) (omega arith) (omega arith) ∙ ap Some (omega arith)
    go false e = let more = ltb-false d 10 e in upper-digit (65 + (d - 10)) (omega arith) (omega arith) ∙ ap Some (omega arith)
