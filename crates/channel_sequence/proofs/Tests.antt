-- A test of a run of bytes by their places is that of the list from its front: of every byte, and of every second one.
-- Assumes nothing.
use Prim.Native.Nat.{ℕ, zero, suc, ◌*◌, ◌≤◌, ◌<◌}
use native.Mathlib.Omega.{arith}
use mathlib.Core.Path.{◌≡◌, refl, sym}
use mathlib.Core.Logic.{◌↔◌}
use mathlib.Core.Bool.{Bool, true, false}
use mathlib.Core.List.{List, [], ◌∷◌}
use lib.Dec.{eqb}
use lib.ListN.{length, get_or}
use borrow.Author.Tests.{eqb-true, eq-eqb, leb-true, le-leb}
use Rattle.wire.proofs.Tests.{both}
use Rattle.channel_sequence.specs.Sequences.{all_zero, flags_fit, all_flags_fit}

same-truth : (a b : Bool) → (a ≡ true → b ≡ true) → (b ≡ true → a ≡ true) → a ≡ b
same-truth true b p q = sym (p refl)
same-truth false true p q = q refl
same-truth false false p q = refl

zeros : (s : List ℕ) → ((k : ℕ) → k < length s → get_or s k 0 ≡ 0) → all_zero s ≡ true
zeros [] each = refl
zeros (b ∷ rest) each = rw (eq-eqb b 0 (each 0 (omega arith)), zeros rest (λ k h. each (suc k) (omega arith)))

zero-at : (s : List ℕ) → all_zero s ≡ true → (k : ℕ) → k < length s → get_or s k 0 ≡ 0
zero-at [] e k h = refl
zero-at (b ∷ rest) e zero h = eqb-true b 0 (both (eqb b 0) (all_zero rest) e).0
zero-at (b ∷ rest) e (suc k) h = zero-at rest (both (eqb b 0) (all_zero rest) e).1 k (omega arith)

pub zero-everywhere : (b : Bool) (s : List ℕ) → (b ≡ true) ↔ ((k : ℕ) → k < length s → get_or s k 0 ≡ 0) → b ≡ all_zero s
zero-everywhere b s e = same-truth b (all_zero s) (λ t. zeros s (e.0 t)) (λ t. e.1 (zero-at s t))

fitting : (s : List ℕ) → ((k : ℕ) → k * 2 < length s → get_or s (k * 2) 0 ≤ 0x3F) → all_flags_fit s ≡ true
fitting [] each = refl
fitting (flags ∷ []) each = le-leb flags 0x3F (each 0 (omega arith))
fitting (flags ∷ channel ∷ rest) each = rw (le-leb flags 0x3F (each 0 (omega arith)), fitting rest (λ k h. let even : suc k * 2 ≡ suc (suc (k * 2)) = omega arith in rw even at (each (suc k) (omega arith))))

fits-at : (s : List ℕ) → all_flags_fit s ≡ true → (k : ℕ) → k * 2 < length s → get_or s (k * 2) 0 ≤ 0x3F
fits-at [] e k h = absurd (omega arith)
fits-at (flags ∷ []) e zero h = leb-true flags 0x3F e
fits-at (flags ∷ []) e (suc k) h = absurd (omega arith)
fits-at (flags ∷ channel ∷ rest) e zero h = leb-true flags 0x3F (both (flags_fit flags) (all_flags_fit rest) e).0
fits-at (flags ∷ channel ∷ rest) e (suc k) h =
    let even : suc k * 2 ≡ suc (suc (k * 2)) = omega arith in
    rw even (fits-at rest (both (flags_fit flags) (all_flags_fit rest) e).1 k (omega arith))

pub fits-everywhere : (b : Bool) (s : List ℕ) → (b ≡ true) ↔ ((k : ℕ) → k * 2 < length s → get_or s (k * 2) 0 ≤ 0x3F) → b ≡ all_flags_fit s
fits-everywhere b s e = same-truth b (all_flags_fit s) (λ t. fitting s (e.0 t)) (λ t. e.1 (fits-at s t))
