-- A word laid out by runs has the bits that they put and no others, and a word that has just these is laid out as it is: by induction on the runs.
-- Assumes nothing.
use Prim.Native.Nat.{ℕ, suc, ◌+◌, ◌*◌, ◌/◌, ◌%◌, ◌^◌, ◌<◌}
use Rattle.wire.proofs.Tests.{all_true, nth, beq_same}
use Rattle.wire.proofs.Words.{width_of, bit-small, bit-in-word, Agrees, word_same}
use Rattle.wire.specs.Numbers.{bit, bits}
use Rattle.wire.specs.Words.{Run, keep, clear, put, word_by}
use borrow.Author.Tests.{eqb-true, eqb-false}
use lib.Dec.{eqb}
use lib.ListN.{get_or}
use lib.Pow.{pow_pos, high, low, shr-shr}
use mathlib.Core.Bool.{Bool, true, false, cond, beq}
use mathlib.Core.List.{List, [], ◌∷◌, ◌++◌}
use mathlib.Core.Path.{◌≡◌, refl, sym, ap, ◌∙◌}
use native.Mathlib.Nat.{add-zero, mod-lt, div-one}
use native.Mathlib.Omega.{arith}

one_or_zero : (b : Bool) → beq (eqb (cond b 1 0) 1) b ≡ true
one_or_zero true = refl
one_or_zero false = refl

-- a bit that is put announces what it was put for
pub announced : (before : List Run) (b : Bool) (after : List Run) (w : ℕ)
    → beq (bit (width_of before) (word_by (before ++ put b ∷ after) w)) b ≡ true
announced before b after w = rw (bit-in-word before b after w) (one_or_zero b)

-- the tests of the bits that are put, from a place on
abbrev pub announcements : ℕ → List Run → ℕ → List Bool
announcements k [] w = []
announcements k (keep n ∷ rest) w = announcements (k + n) rest w
announcements k (clear n ∷ rest) w = announcements (k + n) rest w
announcements k (put b ∷ rest) w = beq (bit k w) b ∷ announcements (k + 1) rest w

-- the cleared bits are 0, and so are those behind the last run
abbrev pub Spare : ℕ → List Run → ℕ → Type 0
Spare k [] w = w / 2 ^ k ≡ 0
Spare k (keep n ∷ rest) w = Spare (k + n) rest w
Spare k (clear n ∷ rest) w = (bits k n w ≡ 0) × Spare (k + n) rest w
Spare k (put b ∷ rest) w = Spare (k + 1) rest w

-- what stands above the first run of a word
above : (n k w x : ℕ) {y : ℕ} → y < 2 ^ n → w / 2 ^ k ≡ x * 2 ^ n + y → w / 2 ^ (k + n) ≡ x
above n k w x h e = sym (shr-shr w k n) ∙ ap (λ (q : ℕ). q / 2 ^ n) e ∙ high x n h

spare-from : (k : ℕ) (runs : List Run) (w v : ℕ) → w / 2 ^ k ≡ word_by runs v → Spare k runs w
spare-from k [] w v e = e
spare-from k (keep n ∷ rest) w v e =
    spare-from (k + n) rest w (v / 2 ^ n) (above n k w (word_by rest (v / 2 ^ n)) (mod-lt v (pow_pos n)) e)
spare-from k (clear n ∷ rest) w v e =
    let x : ℕ = word_by rest (v / 2 ^ n) in
    let e₀ : w / 2 ^ k ≡ x * 2 ^ n + 0 = e ∙ sym (add-zero (x * 2 ^ n)) in
    (ap (λ (q : ℕ). q % 2 ^ n) e₀ ∙ low x n (pow_pos n), spare-from (k + n) rest w (v / 2 ^ n) (above n k w x (pow_pos n) e₀))
spare-from k (put b ∷ rest) w v e =
    spare-from (k + 1) rest w (v / 2 ^ 1) (above 1 k w (word_by rest (v / 2 ^ 1)) (bit-small b) e)

pub word-spare : (runs : List Run) (w : ℕ) → Spare 0 runs (word_by runs w)
word-spare runs w = spare-from 0 runs (word_by runs w) w (div-one (word_by runs w))

bit-value : (b : Bool) (n : ℕ) → n < 2 → eqb n 1 ≡ b → n ≡ cond b 1 0
bit-value true n h e = eqb-true n 1 e
bit-value false n h e = omega (arith, eqb-false n 1 e)

agrees_from : (k : ℕ) (runs : List Run) (w : ℕ)
    → ((i : ℕ) → get_or (announcements k runs w) i true ≡ true) → Spare k runs w → Agrees runs (w / 2 ^ k)
agrees_from k [] w t s = s
agrees_from k (keep n ∷ rest) w t s = rw (shr-shr w k n) (agrees_from (k + n) rest w t s)
agrees_from k (clear n ∷ rest) w t s = (s.0, rw (shr-shr w k n) (agrees_from (k + n) rest w t s.1))
agrees_from k (put b ∷ rest) w t s = (
  bit-value b (bits k 1 w) (mod-lt (w / 2 ^ k) (pow_pos 1)) (beq_same (bit k w) b (t 0)),
  rw (shr-shr w k 1) (agrees_from (k + 1) rest w (λ i. t (suc i)) s),
)

pub announced-same : (runs : List Run) (w : ℕ) → all_true true (announcements 0 runs w) ≡ true → Spare 0 runs w → word_by runs w ≡ w
announced-same runs w e s = word_same runs w (rw div-one at (agrees_from 0 runs w (nth true (announcements 0 runs w) e) s))
