-- What goes only with another adds nothing to it, and what is zero where it is missing is itself: by cases on Booleans.
-- Assumes nothing.
use Prim.Native.Nat.{ℕ}
use Rattle.data_path_state.specs.Consistent.{is_zero}
use Rattle.wire.proofs.Tests.{all_true, nth}
use borrow.Author.Tests.{eqb-true}
use lib.Dec.{eqb}
use lib.ListN.{get_or, get_or-map}
use mathlib.Core.Bool.{Bool, true, false, cond, not, ◌&&◌, ◌||◌, and-eq-true_iff, or-true, true≢false, false≢true}
use mathlib.Core.List.{List, map}
use mathlib.Core.Path.{◌≡◌, refl, sym, ◌∙◌}

infixl 35 ◌and◌
pub ◌and◌ : {a b : Bool} → a ≡ true → b ≡ true → (a && b) ≡ true
◌and◌ {a} {b} p q = (and-eq-true_iff a b).1 (p, q)

-- numbers that all pass that test
pub each-zero : (ns : List ℕ) → all_true true (map is_zero ns) ≡ true → (i : ℕ) → get_or ns i 0 ≡ 0
each-zero ns e i = eqb-true (get_or ns i 0) 0 (sym (get_or-map is_zero ns i 0) ∙ nth true (map is_zero ns) e i)

-- a thing that goes only with another adds nothing to it
pub adds_none : (o e : Bool) → (not e || o) ≡ true → (o || e) ≡ o
adds_none true e t = refl
adds_none false true t = sym t
adds_none false false t = refl

-- one of several goes only with any of them
pub last_of : (a b : Bool) → (not b || (a || b)) ≡ true
last_of a true = or-true a
last_of a false = refl

pub one_of : (a b c : Bool) → (not b || a) ≡ true → (not b || (a || c)) ≡ true
one_of true b c t = or-true (not b)
one_of false true c t = absurd (false≢true t)
one_of false false c t = refl

pub neither : (a b : Bool) → (a || b) ≡ false → (a ≡ false) × (b ≡ false)
neither true b e = absurd (true≢false e)
neither false b e = (refl, e)

-- a number that is zero where it is missing
pub number_same : (b : Bool) (n : ℕ) → (b || eqb n 0) ≡ true → cond b n 0 ≡ n
number_same true n t = refl
number_same false n t = sym (eqb-true n 0 t)
