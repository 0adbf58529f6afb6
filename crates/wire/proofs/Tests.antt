-- What tests that were joined tell of each other: by cases on them.
-- Assumes nothing.
use Prim.Native.Nat.{ℕ, zero, suc}
use native.Mathlib.Omega.{arith}
use mathlib.Core.Path.{◌≡◌, refl, sym}
use lib.ListN.{get_or}
use mathlib.Core.List.{List, [], ◌∷◌}
use mathlib.Core.Bool.{Bool, true, false, not, ◌&&◌, ◌||◌, beq}

pub never_true : false ≡ true → ⊥
never_true e = let z : ◌≡◌ {A = ℕ} 0 1 = cc in omega arith

pub both : (a b : Bool) → (a && b) ≡ true → (a ≡ true) × (b ≡ true)
both true b e = (refl, e)
both false b e = absurd (never_true e)

pub beq_same : (a b : Bool) → beq a b ≡ true → a ≡ b
beq_same true true e = refl
beq_same true false e = absurd (never_true e)
beq_same false true e = absurd (never_true e)
beq_same false false e = refl

pub other : (a b : Bool) → (a || b) ≡ true → a ≡ false → b ≡ true
other true b e f = absurd (never_true (sym f))
other false b e f = e

pub implied : (a b : Bool) → (not a || b) ≡ true → b ≡ false → a ≡ false
implied true true e f = absurd (never_true (sym f))
implied true false e f = absurd (never_true e)
implied false b e f = refl

-- a row of tests, joined from the left, and that each of them holds
abbrev pub all_true : Bool → List Bool → Bool
all_true a [] = a
all_true a (b ∷ rest) = all_true (a && b) rest

abbrev pub Each : List Bool → Type 0
Each [] = Unit {0}
Each (b ∷ rest) = (b ≡ true) × Each rest

row_first : (a : Bool) (rest : List Bool) → all_true a rest ≡ true → a ≡ true
row_first a [] e = e
row_first a (b ∷ rest) e = (both a b (row_first (a && b) rest e)).0

pub each : (a : Bool) (rest : List Bool) → all_true a rest ≡ true → Each (a ∷ rest)
each a [] e = (e, tt)
each a (b ∷ rest) e =
    let first = both a b (row_first (a && b) rest e) in
    (first.0, (first.1, (each (a && b) rest e).1))

-- the same by a test's place in the row
pub nth : (a : Bool) (rest : List Bool) → all_true a rest ≡ true → (i : ℕ) → get_or rest i true ≡ true
nth a [] e i = refl
nth a (b ∷ rest) e zero = (both a b (row_first (a && b) rest e)).1
nth a (b ∷ rest) e (suc i) = nth (a && b) rest e i

pub joined : (a : Bool) (rest : List Bool) → Each (a ∷ rest) → all_true a rest ≡ true
joined a [] e = e.0
joined a (b ∷ rest) e = joined (a && b) rest (rw (e.0, e.1.0), e.1.1)

-- a test against its equal
pub same-as : (a b : Bool) → a ≡ b → beq a b ≡ true
same-as true b e = rw (← e)
same-as false b e = rw (← e)
