-- Only one answer meets each statement: the statements of what a word says and of bytes that are put are equations, and a test of which
-- both directions are known is true or false by them.
-- Assumes nothing.
use Prim.Native.Nat.{ℕ}
use mathlib.Core.Path.{◌≡◌, refl, sym, ◌∙◌}
use mathlib.Core.Bool.{Bool, true, false}
use mathlib.Core.List.{List}
use lib.Dec.{eqb}
use Rattle.std.specs.Prelude.{Option, Result}
use Rattle.std.specs.Cmp.Lexicographic.{pointwise}
use Rattle.std.proofs.lemmas.Slice.Eq.{bytes_eq-Decides}
use Rattle.text.specs.declared.hex.HexError.{HexError}
use Rattle.text.specs.Into.{PutSaid, TellsSame}

pub once_decimal : {m a b : Option ℕ} → a ≡ m → b ≡ m → a ≡ b
once_decimal p q = p ∙ sym q

-- one answer and one buffer
pub once_put_said : {s : List ℕ} {at : ℕ} {said : Option (List ℕ)} {a b : Result ℕ HexError} {t u : List ℕ} → PutSaid s at said a t → PutSaid s at said b u → (a ≡ b) × (t ≡ u)
once_put_said p q = (p.place ∙ sym q.place, p.buffer ∙ sym q.buffer)

-- a test that tells lists apart has one answer for each two of them
pub once_same : {xs ys : List ℕ} (a b : Bool) → TellsSame xs ys a → TellsSame xs ys b → a ≡ b
once_same true b p q = sym (q.always (p.only refl))
once_same false true p q = p.always (q.only refl)
once_same false false p q = refl

-- and the library's equality of slices, by which words are told apart, is such a test
pub std_same : (xs ys : List ℕ) → TellsSame xs ys (pointwise eqb xs ys)
std_same xs ys = let d = bytes_eq-Decides xs ys in record { only = d.0; always = d.1 }
