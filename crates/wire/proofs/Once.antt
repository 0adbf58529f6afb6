-- Only one answer meets each statement: what an answer says can be turned back into the answer.
-- Assumes nothing.
use Prim.Native.Nat.{ℕ}
use mathlib.Core.Path.{◌≡◌, refl, sym, ap, ◌∙◌}
use Rattle.std.specs.Prelude.{Result, Ok, Err}
use Rattle.wire.specs.declared.refusal.Refusal.{Refusal}
use Rattle.wire.specs.Reading.{Reading, read, refused}
use Rattle.wire.specs.Answer.{Answer, answer, refusal}
use Rattle.wire.specs.Said.{said, told}

-- two answers of which the same was said, by a saying that can be undone, are one
pub only_one : {A B : Type 0} (saying : A → B) (undo : B → A) → ((a : A) → undo (saying a) ≡ a) → {m : B} {a b : A} → saying a ≡ m → saying b ≡ m → a ≡ b
only_one saying undo back {m} {a} {b} p q = sym (back a) ∙ ap undo (p ∙ sym q) ∙ back b

-- an answer made of what is said of it, case by case
abbrev pub of_reading : {A : Type 0} → Reading A → Result (A × ℕ) Refusal
of_reading (read a next) = Ok (a, next)
of_reading (refused why) = Err why

abbrev pub of_answer : {A : Type 0} → Answer A → Result A Refusal
of_answer (answer a) = Ok a
of_answer (refusal why) = Err why

pub once_said : {A : Type 0} {m : Reading A} {a b : Result (A × ℕ) Refusal} → said a ≡ m → said b ≡ m → a ≡ b
once_said = only_one said of_reading (elim [ Ok found ↦ refl | Err why ↦ refl ])

pub once_told : {A : Type 0} {m : Answer A} {a b : Result A Refusal} → told a ≡ m → told b ≡ m → a ≡ b
once_told = only_one told of_answer (elim [ Ok a ↦ refl | Err why ↦ refl ])
