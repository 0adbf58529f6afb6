-- What a place that was given tells of the field in front of it, what a refusal tells of the fields behind, and the bytes between places.
-- Assumes nothing.
use Prim.Native.Nat.{ℕ, suc, ◌+◌, ◌-◌, ◌≤◌}
use native.Mathlib.Omega.{arith}
use mathlib.Core.Path.{◌≡◌, sym, ap, ◌∙◌}
use mathlib.Core.List.{List, ◌∷◌, ◌++◌}
use lib.ListN.{length, get_or, take, drop, length-take, length-drop}
use lib.Seq.{take_all, take-add, drop-drop}
use borrow.Author.Tests.{lt-leb}
use Rattle.wire.specs.declared.refusal.Refusal.{Refusal}
use Rattle.wire.specs.declared.refusal.Refusal.TheVariants.{Short}
use Rattle.wire.specs.Reading.{Reading, read, refused, field, give, ◌>>=◌}
use Rattle.wire.specs.Answer.{answer, place_of}
use Rattle.wire.specs.Parts.{between}
use Rattle.wire.proofs.Lawful.{steps, part-between, field-read, field-refused}
use Rattle.wire.proofs.Bytes.{PlacedField, from, field-whole}

-- a reading that has no value but its place is that place
pub passed : (r : Reading (Unit {0})) {next : ℕ} → answer next ≡ place_of r → r ≡ read tt next
passed (read a place) {next} e = let same : next ≡ place = cc in ap (read tt) (sym same)
passed (refused why) e = absurd cc

-- a field whose place was given begins with the byte at its start
pub begins : {n : ℕ} {s : List ℕ} {at next : ℕ} → PlacedField (suc n) s at next → field (suc n) s at ≡ read (get_or s at 0 ∷ from s at 1 n) next
begins {n} {s} {at} p = rw p.place (field-whole n s at (omega arith))

-- a field that was read stood within
pub field-inside : (n : ℕ) (s : List ℕ) (at : ℕ) {a : List ℕ} {next : ℕ} → field n s at ≡ read a next
    → (next ≡ at + n) × (at + n ≤ length s)
field-inside n s at e = let f = field-read n s at e in (sym f.0, f.1)

-- and so for what was made of a field
pub made_inside : {A : Type 0} (n : ℕ) (s : List ℕ) (at : ℕ) (g : List ℕ → A) {a : A} {next : ℕ}
    → (field n >>= λ x. give (g x)) s at ≡ read a next → (next ≡ at + n) × (at + n ≤ length s)
made_inside n s at g {a} {next} e =
    let p = steps (field n s at) (λ x next. give (g x) s next) e in
    let same : p.mid ≡ next = let e' = p.goes in cc in
    let f = field-inside n s at p.begins in
    omega arith

-- a field that was read has the bytes that were asked for
pub field-size : (n : ℕ) (s : List ℕ) (at : ℕ) {a : List ℕ} {next : ℕ} → field n s at ≡ read a next → length a ≡ n
field-size n s at e =
    let f = field-read n s at e in
    rw (← f.2) (simp (length-drop, length-take) (omega arith))

-- behind a field that does not fit, no other one does
pub field_past : (n m : ℕ) (s : List ℕ) (at : ℕ) {why : Refusal} → field n s at ≡ refused why → field m s (at + n) ≡ refused (Short (at + n))
field_past n m s at e = let past = field-refused n s at e in rw (lt-leb (at + n + m) (length s) (omega arith))

-- the part from a place to the end
pub rest : (s : List ℕ) (at : ℕ) → take (length s - at) (drop at s) ≡ drop at s
rest s at = take_all (length s - at) (drop at s) (simp length-drop (omega arith))

-- a field that was read is the bytes between the two places
pub field-between : (n : ℕ) (s : List ℕ) (at : ℕ) {a : List ℕ} {next : ℕ} → field n s at ≡ read a next → a ≡ between s at next
field-between n s at {a} {next} e =
    let f = field-read n s at e in
    let many : next - at ≡ n = omega (arith, f.0) in
    rw (many, ← part-between at n s (omega (arith, f.1))) (sym f.2)

pub between-both : (s : List ℕ) (at mid next : ℕ) → at ≤ mid → mid ≤ next → between s at mid ++ between s mid next ≡ between s at next
between-both s at mid next h k =
    let all : next - at ≡ mid - at + (next - mid) = omega arith in
    let there : at + (mid - at) ≡ mid = omega arith in
    let behind : drop (mid - at) (drop at s) ≡ drop mid s = drop-drop (mid - at) at s ∙ rw there in
    sym (rw (all, take-add (mid - at) (next - mid) (drop at s), behind))
