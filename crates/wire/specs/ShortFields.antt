-- The field at which a reader is short.
use Rattle.std.specs.Prelude.{◌≡◌, ℕ, ◌+◌, ◌≤◌, ◌<◌, cond, List, [], ◌∷◌, ◌++◌, leb, length, take}
use Rattle.wire.specs.declared.refusal.Refusal.{Refusal}
use Rattle.wire.specs.declared.refusal.Refusal.TheVariants.{Short}
use Rattle.wire.specs.Refusals.{number_of}
use Rattle.wire.specs.Reading.{Reader, read, refused, give, refuse, field, ◌>>=◌}

-- A format is made of these words and of nothing else. So it can neither look at a byte that it does not take nor pass one over, and it
-- is short nowhere but at a field.
pub data Made : (A : Type 0) → Reader A → Type 1 where
  gives : {A : Type 0} (a : A) → Made A (give a)
  refuses : {A : Type 0} (why : Refusal) → ¬ (number_of why ≡ 1) → Made A (refuse why)
  takes : (n : ℕ) → Made (List ℕ) (field n)
  row : {A B : Type 0} (m : Reader A) (f : A → Reader B) → Made A m → ((a : A) → Made B (f a)) → Made B (m >>= f)

-- Reading some bytes from a place, a format comes to a field of n bytes that starts at p: it is the format itself, a field of the
-- format's first part, or one of what follows when that part has been read.
pub data ComesTo : (A : Type 0) → Reader A → List ℕ → ℕ → ℕ → ℕ → Type 1 where
  itself : {s : List ℕ} {at n : ℕ} → ComesTo (List ℕ) (field n) s at at n
  in-first : {A B : Type 0} {m : Reader A} (f : A → Reader B) {s : List ℕ} {at p n : ℕ} → Made A m → ((a : A) → Made B (f a))
      → ComesTo A m s at p n → ComesTo B (m >>= f) s at p n
  in-next : {A B : Type 0} (m : Reader A) (f : A → Reader B) {s : List ℕ} {at mid p n : ℕ} {a : A} → Made A m → ((a : A) → Made B (f a))
      → m s at ≡ read a mid → ComesTo B (f a) s mid p n → ComesTo B (m >>= f) s at p n

-- it comes to a field that starts at p and does not end within the bytes
pub record DoesNotFit {A : Type 0} (r : Reader A) (s : List ℕ) (at p : ℕ) : Type 1 where
  pub width : ℕ
  pub comes : ComesTo A r s at p width
  pub ends : length s < p + width

-- A reader is short at a place exactly where it comes to a field that starts there and does not fit. Told to begin within the bytes, or at
-- their end, it is short at a place that lies neither before the one where it began nor past their end. Which fields a format has is not
-- said here but by its own definition; `CutAt` holds that against a list.
pub record ShortExactly {A : Type 0} (r : Reader A) : Type 1 where
  pub made : Made A r
  pub at-a-field : {s : List ℕ} {at p : ℕ} → r s at ≡ refused (Short p) → DoesNotFit r s at p
  pub only-there : {s : List ℕ} {at p : ℕ} → DoesNotFit r s at p → r s at ≡ refused (Short p)
  pub bounded : {s : List ℕ} {at p : ℕ} → at ≤ length s → r s at ≡ refused (Short p) → (at ≤ p) × (p ≤ length s)

-- the sum of some numbers, as of the widths of fields
abbrev pub total : List ℕ → ℕ
total [] = 0
total (n ∷ ns) = n + total ns

-- Bytes whose fields have these widths, cut at k: the reader is short at the field that holds byte k, the first one that is missing. That
-- field starts behind those in front of it, at most at k, and reaches past k.
pub record CutAt {A : Type 0} (r : Reader A) (s : List ℕ) (widths : List ℕ) (k : ℕ) : Type 0 where
  pub front : List ℕ
  pub width : ℕ
  pub back : List ℕ
  pub fields : widths ≡ front ++ width ∷ back
  pub starts : total front ≤ k
  pub reaches : k < total front + width
  pub short : r (take k s) 0 ≡ refused (Short (total front))

-- among fields in a row, where the first one starts that does not fit; the place behind them where all of them do
abbrev pub first_short : List ℕ → List ℕ → ℕ → ℕ
first_short [] s at = at
first_short (n ∷ ns) s at = cond (leb (at + n) (length s)) (first_short ns s (at + n)) at
