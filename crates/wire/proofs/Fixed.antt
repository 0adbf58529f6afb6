-- Formats that begin with fields of fixed widths: where one of these does not fit, the reader refuses, and that goes by the widths alone.
-- Assumes nothing.
use Prim.Native.Nat.{ℕ, ◌+◌, ◌<◌}
use native.Mathlib.Omega.{arith}
use mathlib.Core.Path.{◌≡◌, refl}
use mathlib.Core.Bool.{Bool, true, false}
use mathlib.Core.List.{List, [], ◌∷◌}
use lib.Dec.{leb}
use lib.ListN.{length}
use borrow.Author.Tests.{lt-leb}
use Rattle.wire.specs.declared.refusal.Refusal.{Refusal}
use Rattle.wire.specs.declared.refusal.Refusal.TheVariants.{Short}
use Rattle.wire.specs.Reading.{Reading, Reader, read, refused, give, field, onward, ◌>>=◌}
use Rattle.wire.specs.ShortFields.{total, first_short}
use Rattle.wire.specs.Answer.{Answer, answer, refusal, place_of}
use Rattle.wire.specs.Answer as Answers
use Rattle.wire.specs.Numbers.{little, number}
use Rattle.wire.proofs.Lawful.{Lawful, field-lawful, bind-lawful, made-lawful}

-- what goes on from a place that was given
infixl 20 ◌then◌
abbrev pub ◌then◌ : Answer ℕ → (ℕ → Answer ℕ) → Answer ℕ
◌then◌ = Answers.◌>>=◌

-- the place behind fields of some widths
abbrev pub past : List ℕ → List ℕ → ℕ → Answer ℕ
past [] s at = answer at
past (n ∷ ns) s at = place_of (field n s at) then past ns s

-- fields that do not all stand within are short at the first one that does not
pub past-short : (n : ℕ) (ns : List ℕ) (s : List ℕ) (at : ℕ) → length s < at + total (n ∷ ns)
    → past (n ∷ ns) s at ≡ refusal (Short (first_short (n ∷ ns) s at))
past-short n [] s at h = rw (lt-leb (at + n) (length s) (omega arith))
past-short n (m ∷ ns) s at h = go (leb (at + n) (length s)) refl (past-short m ns s (at + n) (omega arith))
  where
    go : (b : Bool) → leb (at + n) (length s) ≡ b → past (m ∷ ns) s (at + n) ≡ refusal (Short (first_short (m ∷ ns) s (at + n)))
        → past (n ∷ m ∷ ns) s at ≡ refusal (Short (first_short (n ∷ m ∷ ns) s at))
    go true e more = rw e more
    go false e more = rw e

-- a reader of one field of a width: a number, an address, or whatever is made of its bytes
pub record OneField {A : Type 0} (r : Reader A) (width : ℕ) : Type 1 where
  pub lawful : Lawful r
  pub place : (s : List ℕ) (at : ℕ) → place_of (r s at) ≡ place_of (field width s at)

pub made-field : {A : Type 0} (width : ℕ) (g : List ℕ → A) → OneField (field width >>= λ bytes. give (g bytes)) width
made-field {A} width g = record { lawful = made-lawful g (field-lawful width); place = λ s at. go (field width s at) }
  where
    go : (r : Reading (List ℕ)) → place_of (onward {B = A} r (λ bytes next. read (g bytes) next)) ≡ place_of r
    go (read bytes next) = refl
    go (refused why) = refl

-- a format that begins with fields of some widths, and goes on by what it read: where these are refused, so is it
pub record Begins {A : Type 0} (r : Reader A) (widths : List ℕ) : Type 1 where
  pub lawful : Lawful r
  pub refuses : (s : List ℕ) (at : ℕ) (why : Refusal) → past widths s at ≡ refusal why → r s at ≡ refused why

pub begins-any : {A : Type 0} {r : Reader A} → Lawful r → Begins r []
begins-any l = record { lawful = l; refuses = λ s at why e. absurd cc }

pub begins-field : {A B : Type 0} {m : Reader A} {f : A → Reader B} {n : ℕ} {ns : List ℕ}
    → OneField m n → ((a : A) → Begins (f a) ns) → Begins (m >>= f) (n ∷ ns)
begins-field {A} {B} {m} {f} {n} {ns} first rest =
    record { lawful = bind-lawful first.lawful (λ a. (rest a).lawful); refuses = λ s at why e. go s why (m s at) (first.place s at) e }
  where
    go : (s : List ℕ) (why : Refusal) {place : Answer ℕ} (r : Reading A) → place_of r ≡ place → place then past ns s ≡ refusal why
        → onward r (λ a next. f a s next) ≡ refused why
    go s why (read a next) p e = (rest a).refuses s next why (rw (← p) at e)
    go s why (refused other) p e = let e' = rw (← p) at e in let same : other ≡ why = cc in rw same

pub begins-number : {B : Type 0} (width : ℕ) {f : ℕ → Reader B} {ns : List ℕ} → ((v : ℕ) → Begins (f v) ns) → Begins (number width >>= f) (width ∷ ns)
begins-number width = begins-field (made-field width little)

-- what goes on behind such a format begins with the same fields
pub begins-bind : {A B : Type 0} {m : Reader A} {f : A → Reader B} {ns : List ℕ} → Begins m ns → ((a : A) → Lawful (f a)) → Begins (m >>= f) ns
begins-bind b rest = record { lawful = bind-lawful b.lawful rest; refuses = λ s at why e. rw (b.refuses s at why e) }
