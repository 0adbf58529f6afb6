-- The words in which formats are defined.
use Rattle.std.specs.Prelude.{ℕ, ◌+◌, Bool, true, false, cond, List, leb, length, take, drop}
use Rattle.wire.specs.declared.refusal.Refusal.{Refusal}
use Rattle.wire.specs.declared.refusal.Refusal.TheVariants.{Short}

-- what a reader finds: a value and the place where the next one starts, or why there is none
pub data Reading (A : Type 0) : Type 0 where
  read : A → ℕ → Reading A
  refused : Refusal → Reading A

-- a reader is given all the bytes and the place at which it starts
abbrev pub Reader : Type 0 → Type 0
Reader A = List ℕ → ℕ → Reading A

-- a value that takes no byte
abbrev pub give : {A : Type 0} → A → Reader A
give a s at = read a at

abbrev pub refuse : {A : Type 0} → Refusal → Reader A
refuse why s at = refused why

-- the next n bytes; a list that ends before the last of them, or before the place, is short at the place
abbrev pub field : ℕ → Reader (List ℕ)
field n s at = cond (leb (at + n) (length s)) (read (take n (drop at s)) (at + n)) (refused (Short at))

-- what was read is handed on, and a refusal ends it
abbrev pub onward : {A B : Type 0} → Reading A → (A → ℕ → Reading B) → Reading B
onward (read a next) f = f a next
onward (refused why) f = refused why

-- one reader behind the other
infixl 20 ◌>>=◌
abbrev pub ◌>>=◌ : {A B : Type 0} → Reader A → (A → Reader B) → Reader B
◌>>=◌ m f s at = onward (m s at) (λ a next. f a s next)

-- a field that is there only where a test holds, and what stands for it elsewhere
abbrev pub when : {A : Type 0} → Bool → A → Reader A → Reader A
when true absent r = r
when false absent r = give absent
