-- What a call answers that reads nothing: a `Reading` without the place.
use Rattle.std.specs.Prelude.{ℕ, Bool, true, false}
use Rattle.wire.specs.declared.refusal.Refusal.{Refusal}
use Rattle.wire.specs.Reading.{Reading, Reader, read, refused}

pub data Answer (A : Type 0) : Type 0 where
  answer : A → Answer A
  refusal : Refusal → Answer A

-- what was answered is handed on, and a refusal ends it
infixl 20 ◌>>=◌
abbrev pub ◌>>=◌ : {A B : Type 0} → Answer A → (A → Answer B) → Answer B
answer a >>= f = f a
refusal why >>= f = refusal why

infixl 20 ◌>>◌
abbrev pub ◌>>◌ : {B : Type 0} → Answer (Unit {0}) → Answer B → Answer B
answer a >> b = b
refusal why >> b = refusal why

-- a test that has to hold, or the call refuses
abbrev pub require : Bool → Refusal → Answer (Unit {0})
require true why = answer tt
require false why = refusal why

-- an answer in the midst of a format takes no byte
abbrev pub asked : {A : Type 0} → Answer A → Reader A
asked (answer a) s at = read a at
asked (refusal why) s at = refused why

-- the place that a reading gives
abbrev pub place_of : {A : Type 0} → Reading A → Answer ℕ
place_of (read a next) = answer next
place_of (refused why) = refusal why
