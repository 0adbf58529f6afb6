-- The number, the offset and the values that an answer stands for: number 0 and offset 0 where nothing is refused; on a refusal
-- its number, its offset, the zero value and the size 0.
use Rattle.std.specs.Prelude.{ℕ, ◌-◌, Result}
use Rattle.wire.specs.declared.refusal.Refusal.{Refusal}
use Rattle.wire.specs.Refusals.{number_of, offset_of}
use Rattle.wire.specs.Reading.{Reading, read, refused}
use Rattle.wire.specs.Answer.{Answer, answer, refusal}
use Rattle.wire.specs.Said.{said, told}

pub record Outcome (A : Type 0) : Type 0 where
  pub number : ℕ
  pub offset : ℕ
  pub value : A
  pub size : ℕ

-- of a reader that started at a place, with the zero value of what it reads
abbrev pub outcome : {A : Type 0} → A → ℕ → Reading A → Outcome A
outcome nothing at (read a next) = record { number = 0; offset = 0; value = a; size = next - at }
outcome nothing at (refused why) = record { number = number_of why; offset = offset_of why; value = nothing; size = 0 }

pub record Reply (A : Type 0) : Type 0 where
  pub number : ℕ
  pub offset : ℕ
  pub value : A

-- of a call that reads nothing, with the zero value of what it answers
abbrev pub reply : {A : Type 0} → A → Answer A → Reply A
reply nothing (answer a) = record { number = 0; offset = 0; value = a }
reply nothing (refusal why) = record { number = number_of why; offset = offset_of why; value = nothing }

-- the same of the answers of the code
abbrev pub outcome_of : {A : Type 0} → A → ℕ → Result (A × ℕ) Refusal → Outcome A
outcome_of nothing at r = outcome nothing at (said r)

abbrev pub reply_of : {A : Type 0} → A → Result A Refusal → Reply A
reply_of nothing r = reply nothing (told r)
