-- What an answer of the code says.
use Rattle.std.specs.Prelude.{ℕ, Result, Ok, Err}
use Rattle.wire.specs.declared.refusal.Refusal.{Refusal}
use Rattle.wire.specs.Reading.{Reading, read, refused}
use Rattle.wire.specs.Answer.{Answer, answer, refusal}

-- of a reader: a value and the place behind it, or why there is none
abbrev pub said : {A : Type 0} → Result (A × ℕ) Refusal → Reading A
said (Ok found) = read found.0 found.1
said (Err why) = refused why

-- of a call that reads nothing
abbrev pub told : {A : Type 0} → Result A Refusal → Answer A
told (Ok a) = answer a
told (Err why) = refusal why
