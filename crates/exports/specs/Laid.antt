-- What a reader lays down that reads a record straight into its numbers: the place behind it, beside the numbers. Where it refused, what stands
-- among them is not said.
use Rattle.std.specs.Prelude.{ℕ, List, Result, Ok, Err}
use Rattle.wire.specs.declared.refusal.Refusal.{Refusal}
use Rattle.wire.specs.Reading.{Reading, Reader, read, refused, give, ◌>>=◌}

abbrev pub beside : {A : Type 0} → Result ℕ Refusal → A → Reading A
beside (Ok next) a = read a next
beside (Err why) a = refused why

-- what is read, as its numbers
abbrev pub numbered : {A : Type 0} → (A → List ℕ) → Reader A → Reader (List ℕ)
numbered numbers_of r = r >>= λ a. give (numbers_of a)
