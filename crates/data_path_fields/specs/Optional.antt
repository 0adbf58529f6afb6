-- A field that may be missing: read where it is announced, put where it is there, mended and tested by its zero.
use Rattle.std.specs.Prelude.{ℕ, Bool, true, false, cond, ◌||◌, List, []}
use Rattle.wire.specs.Reading.{Reader, give, when, ◌>>=◌}
use Rattle.data_path_fields.specs.declared.optional.Optional.{Optional}

abbrev pub some : {A : Type 0} → A → Optional A
some a = record { present = true; value = a }

-- the field that is missing, by the zero of its value
abbrev pub none : {A : Type 0} → A → Optional A
none zero = record { present = false; value = zero }

-- a field that is there
abbrev pub there : {A : Type 0} → Reader A → Reader (Optional A)
there format = do
  a ← format
  give (some a)

abbrev pub optional : {A : Type 0} → Bool → A → Reader A → Reader (Optional A)
optional present zero format = when present (none zero) (there format)

abbrev pub optional_bytes : {A : Type 0} → (A → List ℕ) → Optional A → List ℕ
optional_bytes bytes o = cond o.present (bytes o.value) []

-- a field that is there is left as it is, and one that is not becomes zero
abbrev pub mended : {A : Type 0} → A → Optional A → Optional A
mended zero o = cond o.present o (none zero)

-- a field that is not there has the value zero
abbrev pub absent_zero : {A : Type 0} → (A → Bool) → Optional A → Bool
absent_zero is_zero o = o.present || is_zero o.value
