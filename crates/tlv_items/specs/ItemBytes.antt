-- What is written of an item.
use Rattle.std.specs.Prelude.{ℕ, ◌+◌, List, ◌++◌, leb, length}
use Rattle.wire.specs.declared.refusal.Refusal.TheVariants.{TooLong}
use Rattle.wire.specs.Answer.{Answer, answer, require, ◌>>=◌, ◌>>◌}
use Rattle.wire.specs.Numbers.{little_bytes}

-- type, length and value
abbrev pub type_length_value : ℕ → List ℕ → List ℕ
type_length_value type value = little_bytes 1 type ++ little_bytes 2 (length value) ++ value

-- the size of an item whose value has some bytes; more than its length can say are refused
abbrev pub item_size : ℕ → Answer ℕ
item_size bytes = do
  require (leb bytes 65535) TooLong
  answer (3 + bytes)

abbrev pub item_bytes : ℕ → List ℕ → Answer (List ℕ)
item_bytes type value = do
  _ ← item_size (length value)
  answer (type_length_value type value)
