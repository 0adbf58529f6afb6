-- Numbers: little-endian, whatever the board.
use Rattle.std.specs.Prelude.{ℕ, zero, suc, ◌+◌, ◌*◌, ◌/◌, ◌%◌, ◌^◌, ◌<◌, Bool, List, [], ◌∷◌, ◌++◌, eqb, get_or}
use Rattle.wire.specs.Reading.{Reader, field, give, ◌>>=◌}

-- the number that some bytes write, lowest byte first
abbrev pub little : List ℕ → ℕ
little [] = 0
little (b ∷ bs) = b + 256 * little bs

-- the bytes that write a number, as many as the width says
abbrev pub little_bytes : ℕ → ℕ → List ℕ
little_bytes zero v = []
little_bytes (suc width) v = v % 256 ∷ little_bytes width (v / 256)

abbrev pub number : ℕ → Reader ℕ
number width = do
  bytes ← field width
  give (little bytes)

-- a byte and the reserved byte behind it, which belongs to it: the two are one field
abbrev pub pair_of : List ℕ → ℕ × ℕ
pair_of bytes = (get_or bytes 0 0, get_or bytes 1 0)

abbrev pub with_reserved : Reader (ℕ × ℕ)
with_reserved = do
  bytes ← field 2
  give (pair_of bytes)

abbrev pub pair_bytes : ℕ → ℕ → List ℕ
pair_bytes byte reserved = little_bytes 1 byte ++ little_bytes 1 reserved

-- some bits of a word as a number, and one bit as a test
abbrev pub bits : ℕ → ℕ → ℕ → ℕ
bits from many w = w / 2 ^ from % 2 ^ many

abbrev pub bit : ℕ → ℕ → Bool
bit k w = eqb (bits k 1 w) 1

-- numbers, each with the width of its field, that are below what their bytes can write
pub data AllInWidth : List (ℕ × ℕ) → Type 0 where
  none : AllInWidth []
  one : {width v : ℕ} {others : List (ℕ × ℕ)} → v < 256 ^ width → AllInWidth others → AllInWidth ((width, v) ∷ others)
