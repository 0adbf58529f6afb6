-- What can be read at all.
use Rattle.std.specs.Prelude.{ℕ, ◌<◌, ◌≡◌, List, get_or}
use Rattle.wire.specs.Reading.{Reader, read}

-- some bytes are read as a value
pub record ReadFromBytes {A : Type 0} (reader : Reader A) (a : A) : Type 0 where
  pub bytes : List ℕ
  pub small : (i : ℕ) → get_or bytes i 0 < 256
  pub size : ℕ
  pub reads : reader bytes 0 ≡ read a size
