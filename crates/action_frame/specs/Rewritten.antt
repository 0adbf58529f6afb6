-- What of a header comes back when it is written again: its 12 bytes, each as it stands.
use Rattle.std.specs.Prelude.{ℕ, List}
use Rattle.wire.specs.Reading.{Reader, field}

abbrev pub rewritten : Reader (List ℕ)
rewritten = field 12
