-- What the answer of a search says.
use Rattle.std.specs.Prelude.{Option, Some, None}
use Rattle.tlvs.specs.declared.search.Found.{Found}
use Rattle.tlvs.specs.Search.{Search, found, nothing}

abbrev pub said_found : {A : Type 0} → Option (Found A) → Search A
said_found (Some f) = found f.«record» f.item f.behind
said_found None = nothing
