-- Only one answer meets the statement of a search: what it says can be turned back into the answer.
-- Assumes nothing.
use mathlib.Core.Path.{◌≡◌, refl}
use Rattle.std.specs.Prelude.{Option, Some, None}
use Rattle.wire.proofs.Once.{only_one}
use Rattle.tlvs.specs.declared.search.Found.{Found}
use Rattle.tlvs.specs.Search.{Search, found, nothing}
use Rattle.tlvs.specs.Said.{said_found}

pub once_found : {A : Type 0} {m : Search A} {a b : Option (Found A)} → said_found a ≡ m → said_found b ≡ m → a ≡ b
once_found =
    only_one said_found
    (elim [ found content it next ↦ Some (record { «record» = content; item = it; behind = next }) | nothing ↦ None ])
    (elim [ Some f ↦ refl | None ↦ refl ])
