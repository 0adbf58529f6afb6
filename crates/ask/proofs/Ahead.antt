-- What a search finds lies ahead of its place, since an item takes bytes of the tail.
-- Assumes nothing.
use Rattle.std.proofs.Common.{◌≡◌, ℕ, ◌-◌, ◌<◌, List, length, Option, Some, sym, ap, ◌∙◌, arith}
use Rattle.wire.specs.Reading.{Reader}
use Rattle.tlvs.specs.declared.search.Found.{Found}
use Rattle.tlvs.specs.Said.{said_found}
use Rattle.tlvs.specs.Search.{next_from}
use Rattle.tlvs.proofs.Searches.{finds}

pub found-ahead : {A : Type 0} (type : ℕ) (reader : Reader A) (tail : List ℕ) (place : ℕ) {answer : Option (Found A)} {f : Found A}
    → said_found answer ≡ next_from type reader tail place → answer ≡ Some f → length tail - f.behind < length tail - place
found-ahead type reader tail place p q = let w = finds type reader tail place (sym p ∙ ap said_found q) in omega arith
