-- Items as their sender has them: a type and a value each.
use Rattle.std.specs.Prelude.{ℕ, ◌≤◌, ◌<◌, List, [], ◌∷◌, ◌++◌, map, length}
use Rattle.tlv_items.specs.declared.item.Item.{Item}
use Rattle.tlv_items.specs.Items.{value_of}
use Rattle.tlv_items.specs.ItemBytes.{type_length_value}
use Rattle.tlv_items.specs.Walk.{walk}

pub record Sent : Type 0 where
  pub type : ℕ
  pub value : List ℕ

-- its type is a byte, and its length can be said
pub record Sendable (it : Sent) : Type 0 where
  pub byte : it.type < 256
  pub short : length it.value ≤ 65535

abbrev pub AllSendable : List Sent → Type 0
AllSendable [] = Unit {0}
AllSendable (it ∷ rest) = Sendable it × AllSendable rest

-- the tail that items write, one behind the other
abbrev pub tail_with : List Sent → List ℕ
tail_with [] = []
tail_with (it ∷ rest) = type_length_value it.type it.value ++ tail_with rest

-- the items that the walk of a tail gives
abbrev pub sent : List ℕ → Item → Sent
sent tail it = record { type = it.tlv_type; value = value_of tail it }

abbrev pub sent_in : List ℕ → List Sent
sent_in tail = map (sent tail) (walk tail).items
