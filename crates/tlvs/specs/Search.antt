-- The search for the records of a type, said once over the type's number and its reader.
use Rattle.std.specs.Prelude.{ℕ, ◌+◌, cond, List, [], ◌∷◌, ◌++◌, ◌≡◌, eqb}
use Rattle.wire.specs.Reading.{Reading, Reader, read, refused}
use Rattle.channel_sequence_tlv.specs.declared.channel_sequence_tlv.ChannelSequenceTLV.{ChannelSequenceTLV}
use Rattle.channel_sequence_tlv.specs.SequenceTLVReader.{channel_sequence_record}
use Rattle.data_path_state.specs.declared.data_path_state_tlv.DataPathStateTLV.{DataPathStateTLV}
use Rattle.data_path_state.specs.DataPath.{data_path}
use Rattle.synchronization_parameters.specs.declared.synchronization_parameters_tlv.SynchronizationParametersTLV.{SynchronizationParametersTLV}
use Rattle.synchronization_parameters.specs.SynchronizationReader.{synchronization}
use Rattle.tlv_items.specs.declared.item.Item.{Item}
use Rattle.tlv_items.specs.Items.{value_of}
use Rattle.tlv_items.specs.Walk.{walk_at}

-- a record that its reader accepted, and the item in whose value it stands
pub record Match (A : Type 0) : Type 0 where
  pub content : A
  pub item : Item

-- what a reader's finding makes of an item: one record, or none where the value is refused
abbrev pub kept : {A : Type 0} → Item → Reading A → List (Match A)
kept it (read a size) = record { content = a; item = it } ∷ []
kept it (refused why) = []

-- one item: passed over where it is of another type, and where its value is refused. Bytes behind the record are ignored.
unfoldable pub matched : {A : Type 0} → ℕ → Reader A → List ℕ → Item → List (Match A)
matched type reader tail it = cond (eqb it.tlv_type type) (kept it (reader (value_of tail it) 0)) []

-- some items, in their order
abbrev pub accepted : {A : Type 0} → ℕ → Reader A → List ℕ → List Item → List (Match A)
accepted type reader tail [] = []
accepted type reader tail (it ∷ rest) = matched type reader tail it ++ accepted type reader tail rest

-- all that the walk from a place meets, up to its end, whole or cut
unfoldable pub all_from : {A : Type 0} → ℕ → Reader A → List ℕ → ℕ → List (Match A)
all_from type reader tail at = accepted type reader tail (walk_at tail at).items

-- all of a tail
abbrev pub all_of : {A : Type 0} → ℕ → Reader A → List ℕ → List (Match A)
all_of type reader tail = all_from type reader tail 0

-- what a search finds: a record, its item and the place behind it, from which one goes on; or no such item
pub data Search (A : Type 0) : Type 0 where
  found : A → Item → ℕ → Search A
  nothing : Search A

abbrev pub behind_item : Item → ℕ
behind_item it = it.at + 3 + it.length

abbrev pub first_of : {A : Type 0} → List (Match A) → Search A
first_of [] = nothing
first_of (a ∷ rest) = found a.content a.item (behind_item a.item)

abbrev pub next_from : {A : Type 0} → ℕ → Reader A → List ℕ → ℕ → Search A
next_from type reader tail at = first_of (all_from type reader tail at)

-- the records that a caller is given who asks at a place and goes on behind each find until there is none
pub data GivesRecords {A : Type 0} (search : ℕ → Search A) : ℕ → List (Match A) → Type 0 where
  ends_search : {at : ℕ} → search at ≡ nothing → GivesRecords search at []
  gives_record : {at next : ℕ} {a : A} {it : Item} {rest : List (Match A)} → search at ≡ found a it next
      → GivesRecords search next rest → GivesRecords search at (record { content = a; item = it } ∷ rest)

-- the three types that are read
abbrev pub next_data_path : List ℕ → ℕ → Search DataPathStateTLV
next_data_path = next_from 0x0C data_path

abbrev pub next_synchronization : List ℕ → ℕ → Search SynchronizationParametersTLV
next_synchronization = next_from 0x04 synchronization

abbrev pub next_channel_sequence : List ℕ → ℕ → Search ChannelSequenceTLV
next_channel_sequence = next_from 0x12 channel_sequence_record
