-- The records of a tail depend on the types and values of its items alone. An item of another type adds none, and bytes behind an accepted value change none: readers are lawful.
-- Assumes nothing.
use Prim.Native.Nat.{ℕ}
use native.Mathlib.Omega.{arith}
use mathlib.Core.Path.{◌≡◌, refl, sym, ap₂, ◌∙◌}
use mathlib.Core.Bool.{Bool, true, false, cond}
use mathlib.Core.List.{List, [], ◌∷◌, ◌++◌, map, map-append}
use lib.Dec.{eqb}
use borrow.Author.Tests.{ne_eqb}
use Rattle.wire.specs.Reading.{Reading, Reader, read, refused}
use Rattle.wire.proofs.Lawful.{Lawful, grown}
use Rattle.channel_sequence_tlv.specs.SequenceTLVReader.{channel_sequence_record}
use Rattle.channel_sequence_tlv.proofs.SequenceTLVs.{channel-sequence-lawful}
use Rattle.data_path_state.specs.DataPath.{data_path}
use Rattle.data_path_state.proofs.Laid.{data-path-laid}
use Rattle.synchronization_parameters.specs.SynchronizationReader.{synchronization}
use Rattle.synchronization_parameters.proofs.Whole.{synchronization-lawful}
use Rattle.tlv_items.specs.declared.item.Item.{Item}
use Rattle.tlv_items.specs.Items.{value_of}
use Rattle.tlv_items.specs.Walk.{walk}
use Rattle.tlvs.specs.Search.{Match as Kept, kept, matched, accepted, all_from}
use Rattle.tlv_items.specs.Sent.{AllSendable, Sent, sent, sent_in}
use Rattle.promises.specs.Later.{Unread, AcceptedValue, as-synchronization, as-data-path, as-channel-sequence, longer, Change, insert, grow, further, Changes, none, more, records}

-- what a reading gives of a record: one, or none
abbrev pub read_value : {A : Type 0} → Reading A → List A
read_value (read a size) = a ∷ []
read_value (refused why) = []

-- the record of one item, and those of some items in their order
abbrev pub record_in : {A : Type 0} → ℕ → Reader A → Sent → List A
record_in type reader it = cond (eqb it.type type) (read_value (reader it.value 0)) []

abbrev pub records_in : {A : Type 0} → ℕ → Reader A → List Sent → List A
records_in type reader [] = []
records_in type reader (it ∷ rest) = record_in type reader it ++ records_in type reader rest

abbrev content : {A : Type 0} → Kept A → A
content a = a.content

module _ {A : Type 0} (type : ℕ) (reader : Reader A) where
  one-record : (tail : List ℕ) (it : Item) → map content (matched type reader tail it) ≡ record_in type reader (sent tail it)
  unfolding matched
  one-record tail it = go (eqb it.tlv_type type) (reader (value_of tail it) 0)
    where
      go : (b : Bool) (m : Reading A) → map content (cond b (kept it m) []) ≡ cond b (read_value m) []
      go true (read a size) = refl
      go true (refused why) = refl
      go false m = refl

  some-records : (tail : List ℕ) (items : List Item) → map content (accepted type reader tail items) ≡ records_in type reader (map (sent tail) items)
  some-records tail [] = refl
  some-records tail (it ∷ rest) =
      map-append content (matched type reader tail it) (accepted type reader tail rest)
      ∙ ap₂ (λ (x y : List A). x ++ y) (one-record tail it) (some-records tail rest)

  pub records-sent : (tail : List ℕ) → records type reader tail ≡ records_in type reader (sent_in tail)
  unfolding all_from
  records-sent tail = some-records tail (walk tail).items

  -- an item of another type gives no record, and bytes behind an accepted value do not change its record
  none_of : (it : Sent) → ¬ (it.type ≡ type) → record_in type reader it ≡ []
  none_of it apart = rw (ne_eqb it.type type apart)

  -- an item of another type, or a value that the reader accepts
  data OtherOrRead (it : Sent) : Type 0 where
    other : ¬ (it.type ≡ type) → OtherOrRead it
    reads : {a : A} {size : ℕ} → reader it.value 0 ≡ read a size → OtherOrRead it

  module _ (lawful : Lawful reader) (skips : (it : Sent) → Unread it → ¬ (it.type ≡ type)) (sorts : (it : Sent) → AcceptedValue it → OtherOrRead it) where
    stays : (it : Sent) (bytes : List ℕ) → OtherOrRead it → record_in type reader (longer it bytes) ≡ record_in type reader it
    stays it bytes (other apart) = none_of (longer it bytes) apart ∙ sym (none_of it apart)
    stays it bytes (reads e) = rw (grown lawful it.value bytes e, e)

    change-keeps : {items changed : List Sent} → Change items changed → records_in type reader changed ≡ records_in type reader items
    change-keeps (insert it u) = rw (none_of it (skips it u))
    change-keeps (grow it bytes a h) = rw (stays it bytes (sorts it a))
    change-keeps (further it c) = rw (change-keeps c)

    changes-keep : {items changed : List Sent} → Changes items changed → records_in type reader changed ≡ records_in type reader items
    changes-keep none = refl
    changes-keep (more c rest) = changes-keep rest ∙ change-keeps c

-- an accepted value, seen from each of the three types that are read
record Sorted (it : Sent) : Type 0 where
  synchronizations : OtherOrRead 0x04 synchronization it
  data-paths : OtherOrRead 0x0C data_path it
  channel-sequences : OtherOrRead 0x12 channel_sequence_record it

sorted : (it : Sent) → AcceptedValue it → Sorted it
sorted it (as-synchronization t e) = record { synchronizations = reads e; data-paths = other (omega arith); channel-sequences = other (omega arith) }
sorted it (as-data-path t e) = record { synchronizations = other (omega arith); data-paths = reads e; channel-sequences = other (omega arith) }
sorted it (as-channel-sequence t e) = record { synchronizations = other (omega arith); data-paths = other (omega arith); channel-sequences = reads e }

pub synchronizations-kept : {items changed : List Sent} → Changes items changed → records_in 0x04 synchronization changed ≡ records_in 0x04 synchronization items
synchronizations-kept = changes-keep 0x04 synchronization synchronization-lawful (λ it u. u.no-synchronization) (λ it a. (sorted it a).synchronizations)

pub data-paths-kept : {items changed : List Sent} → Changes items changed → records_in 0x0C data_path changed ≡ records_in 0x0C data_path items
data-paths-kept = changes-keep 0x0C data_path data-path-laid.lawful (λ it u. u.no-data-path) (λ it a. (sorted it a).data-paths)

pub channel-sequences-kept : {items changed : List Sent} → Changes items changed → records_in 0x12 channel_sequence_record changed ≡ records_in 0x12 channel_sequence_record items
channel-sequences-kept = changes-keep 0x12 channel_sequence_record channel-sequence-lawful (λ it u. u.no-channel-sequence) (λ it a. (sorted it a).channel-sequences)

-- items that can be written still can be
change-fits : {items changed : List Sent} → Change items changed → AllSendable items → AllSendable changed
change-fits (insert it u) ok = (u.sendable, ok)
change-fits (grow it bytes a h) ok = (record { byte = ok.0.byte; short = h }, ok.1)
change-fits (further it c) ok = (ok.0, change-fits c ok.1)

pub changes-fit : {items changed : List Sent} → Changes items changed → AllSendable items → AllSendable changed
changes-fit none ok = ok
changes-fit (more c rest) ok = changes-fit rest (change-fits c ok)
