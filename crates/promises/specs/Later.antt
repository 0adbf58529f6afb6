-- A later sender's frame: how it comes from a frame, and what a receiver has of either.
use Rattle.std.specs.Prelude.{◌≡◌, ℕ, ◌≤◌, List, ◌∷◌, ◌++◌, map, length, take}
use Rattle.wire.specs.Reading.{Reading, Reader, read}
use Rattle.channel_sequence_tlv.specs.declared.channel_sequence_tlv.ChannelSequenceTLV.{ChannelSequenceTLV}
use Rattle.channel_sequence_tlv.specs.SequenceTLVReader.{channel_sequence_record}
use Rattle.data_path_state.specs.declared.data_path_state_tlv.DataPathStateTLV.{DataPathStateTLV}
use Rattle.data_path_state.specs.DataPath.{data_path}
use Rattle.synchronization_parameters.specs.declared.synchronization_parameters_tlv.SynchronizationParametersTLV.{SynchronizationParametersTLV}
use Rattle.synchronization_parameters.specs.SynchronizationReader.{synchronization}
use Rattle.tlv_items.specs.Walk.{whole, walk}
use Rattle.tlvs.specs.Search.{all_of}
use Rattle.tlv_items.specs.Sent.{Sendable, Sent, sent_in, tail_with}
use Rattle.action_frame.specs.declared.AWDLActionFrame.{AWDLActionFrame}
use Rattle.action_frame.specs.Frames.{header, tail_of}
use Rattle.promises.specs.Formats.{Bytes}

-- an item that can be sent, of a type that we do not read
pub record Unread (it : Sent) : Type 0 where
  pub sendable : Sendable it
  pub no-synchronization : ¬ (it.type ≡ 0x04)
  pub no-data-path : ¬ (it.type ≡ 0x0C)
  pub no-channel-sequence : ¬ (it.type ≡ 0x12)

-- an item of a type that we read, whose value its reader accepts
pub data AcceptedValue (it : Sent) : Type 0 where
  as-synchronization : {p : SynchronizationParametersTLV} {size : ℕ} → it.type ≡ 0x04 → synchronization it.value 0 ≡ read p size → AcceptedValue it
  as-data-path : {r : DataPathStateTLV} {size : ℕ} → it.type ≡ 0x0C → data_path it.value 0 ≡ read r size → AcceptedValue it
  as-channel-sequence : {c : ChannelSequenceTLV} {size : ℕ} → it.type ≡ 0x12 → channel_sequence_record it.value 0 ≡ read c size → AcceptedValue it

abbrev pub longer : Sent → List ℕ → Sent
longer it more = record { type = it.type; value = it.value ++ more }

-- one change of a list of items: an item that we do not read is put in, or an accepted value gets more bytes at its end;
-- at the front, or anywhere behind it
pub data Change : List Sent → List Sent → Type 0 where
  insert : {rest : List Sent} (it : Sent) → Unread it → Change rest (it ∷ rest)
  grow : {rest : List Sent} (it : Sent) (more : List ℕ) → AcceptedValue it → length (it.value ++ more) ≤ 65535 → Change (it ∷ rest) (longer it more ∷ rest)
  further : {items changed : List Sent} (it : Sent) → Change items changed → Change (it ∷ items) (it ∷ changed)

-- any number of changes, one after the other
pub data Changes : List Sent → List Sent → Type 0 where
  none : {items : List Sent} → Changes items items
  more : {items changed last : List Sent} → Change items changed → Changes changed last → Changes items last

-- A frame whose items are all whole: 12 bytes or more, and a tail that the walk takes to its end. Its header may be one that is
-- refused, with 2 or 3. Its tail is of bytes, as every slice of the code is.
pub record WholeFrame (frame : List ℕ) : Type 0 where
  pub bytes : Bytes (tail_of frame)
  pub long : 12 ≤ length frame
  pub ending : (walk (tail_of frame)).ending ≡ whole

-- the same 12 bytes of header, and behind them the frame's items with changes
pub record Later (before after : List ℕ) : Type 0 where
  pub items : List Sent
  pub changes : Changes (sent_in (tail_of before)) items
  pub bytes : after ≡ take 12 before ++ tail_with items

-- the accepted records of a type, in their order
abbrev pub records : {A : Type 0} → ℕ → Reader A → List ℕ → List A
records type reader tail = map (λ a. a.content) (all_of type reader tail)

-- what a receiver has of a frame: its header and the accepted records of each type that we read
pub record Received : Type 0 where
  pub head : Reading AWDLActionFrame
  pub synchronizations : List SynchronizationParametersTLV
  pub data-paths : List DataPathStateTLV
  pub channel-sequences : List ChannelSequenceTLV

abbrev pub received : List ℕ → Received
received frame =
    record {
      head = header frame 0;
      synchronizations = records 0x04 synchronization (tail_of frame);
      data-paths = records 0x0C data_path (tail_of frame);
      channel-sequences = records 0x12 channel_sequence_record (tail_of frame);
    }
