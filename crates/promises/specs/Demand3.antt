-- Demand 3: a later sender cannot mislead us.
use Rattle.std.specs.Prelude.{ℕ, ◌≤◌, ◌<◌, ◌≡◌, List, ◌∷◌, ◌++◌, length, take}
use Rattle.wire.specs.Reading.{Reader, read}
use Rattle.wire.specs.ShortFields.{total, CutAt}
use Rattle.channel_sequence.specs.SequenceReader.{sequence}
use Rattle.channel_sequence_tlv.specs.SequenceTLVReader.{channel_sequence_record}
use Rattle.channel_sequence.specs.FieldWidths.{sequence_widths}
use Rattle.channel_sequence_tlv.specs.FieldWidths as C
use Rattle.data_path_state.specs.DataPath.{data_path}
use Rattle.data_path_state.specs.FieldWidths as D
use Rattle.tlv_items.specs.Walk.{whole, walk}
use Rattle.tlv_items.specs.ItemBytes.{type_length_value}
use Rattle.action_frame.specs.Frames.{header, tail_of}
use Rattle.action_frame.specs.FieldWidths as F
use Rattle.tlv_items.specs.Sent.{Sent, sent_in, tail_with}
use Rattle.promises.specs.Later.{Unread, AcceptedValue, WholeFrame, Later, received}
use Rattle.synchronization_parameters.specs.SynchronizationReader.{synchronization}
use Rattle.synchronization_parameters.specs.FieldWidths as S

-- Bytes that are read have fields whose widths are told by what was read, and that fill its size. Cut below that, they are short at the field that
-- holds the first missing byte.
abbrev pub CutIsShort : {A : Type 0} → Reader A → (A → List ℕ) → Type 0
CutIsShort {A} reader widths =
    (bytes : List ℕ) (a : A) (size : ℕ) → reader bytes 0 ≡ read a size
    → (total (widths a) ≡ size) × ((k : ℕ) → k < size → CutAt reader bytes (widths a) k)

-- Take a frame whose items are all whole. A later frame comes from it by putting in items that we do not read and by adding bytes
-- to accepted values, any number of times and anywhere, with lengths that are true.
pub record Demand3 : Type 0 where
  -- the header, accepted or refused, and the accepted records of each type that we read stay the same
  pub same : (before after : List ℕ) → WholeFrame before → Later before after → received after ≡ received before
  -- an accepted value of each of the three types that is cut below its size is short, at an offset that is at most the cut and at which a
  -- field starts that reaches past it; and so are a header and a sequence by itself
  pub synchronization-cut : CutIsShort synchronization S.field_widths
  pub data-path-cut : CutIsShort data_path D.field_widths
  pub channel-sequence-cut : CutIsShort channel_sequence_record C.field_widths
  pub header-cut : CutIsShort header (λ f. F.field_widths)
  pub sequence-cut : (encoding : ℕ) → CutIsShort (sequence encoding) sequence_widths
  -- what `Later` stands for: the frame is the bytes of its header and then those of its items,
  pub written : (frame : List ℕ) → WholeFrame frame → frame ≡ take 12 frame ++ tail_with (sent_in (tail_of frame))
  -- an item that we do not read can be put in before the first item, behind the last one, and between any two,
  pub inserted : (frame : List ℕ) (front back : List Sent) (it : Sent) → sent_in (tail_of frame) ≡ front ++ back → Unread it
      → Later frame (take 12 frame ++ (tail_with front ++ (type_length_value it.type it.value ++ tail_with back)))
  -- any accepted value that has room can get more bytes,
  pub grown : (frame : List ℕ) (front back : List Sent) (it : Sent) (bytes : List ℕ) → sent_in (tail_of frame) ≡ front ++ (it ∷ back)
      → AcceptedValue it → length (it.value ++ bytes) ≤ 65535
      → Later frame (take 12 frame ++ (tail_with front ++ (type_length_value it.type (it.value ++ bytes) ++ tail_with back)))
  -- and the walk of the later frame gives the changed items, all of them whole
  pub items : (before after : List ℕ) → WholeFrame before → (later : Later before after)
      → (sent_in (tail_of after) ≡ later.items) × ((walk (tail_of after)).ending ≡ whole)
