-- What is written, and what is read back of it.
use Rattle.std.specs.Prelude.{◌≡◌, ℕ, ◌+◌, ◌≤◌, ◌<◌, true, false, List, ◌++◌, length, get_or, take, drop}
use Rattle.wire.specs.Reading.{read}
use Rattle.wire.specs.Numbers.{AllInWidth}
use Rattle.wire.specs.Answer.{Answer, answer}
use Rattle.wire.specs.Writing.{Wrote}
use Rattle.channel_sequence.specs.declared.channel_sequence.ChannelSequence.{ChannelSequence}
use Rattle.channel_sequence.specs.Sequences as Q
use Rattle.channel_sequence.specs.Sequences.{is_legacy}
use Rattle.channel_sequence.specs.SequenceReader.{sequence}
use Rattle.channel_sequence_tlv.specs.declared.channel_sequence_tlv.ChannelSequenceTLV.{ChannelSequenceTLV}
use Rattle.channel_sequence_tlv.specs.SequenceTLVs as C
use Rattle.channel_sequence_tlv.specs.SequenceTLVReader.{channel_sequence_record}
use Rattle.data_path_state.specs.declared.data_path_state_tlv.DataPathStateTLV.{DataPathStateTLV}
use Rattle.data_path_state.specs.DataPath.{data_path}
use Rattle.data_path_state.specs.Ranges.{Ranges}
use Rattle.data_path_state.specs.Consistent.{consistent}
use Rattle.data_path_state.specs.Bytes as D
use Rattle.synchronization_parameters.specs.declared.synchronization_parameters_tlv.SynchronizationParametersTLV.{SynchronizationParametersTLV}
use Rattle.synchronization_parameters.specs.SynchronizationReader.{synchronization}
use Rattle.synchronization_parameters.specs.SynchronizationBytes as S
use Rattle.tlv_items.specs.declared.item.Item.{Item}
use Rattle.tlv_items.specs.declared.item.Step.{Step}
use Rattle.tlv_items.specs.Items.{step_at, value_of}
use Rattle.tlv_items.specs.ItemBytes.{item_bytes, item_size}
use Rattle.tlv_items.specs.Sent.{Sent, Sendable}
use Rattle.action_frame.specs.declared.AWDLActionFrame.{AWDLActionFrame}
use Rattle.action_frame.specs.Frames as F
use Rattle.action_frame.specs.Frames.{header, tail_of}

-- every number of a list is a byte, as in every slice of the code
abbrev pub Bytes : List ℕ → Type 0
Bytes s = (i : ℕ) → get_or s i 0 < 256

-- what is written of a record and how long that is, when it is consistent, and what it is to find it at the start of some
-- bytes, with its size. A sequence's reader is told the encoding. Of sequences, and of the records that hold one, those with a legacy sequence are left
-- out, since they are not written.
pub record Format : Type 1 where
  pub Record : Type 0
  pub bytes : Record → Answer (List ℕ)
  pub size : Record → Answer ℕ
  pub Consistent : Record → Type 0
  pub ReadAs : Record → List ℕ → ℕ → Type 0

-- of a record: it is written as some bytes, and its size is their number; they are read back as the record, with anything
-- behind them. A writer with enough room answers the size and puts them down, and what stood behind them still stands there.
pub record Fills (F : Format) (r : F.Record) : Type 0 where
  pub bytes : List ℕ
  pub written : F.bytes r ≡ answer bytes
  pub size : F.size r ≡ answer (length bytes)
  pub found : (behind : List ℕ) → F.ReadAs r (bytes ++ behind) (length bytes)
  pub filled : (s : List ℕ) (said : Answer ℕ) (after : List ℕ) → length bytes ≤ length s → Wrote s (F.bytes r) said after
      → (said ≡ answer (length bytes)) × (after ≡ bytes ++ drop (length bytes) s) × F.ReadAs r after (length bytes)

-- every consistent record of a format
abbrev pub RoundTrip : Format → Type 0
RoundTrip F = (r : F.Record) → F.Consistent r → Fills F r

abbrev pub sequences : Format
sequences =
    record {
      Record = ChannelSequence;
      bytes = Q.bytes_of;
      size = Q.size_of;
      Consistent = λ q. (length q.bytes ≡ 32) × (Q.consistent q ≡ answer true) × (is_legacy q ≡ false);
      ReadAs = λ q s n. sequence q.encoding s 0 ≡ read q n;
    }

-- the sequences of one encoding, which their reader is told
abbrev pub sequences_in : ℕ → Format
sequences_in encoding =
    record {
      Record = ChannelSequence;
      bytes = sequences.bytes;
      size = sequences.size;
      Consistent = λ q. (q.encoding ≡ encoding) × (sequences.Consistent q);
      ReadAs = λ q s n. sequence encoding s 0 ≡ read q n;
    }

abbrev pub data_paths : Format
data_paths =
    record {
      Record = DataPathStateTLV;
      bytes = D.bytes_of;
      size = D.size_of;
      Consistent = λ r. Ranges r × (consistent r ≡ true);
      ReadAs = λ r s n. data_path s 0 ≡ read r n;
    }

abbrev pub channel_sequences : Format
channel_sequences =
    record {
      Record = ChannelSequenceTLV;
      bytes = C.bytes_of;
      size = C.size_of;
      Consistent = λ c.
          AllInWidth (C.numbers c) × (length c.channel_sequence.bytes ≡ 32) × (C.consistent c ≡ answer true)
          × (is_legacy c.channel_sequence ≡ false);
      ReadAs = λ c s n. channel_sequence_record s 0 ≡ read c n;
    }

abbrev pub synchronizations : Format
synchronizations =
    record {
      Record = SynchronizationParametersTLV;
      bytes = S.bytes_of;
      size = S.size_of;
      Consistent = λ p.
          AllInWidth (S.numbers p) × (length p.channel_sequence.channel_sequence.bytes ≡ 32) × (S.consistent p ≡ answer true)
          × (is_legacy p.channel_sequence.channel_sequence ≡ false);
      ReadAs = λ p s n. synchronization s 0 ≡ read p n;
    }

-- a step of the walk finds the item, and its value
abbrev pub items : Format
items =
    record {
      Record = Sent;
      bytes = λ it. item_bytes it.type it.value;
      size = λ it. item_size (length it.value);
      Consistent = Sendable;
      ReadAs = λ it s n.
          let numbers : Item = record { at = 0; tlv_type = it.type; length = length it.value } in
          (step_at s 0 ≡ Step.Item numbers n) × (value_of s numbers ≡ it.value);
    }

-- a header and the tail behind it
pub record Frame : Type 0 where
  pub head : AWDLActionFrame
  pub tail : List ℕ

-- the tail of a frame goes to the frame's end
abbrev pub frames : Format
frames =
    record {
      Record = Frame;
      bytes = λ f. answer (F.bytes_of f.head f.tail);
      size = λ f. answer (12 + length f.tail);
      Consistent = λ f. F.InWidth f.head;
      ReadAs = λ f s n. (header s 0 ≡ read f.head 12) × (tail_of (take n s) ≡ f.tail);
    }
