-- Demand 2: reading and writing are what the definitions say. That each call's answer is the one that its definition gives, on
-- every input, is `EveryCall` in `proofs/`, since it names the code; this is what is said of the definitions.
use Rattle.std.specs.Prelude.{ℕ, ◌+◌, ◌-◌, ◌%◌, ◌^◌, ◌≤◌, ◌<◌, ◌≡◌, true, false, List, ◌↔◌, ◌⊎◌, length, take}
use Rattle.std.specs.Int.Bits.{bit_and}
use Rattle.wire.specs.Reading.{Reader, read}
use Rattle.wire.specs.FromBytes.{ReadFromBytes}
use Rattle.wire.specs.Answer.{answer}
use Rattle.wire.specs.Parts.{between}
use Rattle.wire.specs.Numbers.{bit}
use Rattle.wire.specs.Words.{word_by}
use Rattle.channel_sequence.specs.declared.channel_sequence.ChannelSequence.{ChannelSequence}
use Rattle.channel.specs.Channels.{kept_flags}
use Rattle.channel_sequence.specs.Sequences as Q
use Rattle.channel_sequence.specs.SequenceReader.{sequence}
use Rattle.channel_sequence_tlv.specs.declared.channel_sequence_tlv.ChannelSequenceTLV.{ChannelSequenceTLV}
use Rattle.channel_sequence_tlv.specs.SequenceTLVs as C
use Rattle.channel_sequence_tlv.specs.SequenceTLVReader.{channel_sequence_record}
use Rattle.channel_sequence.specs.Widths.{SequenceInWidth}
use Rattle.channel_sequence_tlv.specs.Widths.{ChannelSequenceInWidth}
use Rattle.channel_sequence.specs.Sequences.{is_legacy}
use Rattle.channel_sequence.specs.Conversion.{to_simple}
use Rattle.data_path_words.specs.Words.{has_any, extended_kept, options_kept}
use Rattle.data_path_words.specs.Names.{MakeUp, flag_names, extended_names, channel_names, option_names}
use Rattle.data_path_state.specs.declared.data_path_state_tlv.DataPathStateTLV.{DataPathStateTLV}
use Rattle.data_path_state.specs.DataPath.{data_path}
use Rattle.data_path_state.specs.Ranges.{Ranges}
use Rattle.data_path_state.specs.Consistent.{consistent, ChannelRight}
use Rattle.data_path_state.specs.Bytes.{record_bytes, sum}
use Rattle.data_path_state.specs.Mended.{mended}
use Rattle.data_path_state.specs.Rewritten as D
use Rattle.synchronization_parameters.specs.declared.synchronization_parameters_tlv.SynchronizationParametersTLV.{SynchronizationParametersTLV}
use Rattle.synchronization_parameters.specs.SynchronizationReader.{synchronization}
use Rattle.synchronization_parameters.specs.SynchronizationBytes as S
use Rattle.synchronization_parameters.specs.Widths.{SynchronizationInWidth}
use Rattle.tlv_items.specs.declared.item.Item.{Item}
use Rattle.tlv_items.specs.Walk.{Ending, whole, walk, GivesItems}
use Rattle.tlvs.specs.Search.{Match, all_of, next_from, GivesRecords}
use Rattle.tlv_items.specs.Sent.{AllSendable, Sent, sent_in, tail_with}
use Rattle.action_frame.specs.declared.AWDLActionFrame.{AWDLActionFrame}
use Rattle.action_frame.specs.Frames.{header, header_bytes, InWidth}
use Rattle.action_frame.specs.Frames as F
use Rattle.action_frame.specs.Rewritten as F'
use Rattle.action_frame.specs.declared.PhyTxTime.{PhyTxTime}
use Rattle.action_frame.specs.declared.TargetTxTime.{TargetTxTime}
use Rattle.action_frame.specs.Stamps.{delta}
use Rattle.report.specs.Lines.{dump_lines}
use Rattle.report.specs.Marks.{first_mark, GivesLines}
use Rattle.promises.specs.Formats as formats
use Rattle.promises.specs.Formats.{Bytes, Format, Fills, RoundTrip}
use Rattle.promises.specs.Legacy.{NotWritten, with_sequence, with_its_sequence, Convertible, Converted}
use Rattle.promises.specs.EndToEnd.{BeginsNoOther, ToldByBytes, AllArchived, EndToEnd, OneReading, RunTogether, unchecked_data_paths, unmended_data_paths}

pub record Demand2 : Type 1 where
  -- a consistent record that is written into enough room fills exactly its size, and reads back as itself; a sequence, and a record that holds one, where
  -- it is no legacy one
  pub sequences : RoundTrip formats.sequences
  pub channel-sequences : RoundTrip formats.channel_sequences
  pub data-paths : RoundTrip formats.data_paths
  pub synchronizations : RoundTrip formats.synchronizations
  pub items : RoundTrip formats.items
  pub frames : RoundTrip formats.frames
  -- a data path record takes 2 to 57 bytes, a channel sequence 22 or 38, and a synchronization record 33 more
  pub sizes : (r : DataPathStateTLV) → (2 ≤ sum r) × (sum r ≤ 57)
  pub channel-sequence-sizes : (c : ChannelSequenceTLV) {n : ℕ} → C.size_of c ≡ answer n → (n ≡ 22) ⊎ (n ≡ 38)
  pub synchronization-sizes : (p : SynchronizationParametersTLV) {n : ℕ} → S.size_of p ≡ answer n → (n ≡ 55) ⊎ (n ≡ 71)
  -- a word without its dropped bits is the word AND its mask
  pub extended-mask : (w : ℕ) → word_by extended_kept w ≡ bit_and w 0xFF7F
  pub options-mask : (w : ℕ) → word_by options_kept w ≡ bit_and w 0xFFFFFE6A
  pub legacy-mask : (w : ℕ) → kept_flags w ≡ bit_and w 0x3F
  -- the names of a word's bits sum to its mask, and no two share a bit; the flags have all sixteen bits, and a map the low three
  pub flags-named : MakeUp flag_names 0xFFFF
  pub extended-named : MakeUp extended_names 0xFF7F
  pub channels-named : MakeUp channel_names 0x7
  pub options-named : MakeUp option_names 0xFFFFFE6A
  -- a word has a bit where it has one of the bits of the mask that is that bit alone
  pub presence : (k w : ℕ) → has_any w (2 ^ k) ≡ bit k w
  -- a clock of 32 bits goes from the hand-over stamp to the sending stamp in the gap between them, and in no other number of 32 bits;
  -- where the sending stamp is not the lower one, the gap is their difference
  pub gaps : (phy : PhyTxTime) (target : TargetTxTime) → phy.0 < 2 ^ 32 → target.0 < 2 ^ 32 → (gap : ℕ)
      → (gap ≡ delta phy target) ↔ ((gap < 2 ^ 32) × ((target.0 + gap) % 2 ^ 32 ≡ phy.0))
  pub gaps-same : (phy : PhyTxTime) (target : TargetTxTime) → phy.0 < 2 ^ 32 → target.0 ≤ phy.0 → delta phy target ≡ phy.0 - target.0
  -- a legacy sequence is not written, nor is a record that holds one, whatever else is wrong with it and whatever the room
  pub legacy-sequences : (q : ChannelSequence) → is_legacy q ≡ true → NotWritten formats.sequences q
  pub legacy-channel-sequences : (c : ChannelSequenceTLV) → is_legacy c.channel_sequence ≡ true → NotWritten formats.channel_sequences c
  pub legacy-synchronizations : (p : SynchronizationParametersTLV) → is_legacy p.channel_sequence.channel_sequence ≡ true
      → NotWritten formats.synchronizations p
  -- it is converted exactly where it is consistent and the correction of none of its entries leaves 0 to 255; what it is converted to can be written, and so
  -- can a record that was read with it, when that stands in its place
  pub convertible : (q : ChannelSequence) → length q.bytes ≡ 32 → ((simple : ChannelSequence) × (to_simple q ≡ answer simple)) ↔ Convertible q
  pub converted : (q : ChannelSequence) → SequenceInWidth q → {simple : ChannelSequence} → to_simple q ≡ answer simple → Converted q simple
  pub channel-sequences-converted : (s : List ℕ) → Bytes s → (at : ℕ) {next : ℕ} {c : ChannelSequenceTLV} → channel_sequence_record s at ≡ read c next
      → {simple : ChannelSequence} → to_simple c.channel_sequence ≡ answer simple → Fills formats.channel_sequences (with_sequence c simple)
  pub synchronizations-converted : (s : List ℕ) → Bytes s → (at : ℕ) {next : ℕ} {p : SynchronizationParametersTLV} → synchronization s at ≡ read p next
      → {simple : ChannelSequence} → to_simple p.channel_sequence.channel_sequence ≡ answer simple → Fills formats.synchronizations (with_its_sequence p simple)
  -- what was read is consistent and, of bytes, within its widths, so that it can be written again and read back, unless its sequence is a legacy one; a header
  -- need only be within its widths
  pub sequences-consistent : (encoding : ℕ) (s : List ℕ) (at : ℕ) {next : ℕ} {q : ChannelSequence} → sequence encoding s at ≡ read q next
      → (q.encoding ≡ encoding) × (length q.bytes ≡ 32) × (Q.consistent q ≡ answer true)
  pub sequences-in-width : (encoding : ℕ) → encoding < 256 → (s : List ℕ) → Bytes s → (at : ℕ) {next : ℕ} {q : ChannelSequence} → sequence encoding s at ≡ read q next
      → SequenceInWidth q
  pub channel-sequences-consistent : (s : List ℕ) (at : ℕ) {next : ℕ} {c : ChannelSequenceTLV} → channel_sequence_record s at ≡ read c next
      → (length c.channel_sequence.bytes ≡ 32) × (C.consistent c ≡ answer true)
  pub channel-sequences-in-width : (s : List ℕ) → Bytes s → (at : ℕ) {next : ℕ} {c : ChannelSequenceTLV} → channel_sequence_record s at ≡ read c next
      → ChannelSequenceInWidth c
  pub data-paths-consistent : (s : List ℕ) (at : ℕ) {next : ℕ} {r : DataPathStateTLV} → data_path s at ≡ read r next → consistent r ≡ true
  pub data-paths-in-width : (s : List ℕ) → Bytes s → (at : ℕ) {next : ℕ} {r : DataPathStateTLV} → data_path s at ≡ read r next → Ranges r
  pub synchronizations-consistent : (s : List ℕ) {p : SynchronizationParametersTLV} {size : ℕ} → synchronization s 0 ≡ read p size
      → (length p.channel_sequence.channel_sequence.bytes ≡ 32) × (S.consistent p ≡ answer true)
  pub synchronizations-in-width : (s : List ℕ) → Bytes s → (at : ℕ) {next : ℕ} {p : SynchronizationParametersTLV} → synchronization s at ≡ read p next
      → SynchronizationInWidth p
  pub headers-consistent : (s : List ℕ) → Bytes s → (at : ℕ) {next : ℕ} {f : AWDLActionFrame} → header s at ≡ read f next → InWidth f
  -- a sequence, or a record with a sequence, that was read and is written again gives its own bytes, unless the sequence is a legacy one
  pub sequences-again : (encoding : ℕ) (s : List ℕ) (at : ℕ) {next : ℕ} {q : ChannelSequence} → sequence encoding s at ≡ read q next
      → is_legacy q ≡ false → Q.bytes_of q ≡ answer (between s at next)
  pub channel-sequences-again : (s : List ℕ) → Bytes s → (at : ℕ) {next : ℕ} {c : ChannelSequenceTLV} → channel_sequence_record s at ≡ read c next
      → is_legacy c.channel_sequence ≡ false → C.bytes_of c ≡ answer (between s at next)
  pub synchronizations-again : (s : List ℕ) → Bytes s → {p : SynchronizationParametersTLV} {size : ℕ} → synchronization s 0 ≡ read p size
      → is_legacy p.channel_sequence.channel_sequence ≡ false → S.bytes_of p ≡ answer (between s 0 size)
  -- a data path record and a header give the bytes that `rewritten` says: their own, but for the bits that are dropped, and those that a channel word
  -- carries beside its channel
  pub data-paths-again : (s : List ℕ) → Bytes s → (at : ℕ) {next : ℕ} {r : DataPathStateTLV} → data_path s at ≡ read r next
      → D.rewritten s at ≡ read (record_bytes r) next
  pub headers-again : (s : List ℕ) → Bytes s → (at : ℕ) {next : ℕ} {f : AWDLActionFrame} → header s at ≡ read f next
      → F'.rewritten s at ≡ read (header_bytes f) next
  -- so a frame that is written again with its own tail is that frame, byte for byte; and the 33 fixed bytes of a synchronization value are those of its
  -- record, whatever its sequence is
  pub frames-again : (s : List ℕ) → Bytes s → {next : ℕ} {f : AWDLActionFrame} → header s 0 ≡ read f next → F.bytes_of f (F.tail_of s) ≡ s
  pub fixed-again : (s : List ℕ) → Bytes s → {p : SynchronizationParametersTLV} {size : ℕ} → synchronization s 0 ≡ read p size
      → S.fixed_bytes p ≡ take 33 s
  -- a record within its widths is consistent exactly when some bytes are read as it
  pub sequences-exactly : (q : ChannelSequence) → SequenceInWidth q → (Q.consistent q ≡ answer true) ↔ ReadFromBytes (sequence q.encoding) q
  pub channel-sequences-exactly : (c : ChannelSequenceTLV) → ChannelSequenceInWidth c → (C.consistent c ≡ answer true) ↔ ReadFromBytes channel_sequence_record c
  pub data-paths-exactly : (r : DataPathStateTLV) → (Ranges r × (consistent r ≡ true)) ↔ ReadFromBytes data_path r
  pub synchronizations-exactly : (p : SynchronizationParametersTLV) → SynchronizationInWidth p → (S.consistent p ≡ answer true) ↔ ReadFromBytes synchronization p
  -- mending makes a record consistent, unless its channel is present and wrong, and leaves a consistent one as it is
  pub mended-consistent : (r : DataPathStateTLV) → ChannelRight r → consistent (mended r) ≡ true
  pub mended-same : (r : DataPathStateTLV) → r.flags.0 < 2 ^ 16 → consistent r ≡ true → mended r ≡ r
  -- consistent records can be laid end to end, with nothing between them, in every format that is read back with anything behind it, if some bytes are read as
  -- one record at most, with one size, and no bytes as none; sequences, where all have one encoding, 0 or 3, since of no other are any written
  pub laid-end-to-end : (F : Format) → RoundTrip F → OneReading F → EndToEnd F
  pub data-paths-end-to-end : EndToEnd formats.data_paths
  pub channel-sequences-end-to-end : EndToEnd formats.channel_sequences
  pub synchronizations-end-to-end : EndToEnd formats.synchronizations
  pub items-end-to-end : EndToEnd formats.items
  pub sequences-end-to-end : (encoding : ℕ) → EndToEnd (formats.sequences_in encoding)
  -- where records run together no part of that holds. So it is with sequences of mixed encodings, with frames, whose tail goes to the end, and with data path
  -- records that need not be consistent, or that are to be told apart by what they were before mending
  pub run-together : (F : Format) → RunTogether F → (¬ BeginsNoOther F) × (¬ ToldByBytes F) × (¬ AllArchived F)
  pub sequences-run-together : RunTogether formats.sequences
  pub frames-run-together : RunTogether formats.frames
  pub unchecked-run-together : RunTogether unchecked_data_paths
  pub unmended-run-together : RunTogether unmended_data_paths
  -- items that are written one behind the other are the items that the walk gives, each whole
  pub tails : (its : List Sent) → AllSendable its → (sent_in (tail_with its) ≡ its) × ((walk (tail_with its)).ending ≡ whole)
  -- a caller who goes on step by step is given the walk's items and its end, and nothing else
  pub walked : (tail : List ℕ) → GivesItems tail 0 (walk tail).items (walk tail).ending
  pub walked_once : (tail : List ℕ) {items : List Item} {ending : Ending} → GivesItems tail 0 items ending
      → (items ≡ (walk tail).items) × (ending ≡ (walk tail).ending)
  -- a caller who goes on from each record that a search finds is given all the accepted records of the type, and nothing else
  pub searched : {A : Type 0} (type : ℕ) (reader : Reader A) (tail : List ℕ) → GivesRecords (next_from type reader tail) 0 (all_of type reader tail)
  pub searched-once : {A : Type 0} (type : ℕ) (reader : Reader A) (tail : List ℕ) {matches : List (Match A)}
      → GivesRecords (next_from type reader tail) 0 matches → matches ≡ all_of type reader tail
  -- a caller who goes on line by line is given the lines of the dump, and nothing else
  pub dumped : (input : List ℕ) → GivesLines input (first_mark input) (dump_lines input)
  pub dumped-once : (input : List ℕ) {lines : List (List ℕ)} → GivesLines input (first_mark input) lines → lines ≡ dump_lines input
