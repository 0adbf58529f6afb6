-- What is promised of the calls for other languages, over the numbers that are lent to them and laid down by them.
use Rattle.std.specs.Prelude.{ℕ, zero, suc, ◌<◌, ◌≡◌, List, [], ◌∷◌, length, get_or, replicate}
use Rattle.wire.specs.declared.refusal.Refusal.TheVariants.{Inconsistent}
use Rattle.wire.specs.Reading.{Reading, refused}
use Rattle.wire.specs.Answer.{Answer, answer, refusal}
use Rattle.wire.specs.Outcomes.{Outcome, Reply, outcome, reply}
use Rattle.channel.specs.declared.channel.Channel.{Channel}
use Rattle.channel.specs.Channels.{corrected}
use Rattle.channel_sequence.specs.Sequences as Q
use Rattle.channel_sequence.specs.SequenceReader as R
use Rattle.channel_sequence.specs.Widths.{SequenceInWidth}
use Rattle.channel_sequence.specs.Hops.{Hop, hop_at, nothing, zero_channel}
use Rattle.channel_sequence.specs.Conversion.{to_simple}
use Rattle.channel_sequence_tlv.specs.SequenceTLVs as C
use Rattle.channel_sequence_tlv.specs.Widths.{ChannelSequenceInWidth}
use Rattle.channel_judge.specs.Judging.{judged, load_in}
use Rattle.data_path_words.specs.declared.misc.DataPathChannel.{DataPathChannel}
use Rattle.data_path_fields.specs.Optional as O
use Rattle.data_path_state.specs.declared.data_path_state_tlv.DataPathStateTLV.{DataPathStateTLV}
use Rattle.data_path_state.specs.Consistent.{consistent}
use Rattle.data_path_state.specs.Mended.{mended}
use Rattle.data_path_state.specs.Bytes as D
use Rattle.data_path_state.specs.Outcomes.{zero_data_path}
use Rattle.data_path_state.specs.Ranges.{Ranges}
use Rattle.synchronization_parameters.specs.declared.synchronization_parameters_tlv.SynchronizationParametersTLV.{SynchronizationParametersTLV}
use Rattle.synchronization_parameters.specs.SynchronizationReader.{zero_synchronization}
use Rattle.synchronization_parameters.specs.SynchronizationBytes as S
use Rattle.synchronization_parameters.specs.Widths.{SynchronizationInWidth}
use Rattle.tlv_items.specs.declared.item.Step.{Step}
use Rattle.tlv_items.specs.ItemBytes.{item_bytes}
use Rattle.tlvs.specs.Search.{Search}
use Rattle.action_frame.specs.Frames as F
use Rattle.exports.specs.Held.{octets, flag_number, flagged}
use Rattle.exports.specs.Frames.{frame_numbers, frame_largest, frame_in, frame_bytes, item_bytes_in}
use Rattle.exports.specs.DataPaths.{data_path_numbers, data_path_largest, data_path_in, data_path_consistent, data_path_mended, data_path_size, data_path_bytes}
use Rattle.exports.specs.Sequences as X
use Rattle.exports.specs.Synchronizations as Y
use Rattle.exports.specs.Judging.{judged_in, load_of}
use Rattle.exports.specs.Told.{ToldReading, ToldNumber, ToldPlaced, ToldRecord, ToldWriting, ToldStep, ToldSearch, ToldHop}

-- a number that its field cannot hold is refused, at any place and whatever the others are
abbrev pub RefusesLarge : {B : Type 0} → List ℕ → (List ℕ → Answer B) → Type 0
RefusesLarge largest asked = (ns : List ℕ) (i : ℕ) → get_or largest i 0 < get_or ns i 0 → asked ns ≡ refusal Inconsistent

-- A record that code can hold is asked by its numbers; numbers that are asked as a record, as many as it has, are its own; the zero record has zeros.
pub record AsNumbers {A : Type 0} (InWidth : A → Type 0) (many : ℕ) (largest : List ℕ) (numbers_of : A → List ℕ) (asked : List ℕ → Answer A) (none : A) : Type 0 where
  pub there : (a : A) → InWidth a → asked (numbers_of a) ≡ answer a
  pub back : (ns : List ℕ) (a : A) → length ns ≡ many → asked ns ≡ answer a → numbers_of a ≡ ns
  pub large : RefusesLarge largest asked
  pub zero : numbers_of none ≡ replicate many 0

-- a call that is asked a record by its numbers answers what the call below answers to the record
pub record Asks {A B : Type 0} (InWidth : A → Type 0) (largest : List ℕ) (numbers_of : A → List ℕ) (asked : List ℕ → Answer B) (below : A → Answer B) : Type 0 where
  pub same : (a : A) → InWidth a → asked (numbers_of a) ≡ below a
  pub large : RefusesLarge largest asked

-- and so for a number that stands alone
pub record AsksByte {B : Type 0} (asked below : ℕ → Answer B) : Type 0 where
  pub same : (n : ℕ) → n < 256 → asked n ≡ below n
  pub large : (n : ℕ) → 255 < n → asked n ≡ refusal Inconsistent

-- as many numbers, each one more than the one before it
abbrev pub from : ℕ → ℕ → List ℕ
from first zero = []
from first (suc many) = first ∷ from (suc first) many

-- the bounds that the types of the code set
abbrev pub ChannelInWidth : DataPathChannel → Type 0
ChannelInWidth (DataPathChannel.SingleChannel channel) = channel < 256
ChannelInWidth (DataPathChannel.ChannelMap map) = map.0 < 65536

pub record DataPathInWidth (r : DataPathStateTLV) : Type 0 where
  pub ranges : Ranges r
  pub channel : ChannelInWidth r.channel_map.value

pub record EntryInWidth (c : Channel) : Type 0 where
  pub encoding : c.encoding < 256
  pub first : c.first < 256
  pub second : c.second < 256

-- A synchronization record in which every field holds its place among the numbers, and a data path record in which all do but the flags.
abbrev pub placed_synchronization : SynchronizationParametersTLV
placed_synchronization =
    record {
      next_channel = 0;
      tx_counter = 1;
      master_channel = 2;
      guard_time = 3;
      aw_period = 4;
      af_period = 5;
      awdl_flags = 6;
      aw_ext_length = 7;
      aw_common_length = 8;
      remaining_aw_length = 9;
      min_ext_count = 10;
      max_multicast_ext_count = 11;
      max_unicast_ext_count = 12;
      max_af_ext_count = 13;
      master_address = record { 0 = 14; 1 = 15; 2 = 16; 3 = 17; 4 = 18; 5 = 19 };
      presence_mode = 20;
      reserved = 21;
      aw_seq_number = 22;
      ap_beacon_alignment_delta = 23;
      channel_sequence = record { duplicate_count = 24; step_count = 25; fill_channel = 26; channel_sequence = record { encoding = 27; bytes = from 28 32 } };
    }

abbrev pub placed_data_path : DataPathStateTLV
placed_data_path =
    record {
      flags = record { 0 = 0 };
      country_code = O.some (record { first = 2; second = 3; pad = 4 });
      channel_map = O.none (DataPathChannel.ChannelMap (record { 0 = 7 }));
      infra_bssid_channel = O.some (record { bssid = record { 0 = 9; 1 = 10; 2 = 11; 3 = 12; 4 = 13; 5 = 14 }; channel = 15 });
      infra_address = O.none (record { 0 = 17; 1 = 18; 2 = 19; 3 = 20; 4 = 21; 5 = 22 });
      awdl_address = O.some (record { 0 = 24; 1 = 25; 2 = 26; 3 = 27; 4 = 28; 5 = 29 });
      unicast_options = O.none (record { 0 = 31 });
      unicast_options_ext = O.some 33;
      extended_flags = O.none (record { 0 = 35 });
      rlfc = O.some 37;
      log_trigger_id = O.none 39;
      stats = O.some (record { msec_since_activation = 41; aw_seq_counter = 42; pay_update_coutner = 43 });
    }

pub record OtherLanguages : Type 1 where
  pub frame : AsNumbers F.InWidth 4 frame_largest frame_numbers frame_in F.zero_frame
  pub data-path : AsNumbers DataPathInWidth 44 data_path_largest data_path_numbers data_path_in zero_data_path
  pub channel : AsNumbers EntryInWidth 3 (octets 3) X.channel_numbers X.channel_in zero_channel
  pub sequence : AsNumbers SequenceInWidth 33 (octets 33) X.sequence_numbers X.sequence_in Q.zero_sequence
  pub channel-sequence : AsNumbers ChannelSequenceInWidth 36 X.channel_sequence_largest X.channel_sequence_numbers X.channel_sequence_in C.zero_channel_sequence
  pub synchronization : AsNumbers SynchronizationInWidth 60 Y.synchronization_largest Y.synchronization_numbers Y.synchronization_in zero_synchronization
  -- a single channel is a byte, where a map is a word
  pub single-channel : (ns : List ℕ) → get_or ns 6 0 ≡ 0 → 255 < get_or ns 7 0 → data_path_in ns ≡ refusal Inconsistent
  -- the order of the numbers
  pub synchronization-order : Y.synchronization_numbers placed_synchronization ≡ from 0 60
  pub data-path-order : data_path_numbers placed_data_path
      ≡ 0 ∷ 1 ∷ 2 ∷ 3 ∷ 4 ∷ 0 ∷ 1 ∷ 7 ∷ 1 ∷ 9 ∷ 10 ∷ 11 ∷ 12 ∷ 13 ∷ 14 ∷ 15 ∷ 0 ∷ 17 ∷ 18 ∷ 19 ∷ 20 ∷ 21 ∷ 22 ∷ 1 ∷ 24 ∷ 25 ∷ 26 ∷ 27 ∷ 28 ∷ 29
      ∷ 0 ∷ 31 ∷ 1 ∷ 33 ∷ 0 ∷ 35 ∷ 1 ∷ 37 ∷ 0 ∷ 39 ∷ 1 ∷ 41 ∷ 42 ∷ 43 ∷ []
  -- what is asked of a record
  pub frame-bytes : (tail : List ℕ) → Asks F.InWidth frame_largest frame_numbers (λ ns. frame_bytes ns tail) (λ f. answer (F.bytes_of f tail))
  pub data-path-consistent : Asks DataPathInWidth data_path_largest data_path_numbers data_path_consistent (λ d. answer (flag_number (consistent d)))
  pub data-path-mended : Asks DataPathInWidth data_path_largest data_path_numbers data_path_mended (λ d. answer (mended d))
  pub data-path-size : Asks DataPathInWidth data_path_largest data_path_numbers data_path_size D.size_of
  pub data-path-bytes : Asks DataPathInWidth data_path_largest data_path_numbers data_path_bytes D.bytes_of
  pub corrected-channel : Asks EntryInWidth (octets 3) X.channel_numbers X.corrected_of corrected
  pub sequence-consistent : Asks SequenceInWidth (octets 33) X.sequence_numbers X.sequence_consistent (λ q. flagged (Q.consistent q))
  pub sequence-size : Asks SequenceInWidth (octets 33) X.sequence_numbers X.sequence_size Q.size_of
  pub sequence-bytes : Asks SequenceInWidth (octets 33) X.sequence_numbers X.sequence_bytes Q.bytes_of
  pub sequence-entry : (n : ℕ) → Asks SequenceInWidth (octets 33) X.sequence_numbers (λ ns. X.sequence_entry ns n) (λ q. hop_at q n)
  pub sequence-simple : Asks SequenceInWidth (octets 33) X.sequence_numbers X.sequence_simple to_simple
  pub channel-sequence-consistent : Asks ChannelSequenceInWidth X.channel_sequence_largest X.channel_sequence_numbers X.channel_sequence_consistent (λ c. flagged (C.consistent c))
  pub channel-sequence-size : Asks ChannelSequenceInWidth X.channel_sequence_largest X.channel_sequence_numbers X.channel_sequence_size C.size_of
  pub channel-sequence-bytes : Asks ChannelSequenceInWidth X.channel_sequence_largest X.channel_sequence_numbers X.channel_sequence_bytes C.bytes_of
  pub synchronization-consistent : Asks SynchronizationInWidth Y.synchronization_largest Y.synchronization_numbers Y.synchronization_consistent (λ p. flagged (S.consistent p))
  pub synchronization-size : Asks SynchronizationInWidth Y.synchronization_largest Y.synchronization_numbers Y.synchronization_size S.size_of
  pub synchronization-bytes : Asks SynchronizationInWidth Y.synchronization_largest Y.synchronization_numbers Y.synchronization_bytes S.bytes_of
  -- and with a number that stands alone
  pub item-bytes : (value : List ℕ) → AsksByte (λ n. item_bytes_in n value) (λ n. item_bytes n value)
  pub judgement : (sequences permitted : List ℕ) → AsksByte (judged_in sequences permitted) (judged sequences permitted)
  pub load : (sequences : List ℕ) → AsksByte (load_of sequences) (load_in sequences)
  pub sequence-read : (n : ℕ) (s : List ℕ) (at : ℕ) → n < 256 → X.sequence_read_in n s at ≡ R.sequence n s at
  pub sequence-read-large : (n : ℕ) (s : List ℕ) (at : ℕ) → 255 < n → X.sequence_read_in n s at ≡ refused Inconsistent
  -- a reader that refuses lays down size 0 and the zero record, and a writer that refuses size 0, and leaves every byte of the buffer as it was
  pub readers : {A : Type 0} (numbers_of : A → List ℕ) (none : A) (at : ℕ) (m : Reading A) (n offset size : ℕ) (after : List ℕ)
      → ToldReading numbers_of (outcome none at m) n offset size after → ¬ (n ≡ 0) → (size ≡ 0) × (after ≡ numbers_of none)
  pub writers : (s : List ℕ) (bytes : Answer (List ℕ)) (n size : ℕ) (after : List ℕ) → ToldWriting s bytes n size after → ¬ (n ≡ 0) → (size ≡ 0) × (after ≡ s)
  -- a call that refuses lays down the zero record or 0; the judge alone lays down a channel beside a refusal
  pub makers : {A : Type 0} (numbers_of : A → List ℕ) (none : A) (m : Answer A) (n : ℕ) (after : List ℕ)
      → ToldRecord numbers_of (reply none m) n after → ¬ (n ≡ 0) → after ≡ numbers_of none
  pub numbers : (m : Answer ℕ) (n value : ℕ) → ToldNumber (reply 0 m) n value → ¬ (n ≡ 0) → value ≡ 0
  pub placed : (m : Answer ℕ) (n offset value : ℕ) → ToldPlaced (reply 0 m) n offset value → ¬ (n ≡ 0) → value ≡ 0
  pub hops : (m : Answer Hop) (n there : ℕ) (after : List ℕ) → ToldHop (reply nothing m) n there after → ¬ (n ≡ 0) → (there ≡ 0) × (after ≡ X.channel_numbers zero_channel)
  -- only one answer, with one content of what was lent, meets each statement
  pub reading-once : {A : Type 0} (numbers_of : A → List ℕ) (o : Outcome A) (n m p q size bytes : ℕ) (after last : List ℕ)
      → ToldReading numbers_of o n p size after → ToldReading numbers_of o m q bytes last → (n ≡ m) × (p ≡ q) × (size ≡ bytes) × (after ≡ last)
  pub number-once : (r : Reply ℕ) (n m v w : ℕ) → ToldNumber r n v → ToldNumber r m w → (n ≡ m) × (v ≡ w)
  pub placed-once : (r : Reply ℕ) (n m p q v w : ℕ) → ToldPlaced r n p v → ToldPlaced r m q w → (n ≡ m) × (p ≡ q) × (v ≡ w)
  pub record-once : {A : Type 0} (numbers_of : A → List ℕ) (r : Reply A) (n m : ℕ) (after last : List ℕ)
      → ToldRecord numbers_of r n after → ToldRecord numbers_of r m last → (n ≡ m) × (after ≡ last)
  pub writing-once : (s : List ℕ) (bytes : Answer (List ℕ)) (n m size laid : ℕ) (after last : List ℕ)
      → ToldWriting s bytes n size after → ToldWriting s bytes m laid last → (n ≡ m) × (size ≡ laid) × (after ≡ last)
  pub step-once : (step : Step) (n m : ℕ) (after last : List ℕ) → ToldStep step n after → ToldStep step m last → (n ≡ m) × (after ≡ last)
  pub search-once : {A : Type 0} (numbers_of : A → List ℕ) (none : A) (s : Search A) (n m : ℕ) (item it after last : List ℕ)
      → ToldSearch numbers_of none s n item after → ToldSearch numbers_of none s m it last → (n ≡ m) × (item ≡ it) × (after ≡ last)
  pub hop-once : (r : Reply Hop) (n m there here : ℕ) (after last : List ℕ) → ToldHop r n there after → ToldHop r m here last → (n ≡ m) × (there ≡ here) × (after ≡ last)
