-- Which formats can be laid end to end: those whose records are all read by one reader that goes by the bytes. Where each has a reader of its own, an end of its own, or need not come back as it was, some run together.
-- Assumes nothing.
use Prim.Native.Nat.{ℕ, ◌^◌, ◌<◌}
use native.Mathlib.Omega.{arith}
use mathlib.Core.Path.{◌≡◌, refl, ap}
use mathlib.Core.List.{[], ◌∷◌}
use lib.Dec.{lit<}
use lib.ListN.{length, replicate}
use Rattle.wire.specs.Reading.{Reading, read}
use Rattle.wire.specs.Answer.{Answer, answer, refusal}
use Rattle.wire.proofs.Lawful.{never}
use Rattle.wire.proofs.Octets.{octets-little}
use Rattle.channel.specs.declared.channel.ChannelEncoding.{ChannelEncoding}
use Rattle.channel.specs.declared.channel.ChannelEncoding.TheVariants.{Simple, Legacy, OpClass}
use Rattle.channel_sequence.specs.declared.channel_sequence.ChannelSequence.{ChannelSequence}
use Rattle.channel.specs.Channels.{encoding_of}
use Rattle.channel_sequence.specs.Sequences.{zero_sequence}
use Rattle.channel_sequence.specs.SequenceReader.{sequence}
use Rattle.channel_sequence_tlv.specs.SequenceTLVReader.{channel_sequence_record}
use Rattle.data_path_words.specs.declared.misc.DataPathChannel.{DataPathChannel}
use Rattle.data_path_words.specs.Words.{word_of}
use Rattle.data_path_fields.specs.declared.fields.CountryCode.{CountryCode}
use Rattle.data_path_fields.specs.declared.optional.Optional.{Optional}
use Rattle.data_path_fields.specs.Fields.{no_country, no_channel}
use Rattle.data_path_state.specs.declared.data_path_state_tlv.DataPathStateTLV.{DataPathStateTLV}
use Rattle.data_path_state.specs.Ranges.{Ranges}
use Rattle.data_path_state.specs.Consistent.{consistent}
use Rattle.data_path_state.specs.Bytes.{record_bytes, sum}
use Rattle.data_path_state.specs.Mended.{mended}
use Rattle.synchronization_parameters.specs.SynchronizationReader.{synchronization}
use Rattle.tlv_items.specs.declared.item.Item.{Item}
use Rattle.tlv_items.specs.Items.{step_at, value_of}
use Rattle.action_frame.specs.Frames.{zero_frame, header_bytes, InWidth}
use Rattle.promises.specs.Formats.{Frame, sequences, sequences_in, channel_sequences, data_paths, synchronizations, items, frames}
use Rattle.promises.specs.EndToEnd.{EndToEnd, OneReading, RunTogether, unchecked_data_paths, unmended_data_paths}
use Rattle.promises.specs.Rows.{holding, single}
use Rattle.promises.proofs.RoundTrips.{sequence-in-round, channel-sequence-round, data-path-round, synchronization-round, item-round}
use Rattle.promises.proofs.EndToEnd.{end-to-end}

-- of one answer of a reader
read_alike : {A : Type 0} {found : Reading A} {a b : A} {m n : ℕ} → found ≡ read a m → found ≡ read b n → (a ≡ b) × (m ≡ n)
read_alike e f = ((cc), (cc))

pub data-path-archive : EndToEnd data_paths
data-path-archive = end-to-end data_paths data-path-round (record { alike = λ e f. read_alike e f; needs-bytes = λ e. never e })

pub channel-sequence-archive : EndToEnd channel_sequences
unfolding channel_sequence_record
channel-sequence-archive = end-to-end channel_sequences channel-sequence-round (record { alike = λ e f. read_alike e f; needs-bytes = λ e. never e })

pub synchronization-archive : EndToEnd synchronizations
unfolding synchronization
synchronization-archive =
    end-to-end synchronizations synchronization-round (record { alike = λ e f. read_alike e f; needs-bytes = λ e. never e })

-- no encoding has entries without a byte
entries-need-bytes : (encoding : ℕ) {q : ChannelSequence} {n : ℕ} → sequence encoding [] 0 ≡ read q n → ⊥
entries-need-bytes encoding {q} {n} e = go (encoding_of encoding) refl
  where
    go : (found : Answer ChannelEncoding) → encoding_of encoding ≡ found → ⊥
    go (answer Simple) f = never (rw f at e)
    go (answer Legacy) f = never (rw f at e)
    go (answer OpClass) f = never (rw f at e)
    go (refusal why) f = never (rw f at e)

pub sequence-archive : (encoding : ℕ) → EndToEnd (sequences_in encoding)
sequence-archive encoding =
    end-to-end (sequences_in encoding) (sequence-in-round encoding)
    (record { alike = λ e f. read_alike e f; needs-bytes = λ e. entries-need-bytes encoding e })

-- a step gives one item, and the item has one value
item-reading : OneReading items
unfolding step_at
item-reading =
    record {
      alike = λ {r} {q} {s} {m} {n} e f.
          let first : Item = record { at = 0; tlv_type = r.type; length = length r.value } in
          let second : Item = record { at = 0; tlv_type = q.type; length = length q.value } in
          let step = e.0 in
          let other = f.0 in
          let same : first ≡ second = cc in
          let type : r.type ≡ q.type = ap (λ (it : Item). it.tlv_type) same in
          let value : r.value ≡ q.value = cc (e.1, f.1, ap (value_of s) same) in
          let size : m ≡ n = cc in
          ((λ i. record { type = type i; value = value i }), size);
      needs-bytes = λ e. let step = e.0 in cc;
    }

pub item-archive : EndToEnd items
item-archive = end-to-end items item-round item-reading

-- two simple sequences of zeros are the bytes of one whose zeros are channels and operating classes
pub sequences-run : RunTogether sequences
unfolding encoding_of
sequences-run =
    record {
      first = zero_sequence;
      others = zero_sequence ∷ [];
      another = record { encoding = 3; bytes = replicate 32 0 };
      differ = λ e. omega (arith, ap (λ (q : ChannelSequence). q.encoding) e);
      all-consistent = ((refl, refl, refl), ((refl, refl, refl), ((refl, refl, refl), tt)));
      bytes = replicate 16 0;
      behind = replicate 16 0;
      first-written = refl;
      others-laid = refl;
      another-written = refl;
    }

-- two frames without a tail are the bytes of a frame that has the second of them for its tail
pub frames-run : RunTogether frames
unfolding header_bytes
frames-run =
    let fits : InWidth zero_frame = record { subtype = lit< tt; reserved = lit< tt; phy = lit< tt; target = lit< tt } in
    record {
      first = record { head = zero_frame; tail = [] };
      others = record { head = zero_frame; tail = [] } ∷ [];
      another = record { head = zero_frame; tail = header_bytes zero_frame };
      differ = λ e. omega (arith, ap (λ (f : Frame). length f.tail) e);
      all-consistent = (fits, (fits, (fits, tt)));
      bytes = header_bytes zero_frame;
      behind = header_bytes zero_frame;
      first-written = refl;
      others-laid = refl;
      another-written = refl;
    }

-- a record with these flags, country and channel, and nothing else
pub holding-ranges : (flags : ℕ) (country : Optional CountryCode) (channel : Optional DataPathChannel) → flags < 256 ^ 2
    → country.value.first < 256 → country.value.second < 256 → country.value.pad < 256 → word_of channel.value < 256 ^ 2 → Ranges (holding flags country channel)
holding-ranges flags country channel flags-fit first second pad word =
    let zeros = octets-little 6 0 in
    record {
      flags = flags-fit;
      first = first;
      second = second;
      pad = pad;
      channel = word;
      bssid = zeros.small;
      infra = lit< tt;
      address = zeros.small;
      awdl = zeros.small;
      options = lit< tt;
      ext = lit< tt;
      extended = lit< tt;
      rlfc = lit< tt;
      trigger = lit< tt;
      msec = lit< tt;
      aw = lit< tt;
      pay = lit< tt;
    }

-- flags that announce a channel which is not there, and a record of flags alone, are the bytes of a record with channel 8, which nobody sent
pub unchecked-run : RunTogether unchecked_data_paths
unfolding record_bytes sum consistent
unchecked-run =
    let fits : (flags : ℕ) (channel : Optional DataPathChannel) → flags < 256 ^ 2 → word_of channel.value < 256 ^ 2 → Ranges (holding flags no_country channel) =
    λ flags channel f w. holding-ranges flags no_country channel f (lit< tt) (lit< tt) (lit< tt) w in
    record {
      first = holding 0x0200 no_country no_channel;
      others = holding 0x0008 no_country no_channel ∷ [];
      another = holding 0x0200 no_country (single 8);
      differ = λ e. omega (arith, ap sum e);
      all-consistent =
          (fits 0x0200 (single 8) (lit< tt) (lit< tt), (fits 0x0200 no_channel (lit< tt) (lit< tt), (fits 0x0008 no_channel (lit< tt) (lit< tt), tt)));
      bytes = 0x00 ∷ 0x02 ∷ [];
      behind = 0x08 ∷ 0x00 ∷ [];
      first-written = refl;
      others-laid = refl;
      another-written = refl;
    }

-- flags that announce a channel which is not there are mended to flags that announce none
pub unmended-run : RunTogether unmended_data_paths
unfolding record_bytes consistent mended
unmended-run =
    let fits : (flags : ℕ) → flags < 256 ^ 2 → Ranges (holding flags no_country no_channel) =
    λ flags f. holding-ranges flags no_country no_channel f (lit< tt) (lit< tt) (lit< tt) (lit< tt) in
    record {
      first = holding 0x0200 no_country no_channel;
      others = [];
      another = holding 0x0000 no_country no_channel;
      differ = λ e. omega (arith, ap (λ (r : DataPathStateTLV). r.flags.0) e);
      all-consistent = ((fits 0x0000 (lit< tt), λ e. refl), ((fits 0x0200 (lit< tt), λ e. refl), tt));
      bytes = 0x00 ∷ 0x00 ∷ [];
      behind = [];
      first-written = refl;
      others-laid = refl;
      another-written = refl;
    }
