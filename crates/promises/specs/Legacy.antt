-- Legacy sequences: they are read, and not written; what they are converted to is.
use Rattle.std.specs.Prelude.{◌≡◌, ℕ, ◌≤◌, ◌<◌, true, List, length}
use Rattle.wire.specs.declared.refusal.Refusal.TheVariants.{LegacySequence}
use Rattle.wire.specs.Answer.{Answer, answer, refusal}
use Rattle.wire.specs.Writing.{Wrote}
use Rattle.channel.specs.declared.channel.Channel.{Channel}
use Rattle.channel.specs.Channels.{support_channel, corrected}
use Rattle.channel_sequence.specs.declared.channel_sequence.ChannelSequence.{ChannelSequence}
use Rattle.channel_sequence.specs.Sequences.{consistent, is_legacy}
use Rattle.channel_sequence.specs.Hops.{hop, hop_at}
use Rattle.channel_sequence_tlv.specs.declared.channel_sequence_tlv.ChannelSequenceTLV.{ChannelSequenceTLV}
use Rattle.synchronization_parameters.specs.declared.synchronization_parameters_tlv.SynchronizationParametersTLV.{SynchronizationParametersTLV}
use Rattle.promises.specs.Formats.{Format, Fills, sequences}

-- into whatever buffer it is to be written, a record is refused as a legacy one, and the buffer stays as it was
abbrev pub NotWritten : (F : Format) → F.Record → Type 0
NotWritten F r = (s : List ℕ) (said : Answer ℕ) (after : List ℕ) → Wrote s (F.bytes r) said after → (said ≡ refusal LegacySequence) × (after ≡ s)

-- a record with another sequence in its place
abbrev pub with_sequence : ChannelSequenceTLV → ChannelSequence → ChannelSequenceTLV
with_sequence c q =
    record { duplicate_count = c.duplicate_count; step_count = c.step_count; fill_channel = c.fill_channel; channel_sequence = q }

abbrev pub with_its_sequence : SynchronizationParametersTLV → ChannelSequence → SynchronizationParametersTLV
with_its_sequence p q =
    record {
      next_channel = p.next_channel;
      tx_counter = p.tx_counter;
      master_channel = p.master_channel;
      guard_time = p.guard_time;
      aw_period = p.aw_period;
      af_period = p.af_period;
      awdl_flags = p.awdl_flags;
      aw_ext_length = p.aw_ext_length;
      aw_common_length = p.aw_common_length;
      remaining_aw_length = p.remaining_aw_length;
      min_ext_count = p.min_ext_count;
      max_multicast_ext_count = p.max_multicast_ext_count;
      max_unicast_ext_count = p.max_unicast_ext_count;
      max_af_ext_count = p.max_af_ext_count;
      master_address = p.master_address;
      presence_mode = p.presence_mode;
      reserved = p.reserved;
      aw_seq_number = p.aw_seq_number;
      ap_beacon_alignment_delta = p.ap_beacon_alignment_delta;
      channel_sequence = with_sequence p.channel_sequence q;
    }

-- the correction of a legacy entry, flags and channel, passes neither below 0 nor above 255
pub record StaysInside (entry : Channel) : Type 0 where
  pub below : support_channel entry.first ≡ 1 → 2 ≤ entry.second
  pub above : support_channel entry.first ≡ 2 → entry.second ≤ 253

-- a consistent legacy sequence, and every correction of its entries stays inside
pub record Convertible (q : ChannelSequence) : Type 0 where
  pub legacy : is_legacy q ≡ true
  pub consistent : consistent q ≡ answer true
  pub inside : (n : ℕ) (entry : Channel) → hop_at q n ≡ answer (hop entry) → StaysInside entry

-- entry n of one sequence is a simple channel, the corrected one of entry n of the other
pub record CorrectedEntry (q simple : ChannelSequence) (n : ℕ) : Type 0 where
  pub entry : Channel
  pub channel : ℕ
  pub before : hop_at q n ≡ answer (hop entry)
  pub is-corrected : corrected entry ≡ answer channel
  pub after : hop_at simple n ≡ answer (hop (record { encoding = 0; first = channel; second = 0 }))

-- what a sequence is converted to: a consistent sequence of encoding 0, which is written as 16 bytes and read back as itself, with the corrected
-- channels of the other for its entries
pub record Converted (q simple : ChannelSequence) : Type 0 where
  pub encoding : simple.encoding ≡ 0
  pub consistent : sequences.Consistent simple
  pub fills : Fills sequences simple
  pub sixteen : length fills.bytes ≡ 16
  pub entries : (n : ℕ) → n < 16 → CorrectedEntry q simple n
