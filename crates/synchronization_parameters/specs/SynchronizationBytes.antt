-- When a record is consistent, its size, and what is written of it: its fields in the order in which they are read.
use Rattle.std.specs.Prelude.{ℕ, ◌+◌, Bool, List, ◌∷◌, ◌++◌}
use Rattle.wire.specs.Answer.{Answer, answer, ◌>>=◌}
use Rattle.wire.specs.Numbers.{little_bytes, pair_bytes}
use Rattle.wire.specs.Addresses.{address_bytes}
use Rattle.channel_sequence_tlv.specs.SequenceTLVs as C
use Rattle.synchronization_parameters.specs.declared.synchronization_parameters_tlv.SynchronizationParametersTLV.{SynchronizationParametersTLV}

abbrev pub consistent : SynchronizationParametersTLV → Answer Bool
consistent p = C.consistent p.channel_sequence

abbrev pub size_of : SynchronizationParametersTLV → Answer ℕ
size_of p = do
  n ← C.size_of p.channel_sequence
  answer (33 + n)

-- in front of the sequence
unfoldable pub fixed_bytes : SynchronizationParametersTLV → List ℕ
fixed_bytes p =
    little_bytes 1 p.next_channel
    ++ little_bytes 2 p.tx_counter
    ++ little_bytes 1 p.master_channel
    ++ little_bytes 1 p.guard_time
    ++ little_bytes 2 p.aw_period
    ++ little_bytes 2 p.af_period
    ++ little_bytes 2 p.awdl_flags
    ++ little_bytes 2 p.aw_ext_length
    ++ little_bytes 2 p.aw_common_length
    ++ little_bytes 2 p.remaining_aw_length
    ++ little_bytes 1 p.min_ext_count
    ++ little_bytes 1 p.max_multicast_ext_count
    ++ little_bytes 1 p.max_unicast_ext_count
    ++ little_bytes 1 p.max_af_ext_count
    ++ address_bytes p.master_address
    ++ pair_bytes p.presence_mode p.reserved
    ++ little_bytes 2 p.aw_seq_number
    ++ little_bytes 2 p.ap_beacon_alignment_delta

abbrev pub bytes_of : SynchronizationParametersTLV → Answer (List ℕ)
bytes_of p = do
  channels ← C.bytes_of p.channel_sequence
  answer (fixed_bytes p ++ channels)

-- the numbers of a record with their widths; in the code each fits, since its type has as many bytes
abbrev pub numbers : SynchronizationParametersTLV → List (ℕ × ℕ)
numbers p =
    (1, p.next_channel) ∷ (2, p.tx_counter) ∷ (1, p.master_channel) ∷ (1, p.guard_time)
    ∷ (2, p.aw_period) ∷ (2, p.af_period) ∷ (2, p.awdl_flags)
    ∷ (2, p.aw_ext_length) ∷ (2, p.aw_common_length) ∷ (2, p.remaining_aw_length)
    ∷ (1, p.min_ext_count) ∷ (1, p.max_multicast_ext_count) ∷ (1, p.max_unicast_ext_count) ∷ (1, p.max_af_ext_count)
    ∷ (1, p.presence_mode) ∷ (1, p.reserved) ∷ (2, p.aw_seq_number) ∷ (2, p.ap_beacon_alignment_delta)
    ∷ C.numbers p.channel_sequence
