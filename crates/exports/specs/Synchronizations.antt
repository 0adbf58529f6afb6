-- The numbers of a synchronization record.
use Rattle.std.specs.Prelude.{ℕ, List, ◌∷◌, ◌++◌, get_or, drop}
use Rattle.wire.specs.Answer.{Answer, ◌>>=◌}
use Rattle.wire.specs.Addresses.{address_of, address_bytes}
use Rattle.synchronization_parameters.specs.declared.synchronization_parameters_tlv.SynchronizationParametersTLV.{SynchronizationParametersTLV}
use Rattle.synchronization_parameters.specs.SynchronizationBytes as P
use Rattle.exports.specs.Held.{u8, u16, octets, fits, held, flagged}
use Rattle.exports.specs.Sequences.{channel_sequence_numbers, channel_sequence_largest, channel_sequence_of}

abbrev pub synchronization_numbers : SynchronizationParametersTLV → List ℕ
synchronization_numbers p =
    p.next_channel ∷ p.tx_counter ∷ p.master_channel ∷ p.guard_time ∷ p.aw_period ∷ p.af_period ∷ p.awdl_flags
    ∷ p.aw_ext_length ∷ p.aw_common_length ∷ p.remaining_aw_length
    ∷ p.min_ext_count ∷ p.max_multicast_ext_count ∷ p.max_unicast_ext_count ∷ p.max_af_ext_count
    ∷ address_bytes p.master_address ++ p.presence_mode ∷ p.reserved ∷ p.aw_seq_number ∷ p.ap_beacon_alignment_delta
    ∷ channel_sequence_numbers p.channel_sequence

abbrev pub synchronization_largest : List ℕ
synchronization_largest =
    u8 ∷ u16 ∷ u8 ∷ u8 ∷ u16 ∷ u16 ∷ u16
    ∷ u16 ∷ u16 ∷ u16
    ∷ u8 ∷ u8 ∷ u8 ∷ u8
    ∷ octets 6 ++ u8 ∷ u8 ∷ u16 ∷ u16
    ∷ channel_sequence_largest

abbrev pub synchronization_of : List ℕ → SynchronizationParametersTLV
synchronization_of ns =
    record {
      next_channel = get_or ns 0 0;
      tx_counter = get_or ns 1 0;
      master_channel = get_or ns 2 0;
      guard_time = get_or ns 3 0;
      aw_period = get_or ns 4 0;
      af_period = get_or ns 5 0;
      awdl_flags = get_or ns 6 0;
      aw_ext_length = get_or ns 7 0;
      aw_common_length = get_or ns 8 0;
      remaining_aw_length = get_or ns 9 0;
      min_ext_count = get_or ns 10 0;
      max_multicast_ext_count = get_or ns 11 0;
      max_unicast_ext_count = get_or ns 12 0;
      max_af_ext_count = get_or ns 13 0;
      master_address = address_of (drop 14 ns);
      presence_mode = get_or ns 20 0;
      reserved = get_or ns 21 0;
      aw_seq_number = get_or ns 22 0;
      ap_beacon_alignment_delta = get_or ns 23 0;
      channel_sequence = channel_sequence_of (drop 24 ns);
    }

abbrev pub synchronization_in : List ℕ → Answer SynchronizationParametersTLV
synchronization_in ns = held (fits ns synchronization_largest) (synchronization_of ns)

abbrev pub synchronization_consistent : List ℕ → Answer ℕ
synchronization_consistent ns = flagged (synchronization_in ns >>= P.consistent)

abbrev pub synchronization_size : List ℕ → Answer ℕ
synchronization_size ns = synchronization_in ns >>= P.size_of

abbrev pub synchronization_bytes : List ℕ → Answer (List ℕ)
synchronization_bytes ns = synchronization_in ns >>= P.bytes_of
