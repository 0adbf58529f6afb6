-- How a synchronization value is read: its fields, each behind the one before it, and then the channel sequence.
use Rattle.wire.specs.Reading.{Reader, give, ◌>>=◌}
use Rattle.wire.specs.Numbers.{number, with_reserved}
use Rattle.wire.specs.Addresses.{address, zero_address}
use Rattle.channel_sequence_tlv.specs.SequenceTLVs.{zero_channel_sequence}
use Rattle.channel_sequence_tlv.specs.SequenceTLVReader.{channel_sequence_record}
use Rattle.synchronization_parameters.specs.declared.synchronization_parameters_tlv.SynchronizationParametersTLV.{SynchronizationParametersTLV}

-- 33 bytes, among them the mode with its reserved byte, and the sequence; what follows them is not looked at
unfoldable pub synchronization : Reader SynchronizationParametersTLV
synchronization = do
  next_channel ← number 1
  tx_counter ← number 2
  master_channel ← number 1
  guard_time ← number 1
  aw_period ← number 2
  af_period ← number 2
  awdl_flags ← number 2
  aw_ext_length ← number 2
  aw_common_length ← number 2
  remaining_aw_length ← number 2
  min_ext_count ← number 1
  max_multicast_ext_count ← number 1
  max_unicast_ext_count ← number 1
  max_af_ext_count ← number 1
  master_address ← address
  both ← with_reserved
  aw_seq_number ← number 2
  ap_beacon_alignment_delta ← number 2
  channel_sequence ← channel_sequence_record
  give
      (record {
        next_channel = next_channel;
        tx_counter = tx_counter;
        master_channel = master_channel;
        guard_time = guard_time;
        aw_period = aw_period;
        af_period = af_period;
        awdl_flags = awdl_flags;
        aw_ext_length = aw_ext_length;
        aw_common_length = aw_common_length;
        remaining_aw_length = remaining_aw_length;
        min_ext_count = min_ext_count;
        max_multicast_ext_count = max_multicast_ext_count;
        max_unicast_ext_count = max_unicast_ext_count;
        max_af_ext_count = max_af_ext_count;
        master_address = master_address;
        presence_mode = both.0;
        reserved = both.1;
        aw_seq_number = aw_seq_number;
        ap_beacon_alignment_delta = ap_beacon_alignment_delta;
        channel_sequence = channel_sequence;
      })

abbrev pub zero_synchronization : SynchronizationParametersTLV
zero_synchronization =
    record {
      next_channel = 0;
      tx_counter = 0;
      master_channel = 0;
      guard_time = 0;
      aw_period = 0;
      af_period = 0;
      awdl_flags = 0;
      aw_ext_length = 0;
      aw_common_length = 0;
      remaining_aw_length = 0;
      min_ext_count = 0;
      max_multicast_ext_count = 0;
      max_unicast_ext_count = 0;
      max_af_ext_count = 0;
      master_address = zero_address;
      presence_mode = 0;
      reserved = 0;
      aw_seq_number = 0;
      ap_beacon_alignment_delta = 0;
      channel_sequence = zero_channel_sequence;
    }
