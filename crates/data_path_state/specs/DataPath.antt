-- How the record is read: its head, and behind it the fields that the head's flags announce.
use Rattle.wire.specs.Reading.{Reader, give, ◌>>=◌}
use Rattle.data_path_fields.specs.declared.read.Head.{Head}
use Rattle.data_path_fields.specs.declared.read.Body.{Body}
use Rattle.data_path_fields.specs.Fields.{head, body}
use Rattle.data_path_state.specs.declared.data_path_state_tlv.DataPathStateTLV.{DataPathStateTLV}

abbrev pub record_of : Head → Body → DataPathStateTLV
record_of h b =
    record {
      flags = record { 0 = h.flags };
      country_code = h.country;
      channel_map = h.channel;
      infra_bssid_channel = b.addresses.bssid;
      infra_address = b.addresses.infra;
      awdl_address = b.addresses.awdl;
      unicast_options = b.unicast.options;
      unicast_options_ext = b.unicast.ext;
      extended_flags = b.extended.flags;
      rlfc = b.extended.rlfc;
      log_trigger_id = b.extended.trigger;
      stats = b.extended.stats;
    }

abbrev pub data_path : Reader DataPathStateTLV
data_path = do
  h ← head
  b ← body h.flags
  give (record_of h b)
