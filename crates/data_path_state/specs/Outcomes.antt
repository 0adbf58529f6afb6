-- The number, the offset and the values that the reader's answer stands for.
use Rattle.std.specs.Prelude.{ℕ, Result}
use Rattle.wire.specs.declared.refusal.Refusal.{Refusal}
use Rattle.wire.specs.Outcomes.{Outcome, outcome_of}
use Rattle.data_path_state.specs.declared.data_path_state_tlv.DataPathStateTLV.{DataPathStateTLV}
use Rattle.data_path_fields.specs.Fields.{no_country, no_channel, no_infra, no_address, no_options, no_word, no_extended_flags, no_trigger_id, no_stats}

abbrev pub zero_data_path : DataPathStateTLV
zero_data_path =
    record {
      flags = record { 0 = 0 };
      country_code = no_country;
      channel_map = no_channel;
      infra_bssid_channel = no_infra;
      infra_address = no_address;
      awdl_address = no_address;
      unicast_options = no_options;
      unicast_options_ext = no_word;
      extended_flags = no_extended_flags;
      rlfc = no_word;
      log_trigger_id = no_trigger_id;
      stats = no_stats;
    }

abbrev pub outcome_data_path : Result (DataPathStateTLV × ℕ) Refusal → Outcome DataPathStateTLV
outcome_data_path = outcome_of zero_data_path 0
