-- What mending makes of a record: presence bits set from presence, words without dropped bits, absent fields zero.
-- It leaves a channel that is there as it is.
use Rattle.std.specs.Prelude.{Bool, cond, ◌||◌, List, [], ◌∷◌}
use Rattle.wire.specs.Words.{Run, keep, clear, put, word_by}
use Rattle.data_path_words.specs.declared.flags.DataPathFlags.{DataPathFlags}
use Rattle.data_path_state.specs.declared.data_path_state_tlv.DataPathStateTLV.{DataPathStateTLV}
use Rattle.data_path_words.specs.declared.misc.UnicastOptions.{UnicastOptions}
use Rattle.data_path_words.specs.declared.flags.DataPathExtendedFlags.{DataPathExtendedFlags}
use Rattle.data_path_words.specs.Words.{options_kept, zero_channel, zero_stats}
use Rattle.wire.specs.Addresses.{zero_address}
use Rattle.data_path_fields.specs.declared.optional.Optional.{Optional}
use Rattle.data_path_fields.specs.Optional as O
use Rattle.data_path_fields.specs.Fields.{zero_country, zero_infra}

-- options 0 are added under a lone second word
abbrev pub has_options : DataPathStateTLV → Bool
has_options r = r.unicast_options.present || r.unicast_options_ext.present

abbrev pub mended_options : DataPathStateTLV → Optional UnicastOptions
mended_options r =
    record {
      present = has_options r;
      value = record { 0 = cond r.unicast_options.present (word_by options_kept r.unicast_options.value.0) 0 };
    }

-- the extended word is added where one of its fields is there
abbrev pub has_extended : DataPathStateTLV → Bool
has_extended r = r.extended_flags.present || r.log_trigger_id.present || r.rlfc.present || r.stats.present

-- bits 0, 2 and 5 announce the fields, and bit 7 is dropped
abbrev pub extended_runs : DataPathStateTLV → List Run
extended_runs r =
    put r.log_trigger_id.present
    ∷ keep 1
    ∷ put r.rlfc.present
    ∷ keep 2
    ∷ put r.stats.present
    ∷ keep 1
    ∷ clear 1
    ∷ keep 8
    ∷ []

abbrev pub mended_extended : DataPathStateTLV → Optional DataPathExtendedFlags
mended_extended r =
    record {
      present = has_extended r;
      value = record { 0 = word_by (extended_runs r) (cond r.extended_flags.present r.extended_flags.value.0 0) };
    }

-- bits 0, 1, 2, 8, 9, 12 and 15 announce the fields
abbrev pub flags_runs : DataPathStateTLV → List Run
flags_runs r =
    put r.infra_bssid_channel.present
    ∷ put r.infra_address.present
    ∷ put r.awdl_address.present
    ∷ keep 5
    ∷ put r.country_code.present
    ∷ put r.channel_map.present
    ∷ keep 2
    ∷ put (has_options r)
    ∷ keep 2
    ∷ put (has_extended r)
    ∷ []

abbrev pub mended_flags : DataPathStateTLV → DataPathFlags
mended_flags r = record { 0 = word_by (flags_runs r) r.flags.0 }

unfoldable pub mended : DataPathStateTLV → DataPathStateTLV
mended r =
    record {
      flags = mended_flags r;
      country_code = O.mended zero_country r.country_code;
      channel_map = O.mended zero_channel r.channel_map;
      infra_bssid_channel = O.mended zero_infra r.infra_bssid_channel;
      infra_address = O.mended zero_address r.infra_address;
      awdl_address = O.mended zero_address r.awdl_address;
      unicast_options = mended_options r;
      unicast_options_ext = O.mended 0 r.unicast_options_ext;
      extended_flags = mended_extended r;
      rlfc = O.mended 0 r.rlfc;
      log_trigger_id = O.mended 0 r.log_trigger_id;
      stats = O.mended zero_stats r.stats;
    }
