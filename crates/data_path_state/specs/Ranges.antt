-- The bounds that the types of the fields set; every record that code holds keeps them.
use Rattle.std.specs.Prelude.{ℕ, ◌^◌, ◌<◌, get_or}
use Rattle.wire.specs.Addresses.{address_bytes}
use Rattle.data_path_state.specs.declared.data_path_state_tlv.DataPathStateTLV.{DataPathStateTLV}
use Rattle.data_path_words.specs.Words.{word_of}

pub record Ranges (r : DataPathStateTLV) : Type 0 where
  pub flags : r.flags.0 < 256 ^ 2
  pub first : r.country_code.value.first < 256
  pub second : r.country_code.value.second < 256
  pub pad : r.country_code.value.pad < 256
  pub channel : word_of r.channel_map.value < 256 ^ 2
  pub bssid : (i : ℕ) → get_or (address_bytes r.infra_bssid_channel.value.bssid) i 0 < 256
  pub infra : r.infra_bssid_channel.value.channel < 256 ^ 2
  pub address : (i : ℕ) → get_or (address_bytes r.infra_address.value) i 0 < 256
  pub awdl : (i : ℕ) → get_or (address_bytes r.awdl_address.value) i 0 < 256
  pub options : r.unicast_options.value.0 < 256 ^ 4
  pub ext : r.unicast_options_ext.value < 256 ^ 4
  pub extended : r.extended_flags.value.0 < 256 ^ 2
  pub rlfc : r.rlfc.value < 256 ^ 4
  pub trigger : r.log_trigger_id.value < 256 ^ 2
  pub msec : r.stats.value.msec_since_activation < 256 ^ 4
  pub aw : r.stats.value.aw_seq_counter < 256 ^ 4
  pub pay : r.stats.value.pay_update_coutner < 256 ^ 4
