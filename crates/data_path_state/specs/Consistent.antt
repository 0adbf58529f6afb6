-- When a record is consistent.
use Rattle.std.specs.Prelude.{ℕ, ◌%◌, ◌≡◌, Bool, true, false, not, ◌&&◌, ◌||◌, eqb, leb}
use Rattle.std.specs.Bool.{beq}
use Rattle.wire.specs.declared.value.MACAddress.{MACAddress}
use Rattle.wire.specs.Numbers.{bit}
use Rattle.wire.specs.Words.{word_by}
use Rattle.data_path_words.specs.declared.misc.DataPathChannel.{DataPathChannel}
use Rattle.data_path_words.specs.declared.misc.DataPathStats.{DataPathStats}
use Rattle.data_path_words.specs.declared.misc.UnicastOptions.{UnicastOptions}
use Rattle.data_path_words.specs.declared.flags.DataPathExtendedFlags.{DataPathExtendedFlags}
use Rattle.data_path_fields.specs.declared.fields.CountryCode.{CountryCode}
use Rattle.data_path_fields.specs.declared.fields.InfraBssidChannel.{InfraBssidChannel}
use Rattle.data_path_fields.specs.Optional as O
use Rattle.data_path_state.specs.declared.data_path_state_tlv.DataPathStateTLV.{DataPathStateTLV}
use Rattle.data_path_words.specs.Words.{extended_kept, options_kept}

-- each presence bit of the flags says whether its field is there
abbrev pub flags_match : DataPathStateTLV → Bool
flags_match r =
    let w : ℕ = r.flags.0 in
    beq (bit 0 w) r.infra_bssid_channel.present
    && beq (bit 1 w) r.infra_address.present
    && beq (bit 2 w) r.awdl_address.present
    && beq (bit 8 w) r.country_code.present
    && beq (bit 9 w) r.channel_map.present
    && beq (bit 12 w) r.unicast_options.present
    && beq (bit 15 w) r.extended_flags.present

-- and so does each of the extended word
abbrev pub extended_match : DataPathStateTLV → Bool
extended_match r =
    let w : ℕ = r.extended_flags.value.0 in
    beq (bit 0 w) r.log_trigger_id.present
    && beq (bit 2 w) r.rlfc.present
    && beq (bit 5 w) r.stats.present

-- a field that stands behind another one needs it
abbrev pub only_with : DataPathStateTLV → Bool
only_with r =
    (not r.unicast_options_ext.present || r.unicast_options.present)
    && (not r.log_trigger_id.present || r.extended_flags.present)
    && (not r.rlfc.present || r.extended_flags.present)
    && (not r.stats.present || r.extended_flags.present)

-- a single channel is even and a map is odd, or the word would be taken for the other
abbrev pub channel_right : DataPathChannel → Bool
channel_right (DataPathChannel.SingleChannel channel) = eqb (channel % 2) 0 && leb channel 254
channel_right (DataPathChannel.ChannelMap map) = eqb (map.0 % 2) 1 && leb map.0 7

-- no dropped bit is set
abbrev pub words_kept : DataPathStateTLV → Bool
words_kept r =
    eqb (word_by extended_kept r.extended_flags.value.0) r.extended_flags.value.0
    && eqb (word_by options_kept r.unicast_options.value.0) r.unicast_options.value.0

abbrev pub is_zero_country : CountryCode → Bool
is_zero_country c = eqb c.first 0 && eqb c.second 0 && eqb c.pad 0

abbrev pub is_zero_address : MACAddress → Bool
is_zero_address a = eqb a.0 0 && eqb a.1 0 && eqb a.2 0 && eqb a.3 0 && eqb a.4 0 && eqb a.5 0

abbrev pub is_zero_channel : DataPathChannel → Bool
is_zero_channel (DataPathChannel.SingleChannel channel) = eqb channel 0
is_zero_channel (DataPathChannel.ChannelMap map) = false

abbrev pub is_zero_infra : InfraBssidChannel → Bool
is_zero_infra i = is_zero_address i.bssid && eqb i.channel 0

abbrev pub is_zero_stats : DataPathStats → Bool
is_zero_stats s = eqb s.msec_since_activation 0 && eqb s.aw_seq_counter 0 && eqb s.pay_update_coutner 0

abbrev pub is_zero_options : UnicastOptions → Bool
is_zero_options o = eqb o.0 0

abbrev pub is_zero_extended : DataPathExtendedFlags → Bool
is_zero_extended e = eqb e.0 0

abbrev pub is_zero : ℕ → Bool
is_zero n = eqb n 0

-- a field that is not there has the value zero
abbrev pub absent_zero : DataPathStateTLV → Bool
absent_zero r =
    O.absent_zero is_zero_country r.country_code
    && O.absent_zero is_zero_channel r.channel_map
    && O.absent_zero is_zero_infra r.infra_bssid_channel
    && O.absent_zero is_zero_address r.infra_address
    && O.absent_zero is_zero_address r.awdl_address
    && O.absent_zero is_zero_options r.unicast_options
    && O.absent_zero is_zero r.unicast_options_ext
    && O.absent_zero is_zero_extended r.extended_flags
    && O.absent_zero is_zero r.rlfc
    && O.absent_zero is_zero r.log_trigger_id
    && O.absent_zero is_zero_stats r.stats

unfoldable pub consistent : DataPathStateTLV → Bool
consistent r =
    flags_match r
    && extended_match r
    && only_with r
    && channel_right r.channel_map.value
    && words_kept r
    && absent_zero r

-- a channel that is there is right: the one thing that mending leaves alone
abbrev pub ChannelRight : DataPathStateTLV → Type 0
ChannelRight r = r.channel_map.present ≡ true → channel_right r.channel_map.value ≡ true
