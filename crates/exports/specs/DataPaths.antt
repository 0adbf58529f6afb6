-- The numbers of a data path record.
use Rattle.std.specs.Prelude.{ℕ, ◌+◌, Bool, cond, ◌&&◌, ◌||◌, List, [], ◌∷◌, ◌++◌, eqb, leb, get_or, drop}
use Rattle.wire.specs.Answer.{Answer, answer, ◌>>=◌}
use Rattle.wire.specs.declared.value.MACAddress.{MACAddress}
use Rattle.wire.specs.Addresses.{address_of, address_bytes}
use Rattle.data_path_words.specs.declared.misc.DataPathChannel.{DataPathChannel}
use Rattle.data_path_words.specs.Words.{word_of}
use Rattle.data_path_fields.specs.declared.fields.CountryCode.{CountryCode}
use Rattle.data_path_words.specs.declared.misc.UnicastOptions.{UnicastOptions}
use Rattle.data_path_words.specs.declared.misc.DataPathStats.{DataPathStats}
use Rattle.data_path_words.specs.declared.flags.DataPathExtendedFlags.{DataPathExtendedFlags}
use Rattle.data_path_fields.specs.declared.fields.InfraBssidChannel.{InfraBssidChannel}
use Rattle.data_path_fields.specs.declared.optional.Optional.{Optional}
use Rattle.data_path_state.specs.declared.data_path_state_tlv.DataPathStateTLV.{DataPathStateTLV}
use Rattle.data_path_state.specs.Consistent.{consistent}
use Rattle.data_path_state.specs.Mended.{mended}
use Rattle.data_path_state.specs.Bytes.{size_of, bytes_of}
use Rattle.exports.specs.Held.{u8, u16, u32, flag, octets, fits, held, flag_number, is_there}

-- a single channel is 0, and a map 1
abbrev pub kind_of : DataPathChannel → ℕ
kind_of (DataPathChannel.SingleChannel channel) = 0
kind_of (DataPathChannel.ChannelMap map) = 1

abbrev pub channel_of : ℕ → ℕ → DataPathChannel
channel_of kind value = cond (eqb kind 1) (DataPathChannel.ChannelMap (record { 0 = value })) (DataPathChannel.SingleChannel value)

-- up to the infra address, and from the AWDL address on
abbrev pub front_numbers : DataPathStateTLV → List ℕ
front_numbers r =
    r.flags.0
    ∷ flag_number r.country_code.present ∷ r.country_code.value.first ∷ r.country_code.value.second ∷ r.country_code.value.pad
    ∷ flag_number r.channel_map.present ∷ kind_of r.channel_map.value ∷ word_of r.channel_map.value
    ∷ flag_number r.infra_bssid_channel.present ∷ address_bytes r.infra_bssid_channel.value.bssid ++ r.infra_bssid_channel.value.channel
    ∷ flag_number r.infra_address.present ∷ address_bytes r.infra_address.value

abbrev pub rest_numbers : DataPathStateTLV → List ℕ
rest_numbers r =
    flag_number r.awdl_address.present ∷ address_bytes r.awdl_address.value
    ++ flag_number r.unicast_options.present ∷ r.unicast_options.value.0
    ∷ flag_number r.unicast_options_ext.present ∷ r.unicast_options_ext.value
    ∷ flag_number r.extended_flags.present ∷ r.extended_flags.value.0
    ∷ flag_number r.rlfc.present ∷ r.rlfc.value
    ∷ flag_number r.log_trigger_id.present ∷ r.log_trigger_id.value
    ∷ flag_number r.stats.present ∷ r.stats.value.msec_since_activation ∷ r.stats.value.aw_seq_counter
    ∷ r.stats.value.pay_update_coutner ∷ []

abbrev pub data_path_numbers : DataPathStateTLV → List ℕ
data_path_numbers r = front_numbers r ++ rest_numbers r

abbrev pub data_path_largest : List ℕ
data_path_largest =
    u16
    ∷ flag ∷ u8 ∷ u8 ∷ u8
    ∷ flag ∷ flag ∷ u16
    ∷ flag ∷ octets 6 ++ u16
    ∷ flag ∷ octets 6
    ++ flag ∷ octets 6
    ++ flag ∷ u32
    ∷ flag ∷ u32
    ∷ flag ∷ u16
    ∷ flag ∷ u32
    ∷ flag ∷ u16
    ∷ flag ∷ u32 ∷ u32 ∷ u32 ∷ []

-- a single channel is a byte, and a map a word
abbrev pub channel_fits : ℕ → ℕ → Bool
channel_fits kind value = eqb kind 1 || leb value u8

abbrev pub data_path_fits : List ℕ → Bool
data_path_fits ns = fits ns data_path_largest && channel_fits (get_or ns 6 0) (get_or ns 7 0)

-- the values of such numbers, from a place on
abbrev pub country_at : ℕ → List ℕ → CountryCode
country_at at ns = record { first = get_or ns at 0; second = get_or ns (at + 1) 0; pad = get_or ns (at + 2) 0 }

abbrev pub channel_at : ℕ → List ℕ → DataPathChannel
channel_at at ns = channel_of (get_or ns at 0) (get_or ns (at + 1) 0)

abbrev pub address_at : ℕ → List ℕ → MACAddress
address_at at ns = address_of (drop at ns)

abbrev pub infra_at : ℕ → List ℕ → InfraBssidChannel
infra_at at ns = record { bssid = address_at at ns; channel = get_or ns (at + 6) 0 }

abbrev pub number_at : ℕ → List ℕ → ℕ
number_at at ns = get_or ns at 0

abbrev pub options_at : ℕ → List ℕ → UnicastOptions
options_at at ns = record { 0 = get_or ns at 0 }

abbrev pub extended_at : ℕ → List ℕ → DataPathExtendedFlags
extended_at at ns = record { 0 = get_or ns at 0 }

abbrev pub stats_at : ℕ → List ℕ → DataPathStats
stats_at at ns = record { msec_since_activation = get_or ns at 0; aw_seq_counter = get_or ns (at + 1) 0; pay_update_coutner = get_or ns (at + 2) 0 }

-- a field whose flag stands at a place, with its value behind it
abbrev pub optional_at : {A : Type 0} → (ℕ → List ℕ → A) → ℕ → List ℕ → Optional A
optional_at value_at at ns = record { present = is_there (get_or ns at 0); value = value_at (at + 1) ns }

abbrev pub data_path_of : List ℕ → DataPathStateTLV
data_path_of ns =
    record {
      flags = record { 0 = get_or ns 0 0 };
      country_code = optional_at country_at 1 ns;
      channel_map = optional_at channel_at 5 ns;
      infra_bssid_channel = optional_at infra_at 8 ns;
      infra_address = optional_at address_at 16 ns;
      awdl_address = optional_at address_at 23 ns;
      unicast_options = optional_at options_at 30 ns;
      unicast_options_ext = optional_at number_at 32 ns;
      extended_flags = optional_at extended_at 34 ns;
      rlfc = optional_at number_at 36 ns;
      log_trigger_id = optional_at number_at 38 ns;
      stats = optional_at stats_at 40 ns;
    }

abbrev pub data_path_in : List ℕ → Answer DataPathStateTLV
data_path_in ns = held (data_path_fits ns) (data_path_of ns)

-- what is asked of such a record
abbrev pub data_path_consistent : List ℕ → Answer ℕ
data_path_consistent ns = data_path_in ns >>= λ d. answer (flag_number (consistent d))

abbrev pub data_path_mended : List ℕ → Answer DataPathStateTLV
data_path_mended ns = data_path_in ns >>= λ d. answer (mended d)

abbrev pub data_path_size : List ℕ → Answer ℕ
data_path_size ns = data_path_in ns >>= size_of

abbrev pub data_path_bytes : List ℕ → Answer (List ℕ)
data_path_bytes ns = data_path_in ns >>= bytes_of
