-- The size of a record and the bytes that are written.
use Rattle.std.specs.Prelude.{ℕ, ◌+◌, Bool, cond, List, [], ◌++◌}
use Rattle.wire.specs.declared.refusal.Refusal.TheVariants.{Inconsistent}
use Rattle.wire.specs.Answer.{Answer, answer, require, ◌>>◌}
use Rattle.wire.specs.Numbers.{little_bytes}
use Rattle.wire.specs.Addresses.{address_bytes}
use Rattle.data_path_words.specs.Words.{channel_bytes, options_bytes, stats_bytes}
use Rattle.data_path_words.specs.Words as W
use Rattle.data_path_fields.specs.Optional.{optional_bytes}
use Rattle.data_path_fields.specs.Fields.{country_bytes, infra_bytes}
use Rattle.data_path_state.specs.declared.data_path_state_tlv.DataPathStateTLV.{DataPathStateTLV}
use Rattle.data_path_state.specs.Consistent.{consistent}

abbrev pub head_bytes : DataPathStateTLV → List ℕ
head_bytes r =
    little_bytes 2 r.flags.0 ++ optional_bytes country_bytes r.country_code ++ optional_bytes channel_bytes r.channel_map

abbrev pub addresses_bytes : DataPathStateTLV → List ℕ
addresses_bytes r =
    optional_bytes infra_bytes r.infra_bssid_channel
    ++ optional_bytes address_bytes r.infra_address
    ++ optional_bytes address_bytes r.awdl_address

-- a length of 8 says that a second word follows the options
abbrev pub unicast_bytes : DataPathStateTLV → List ℕ
unicast_bytes r =
    cond r.unicast_options.present
    (little_bytes 2 (cond r.unicast_options_ext.present 8 4)
    ++ options_bytes r.unicast_options.value
    ++ optional_bytes (little_bytes 4) r.unicast_options_ext)
    []

abbrev pub extended_bytes : DataPathStateTLV → List ℕ
extended_bytes r =
    cond r.extended_flags.present
    (W.extended_bytes r.extended_flags.value
    ++ optional_bytes (little_bytes 2) r.log_trigger_id
    ++ optional_bytes (little_bytes 4) r.rlfc
    ++ optional_bytes stats_bytes r.stats)
    []

unfoldable pub record_bytes : DataPathStateTLV → List ℕ
record_bytes r = head_bytes r ++ addresses_bytes r ++ unicast_bytes r ++ extended_bytes r

abbrev pub bytes_of : DataPathStateTLV → Answer (List ℕ)
bytes_of r = do
  require (consistent r) Inconsistent
  answer (record_bytes r)

-- the bytes of a field count where it is there
abbrev pub counted : Bool → ℕ → ℕ
counted present n = cond present n 0

-- the sum of the fields that are there
unfoldable pub sum : DataPathStateTLV → ℕ
sum r =
    2
    + counted r.country_code.present 3
    + counted r.channel_map.present 2
    + counted r.infra_bssid_channel.present 8
    + counted r.infra_address.present 6
    + counted r.awdl_address.present 6
    + counted r.unicast_options.present 6
    + counted r.unicast_options_ext.present 4
    + counted r.extended_flags.present 2
    + counted r.log_trigger_id.present 2
    + counted r.rlfc.present 4
    + counted r.stats.present 12

abbrev pub size_of : DataPathStateTLV → Answer ℕ
size_of r = do
  require (consistent r) Inconsistent
  answer (sum r)
