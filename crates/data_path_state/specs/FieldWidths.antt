-- The fields of a value, by their widths in order: where one that is cut is short goes by these.
use Rattle.std.specs.Prelude.{ℕ, Bool, cond, List, [], ◌∷◌, ◌++◌}
use Rattle.data_path_state.specs.declared.data_path_state_tlv.DataPathStateTLV.{DataPathStateTLV}

-- what is not there has no field
abbrev pub there : Bool → List ℕ → List ℕ
there present widths = cond present widths []

-- Both letters of the country and the pad are one field, the BSSID and its channel two; the unicast length, the options and the second
-- word three; and each of the stats one.
unfoldable pub field_widths : DataPathStateTLV → List ℕ
field_widths r =
    (2 ∷ [])
    ++ there r.country_code.present (3 ∷ [])
    ++ there r.channel_map.present (2 ∷ [])
    ++ there r.infra_bssid_channel.present (6 ∷ 2 ∷ [])
    ++ there r.infra_address.present (6 ∷ [])
    ++ there r.awdl_address.present (6 ∷ [])
    ++ there r.unicast_options.present (2 ∷ 4 ∷ [])
    ++ there r.unicast_options_ext.present (4 ∷ [])
    ++ there r.extended_flags.present (2 ∷ [])
    ++ there r.log_trigger_id.present (2 ∷ [])
    ++ there r.rlfc.present (4 ∷ [])
    ++ there r.stats.present (4 ∷ 4 ∷ 4 ∷ [])
