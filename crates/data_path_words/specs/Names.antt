-- The bits that have a name. A name is the number in which its bits are 1 and no others. The lists are in the Rust's order, with the
-- Rust's name behind each number, and the code has its constants in the same order.
use Rattle.std.specs.Prelude.{ℕ, ◌+◌, ◌^◌, ◌<◌, ◌≡◌, List, [], ◌∷◌, get_or}
use Rattle.std.specs.Int.Bits.{bit_and}
use Rattle.wire.specs.ShortFields.{total}

abbrev pub flag_names : List ℕ
flag_names =
    (2 ^ 0) ∷  -- infra_bssid_channel_present
    (2 ^ 1) ∷  -- infra_address_present
    (2 ^ 2) ∷  -- awdl_address_present
    (2 ^ 3) ∷  -- rsdb_support
    (2 ^ 4) ∷  -- is_umi
    (2 ^ 5) ∷  -- dualband_support
    (2 ^ 6) ∷  -- airplay_sink
    (2 ^ 7) ∷  -- follow_channel_sequence
    (2 ^ 8) ∷  -- country_code_present
    (2 ^ 9) ∷  -- channel_map_present
    (2 ^ 10) ∷  -- airplay_solo_mode_support
    (2 ^ 11) ∷  -- umi_support
    (2 ^ 12) ∷  -- unicast_options_present
    (2 ^ 13) ∷  -- is_realtime
    (2 ^ 14) ∷  -- rangeable
    (2 ^ 15) ∷  -- extended_flags
    []

abbrev pub extended_names : List ℕ
extended_names =
    (2 ^ 0) ∷  -- log_trigger_id_present
    (2 ^ 1) ∷  -- ranging_discovery_supported
    (2 ^ 2) ∷  -- rlfc_present
    (2 ^ 3) ∷  -- is_social_channel_map_supported
    (2 ^ 4) ∷  -- dynamic_sdb_active
    (2 ^ 5) ∷  -- stats_present
    (2 ^ 6) ∷  -- dfs_proxy_support
    (2 ^ 8) ∷  -- high_efficiency_support
    (2 ^ 9) ∷  -- is_sidekick_hub
    (2 ^ 10) ∷  -- fast_discovery_active
    (2 ^ 11) ∷  -- wifi_six_e_support
    (2 ^ 12) ∷  -- ultra_low_latency_infra_support
    (2 ^ 13) ∷  -- pro_mode_active
    (2 ^ 14 + 2 ^ 15) ∷  -- unknown
    []

abbrev pub channel_names : List ℕ
channel_names =
    (2 ^ 0) ∷  -- channel_6
    (2 ^ 1) ∷  -- channel_44
    (2 ^ 2) ∷  -- channel_149
    []

abbrev pub option_names : List ℕ
option_names =
    (2 ^ 1) ∷  -- start_airplay
    (2 ^ 3) ∷  -- cache_request
    (2 ^ 5) ∷  -- jumpstart_dfs_proxy
    (2 ^ 6) ∷  -- airplay_on_dfs_channel
    (2 ^ 9) ∷  -- start_sidecar
    (2 ^ 10) ∷  -- sidecar_bg_request
    (2 ^ 11) ∷  -- sidecar_fg_request
    (2 ^ 12) ∷  -- stop_sidecar
    (2 ^ 13) ∷  -- start_multi_peer_steering
    (2 ^ 14) ∷  -- start_real_time_mode
    (2 ^ 15) ∷  -- stop_real_time_mode
    (2 ^ 16) ∷  -- start_airplay_recovery
    (2 ^ 17) ∷  -- start_ht_mode
    (2 ^ 18) ∷  -- stop_ht_mode
    (2 ^ 19) ∷  -- stop_airplay
    (2 ^ 20) ∷  -- failed_multi_peer_steering
    (2 ^ 21 + 2 ^ 22 + 2 ^ 23) ∷  -- unknown
    (2 ^ 24) ∷  -- start_rtg_ensemble
    (2 ^ 25) ∷  -- stop_rtg_ensemble
    (2 ^ 26) ∷  -- start_airplay_in_rtg_mode
    (2 ^ 27) ∷  -- stop_airplay_in_rtg_mode
    (2 ^ 28) ∷  -- start_sidecar_in_rtg_mode
    (2 ^ 29) ∷  -- stop_sidecar_in_rtg_mode
    (2 ^ 30) ∷  -- start_remote_camera
    (2 ^ 31) ∷  -- stop_remote_camera
    []

-- Names make up a mask: it is their sum, and no two of them have a bit in common. Behind the last one `get_or` gives 0, which has none.
pub record MakeUp (names : List ℕ) (mask : ℕ) : Type 0 where
  pub sum : total names ≡ mask
  pub apart : (i j : ℕ) → i < j → bit_and (get_or names i 0) (get_or names j 0) ≡ 0
