-- What consistency says, fact by fact: its tests are joined in rows, and each is taken out of its row.
-- Assumes nothing.
use mathlib.Core.Path.{◌≡◌}
use mathlib.Core.Bool.{true, false, beq}
use mathlib.Core.List.{[], ◌∷◌}
use Rattle.wire.specs.Numbers.{bit}
use Rattle.wire.proofs.Tests.{beq_same, each}
use Rattle.data_path_fields.specs.Optional as F
use Rattle.data_path_state.proofs.Optionals as O
use Rattle.data_path_state.specs.declared.data_path_state_tlv.DataPathStateTLV.{DataPathStateTLV}
use Rattle.data_path_fields.specs.Fields.{no_country, no_channel, no_infra, no_address, no_options, no_word, no_extended_flags, no_trigger_id, no_stats}
use Rattle.data_path_state.specs.Consistent.{flags_match, extended_match, only_with, channel_right, words_kept, absent_zero, consistent}
use Rattle.data_path_state.specs.Consistent.{is_zero_country, is_zero_channel, is_zero_infra, is_zero_address, is_zero_options, is_zero_extended, is_zero, is_zero_stats}

pub record Right (r : DataPathStateTLV) : Type 0 where
  pub flags : flags_match r ≡ true
  pub extended : extended_match r ≡ true
  pub only : only_with r ≡ true
  pub channel : channel_right r.channel_map.value ≡ true
  pub words : words_kept r ≡ true
  pub absent : absent_zero r ≡ true

pub right : (r : DataPathStateTLV) → consistent r ≡ true → Right r
unfolding consistent
right r e =
    let f = each (flags_match r) (extended_match r ∷ only_with r ∷ channel_right r.channel_map.value ∷ words_kept r ∷ absent_zero r ∷ []) e in
    record { flags = f.0; extended = f.1.0; only = f.1.1.0; channel = f.1.1.1.0; words = f.1.1.1.1.0; absent = f.1.1.1.1.1.0 }

-- each presence bit is what it announces
pub record PresenceAnnounced (r : DataPathStateTLV) : Type 0 where
  pub infra : bit 0 r.flags.0 ≡ r.infra_bssid_channel.present
  pub address : bit 1 r.flags.0 ≡ r.infra_address.present
  pub awdl : bit 2 r.flags.0 ≡ r.awdl_address.present
  pub country : bit 8 r.flags.0 ≡ r.country_code.present
  pub channel : bit 9 r.flags.0 ≡ r.channel_map.present
  pub unicast : bit 12 r.flags.0 ≡ r.unicast_options.present
  pub extended : bit 15 r.flags.0 ≡ r.extended_flags.present
  pub trigger : bit 0 r.extended_flags.value.0 ≡ r.log_trigger_id.present
  pub rlfc : bit 2 r.extended_flags.value.0 ≡ r.rlfc.present
  pub stats : bit 5 r.extended_flags.value.0 ≡ r.stats.present

pub presence-announced : {r : DataPathStateTLV} → Right r → PresenceAnnounced r
presence-announced {r} w =
    let v = r.flags.0 in
    let x = r.extended_flags.value.0 in
    let f = each (beq (bit 0 v) r.infra_bssid_channel.present)
    (beq (bit 1 v) r.infra_address.present
    ∷ beq (bit 2 v) r.awdl_address.present
    ∷ beq (bit 8 v) r.country_code.present
    ∷ beq (bit 9 v) r.channel_map.present
    ∷ beq (bit 12 v) r.unicast_options.present
    ∷ beq (bit 15 v) r.extended_flags.present
    ∷ []) w.flags in
    let e = each (beq (bit 0 x) r.log_trigger_id.present)
    (beq (bit 2 x) r.rlfc.present ∷ beq (bit 5 x) r.stats.present ∷ []) w.extended in
    record {
      infra = beq_same _ _ f.0;
      address = beq_same _ _ f.1.0;
      awdl = beq_same _ _ f.1.1.0;
      country = beq_same _ _ f.1.1.1.0;
      channel = beq_same _ _ f.1.1.1.1.0;
      unicast = beq_same _ _ f.1.1.1.1.1.0;
      extended = beq_same _ _ f.1.1.1.1.1.1.0;
      trigger = beq_same _ _ e.0;
      rlfc = beq_same _ _ e.1.0;
      stats = beq_same _ _ e.1.1.0;
    }

-- a field that is not there is its absent value
pub record Gone (r : DataPathStateTLV) : Type 0 where
  pub country : r.country_code.present ≡ false → r.country_code ≡ no_country
  pub channel : r.channel_map.present ≡ false → r.channel_map ≡ no_channel
  pub infra : r.infra_bssid_channel.present ≡ false → r.infra_bssid_channel ≡ no_infra
  pub address : r.infra_address.present ≡ false → r.infra_address ≡ no_address
  pub awdl : r.awdl_address.present ≡ false → r.awdl_address ≡ no_address
  pub options : r.unicast_options.present ≡ false → r.unicast_options ≡ no_options
  pub ext : r.unicast_options_ext.present ≡ false → r.unicast_options_ext ≡ no_word
  pub extended : r.extended_flags.present ≡ false → r.extended_flags ≡ no_extended_flags
  pub rlfc : r.rlfc.present ≡ false → r.rlfc ≡ no_word
  pub trigger : r.log_trigger_id.present ≡ false → r.log_trigger_id ≡ no_trigger_id
  pub stats : r.stats.present ≡ false → r.stats ≡ no_stats

pub gone : {r : DataPathStateTLV} → Right r → Gone r
gone {r} w =
    let z = each (F.absent_zero is_zero_country r.country_code)
    (F.absent_zero is_zero_channel r.channel_map
    ∷ F.absent_zero is_zero_infra r.infra_bssid_channel
    ∷ F.absent_zero is_zero_address r.infra_address
    ∷ F.absent_zero is_zero_address r.awdl_address
    ∷ F.absent_zero is_zero_options r.unicast_options
    ∷ F.absent_zero is_zero r.unicast_options_ext
    ∷ F.absent_zero is_zero_extended r.extended_flags
    ∷ F.absent_zero is_zero r.rlfc
    ∷ F.absent_zero is_zero r.log_trigger_id
    ∷ F.absent_zero is_zero_stats r.stats
    ∷ []) w.absent in
    record {
      country = O.gone O.country-zero r.country_code z.0;
      channel = O.gone O.channel-zero r.channel_map z.1.0;
      infra = O.gone O.infra-zero r.infra_bssid_channel z.1.1.0;
      address = O.gone O.address-zero r.infra_address z.1.1.1.0;
      awdl = O.gone O.address-zero r.awdl_address z.1.1.1.1.0;
      options = O.gone O.options-zero r.unicast_options z.1.1.1.1.1.0;
      ext = O.gone O.number-zero r.unicast_options_ext z.1.1.1.1.1.1.0;
      extended = O.gone O.extended-zero r.extended_flags z.1.1.1.1.1.1.1.0;
      rlfc = O.gone O.number-zero r.rlfc z.1.1.1.1.1.1.1.1.0;
      trigger = O.gone O.number-zero r.log_trigger_id z.1.1.1.1.1.1.1.1.1.0;
      stats = O.gone O.stats-zero r.stats z.1.1.1.1.1.1.1.1.1.1.0;
    }
