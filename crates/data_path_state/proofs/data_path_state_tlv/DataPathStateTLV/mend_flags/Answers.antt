-- A mask and the presence bits lay the word out by its runs.
-- Assumes nothing.
use Rattle.std.proofs.Common.{ℕ, Bool, cond, ap, arith}
use Rattle.wire.proofs.Words.{word-mask}
use Rattle.data_path_words.specs.declared.flags.DataPathFlags.{DataPathFlags}
use Rattle.data_path_state.specs.Mended.{flags_runs, has_options, has_extended}
use Rattle.data_path_state.proofs.Bits.{valued}
use Rattle.data_path_state.proofs.data_path_state_tlv.DataPathStateTLV.mend_flags.Goals as goal

pub returns : goal.returns
returns c =
    let r = c.args.self in
    ap {B = DataPathFlags} (λ (n : ℕ). record { 0 = n })
    (omega (
      arith,
      ap {B = ℕ} (λ (b : Bool). cond b 4096 0) c.has_options.ensures,
      ap {B = ℕ} (λ (b : Bool). cond b 32768 0) c.has_extended.ensures,
      word-mask (flags_runs r) r.flags.0,
      valued r.infra_bssid_channel.present 1,
      valued r.infra_address.present 2,
      valued r.awdl_address.present 4,
      valued r.country_code.present 256,
      valued r.channel_map.present 512,
      valued (has_options r) 4096,
      valued (has_extended r) 32768,
    ))
