-- A mask and the presence bits lay the word out by its runs.
-- Assumes nothing.
use Rattle.std.proofs.Common.{ℕ, cond, ap, arith}
use Rattle.wire.proofs.Words.{word-mask}
use Rattle.data_path_words.specs.declared.flags.DataPathExtendedFlags.{DataPathExtendedFlags}
use Rattle.data_path_fields.specs.declared.optional.Optional.{Optional}
use Rattle.data_path_state.specs.Mended.{extended_runs, has_extended}
use Rattle.data_path_state.proofs.Bits.{valued}
use Rattle.data_path_state.proofs.Optionals.{mended-word}
use Rattle.data_path_state.proofs.data_path_state_tlv.DataPathStateTLV.mend_extended.Goals as goal

pub returns : goal.returns
returns c =
    let r = c.args.self in
    let word = cond r.extended_flags.present r.extended_flags.value.0 0 in
    rw (c.has_extended.ensures, c.mend-word.ensures, mended-word r.extended_flags)
    (ap {B = Optional DataPathExtendedFlags} (λ (n : ℕ). record { present = has_extended r; value = record { 0 = n } })
    (omega (
      arith,
      word-mask (extended_runs r) word,
      valued r.log_trigger_id.present 1,
      valued r.rlfc.present 4,
      valued r.stats.present 32,
    )))
