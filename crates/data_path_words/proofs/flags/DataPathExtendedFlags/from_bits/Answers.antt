-- A mask lays the word out by its runs.
-- Assumes nothing.
use Rattle.std.proofs.Common.{sym, ◌∙◌}
use native.Mathlib.Nat.{add-zero}
use Rattle.wire.proofs.Words.{word-mask}
use Rattle.data_path_words.specs.Words.{extended_kept}
use Rattle.data_path_words.proofs.flags.DataPathExtendedFlags.from_bits.Goals as goal

pub returns : goal.returns
returns c = sym (word-mask extended_kept c.args.bits ∙ add-zero _)
