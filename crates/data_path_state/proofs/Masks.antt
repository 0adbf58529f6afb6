-- A word that keeps some of its bits is the word AND their mask: a word laid out by runs is a mask and a sum, and these runs add nothing.
-- Assumes nothing.
use Prim.Native.Nat.{ℕ}
use native.Mathlib.Nat.{add-zero}
use mathlib.Core.Path.{◌≡◌, ◌∙◌}
use lib.Bits.{bit_and}
use Rattle.wire.specs.Words.{word_by}
use Rattle.wire.proofs.Words.{word-mask}
use Rattle.data_path_words.specs.Words.{extended_kept, options_kept}

pub kept-extended-mask : (w : ℕ) → word_by extended_kept w ≡ bit_and w 0xFF7F
kept-extended-mask w = word-mask extended_kept w ∙ add-zero (bit_and w 0xFF7F)

pub kept-options-mask : (w : ℕ) → word_by options_kept w ≡ bit_and w 0xFFFFFE6A
kept-options-mask w = word-mask options_kept w ∙ add-zero (bit_and w 0xFFFFFE6A)
