-- A legacy sequence as a simple one of its sixteen corrected channels. Its flags are lost.
use Rattle.std.specs.Prelude.{ℕ, ◌+◌, ◌-◌, cond, List, [], ◌∷◌, eqb, leb}
use Rattle.wire.specs.declared.refusal.Refusal.TheVariants.{Encoding, Inconsistent, CorrectedChannel}
use Rattle.wire.specs.Answer.{Answer, answer, require, ◌>>=◌, ◌>>◌}
use Rattle.channel.specs.declared.channel.ChannelEncoding.TheVariants.{Legacy}
use Rattle.channel.specs.Channels.{support_channel}
use Rattle.channel_sequence.specs.declared.channel_sequence.ChannelSequence.{ChannelSequence}
use Rattle.channel_sequence.specs.Sequences.{is_legacy, consistent_bytes, padded}

-- the corrected channel without wrapping: it must not pass below 0 or above 255
abbrev pub corrected_inside : ℕ → ℕ → Answer ℕ
corrected_inside flags channel =
    cond (eqb (support_channel flags) 1) (require (leb 2 channel) CorrectedChannel >> answer (channel - 2))
    (cond (eqb (support_channel flags) 2) (require (leb (channel + 2) 255) CorrectedChannel >> answer (channel + 2)) (answer channel))

-- of a run of flags, channel, flags, channel and so on
abbrev pub corrected_all : List ℕ → Answer (List ℕ)
corrected_all [] = answer []
corrected_all (flags ∷ []) = answer []
corrected_all (flags ∷ channel ∷ rest) = do
  first ← corrected_inside flags channel
  others ← corrected_all rest
  answer (first ∷ others)

abbrev pub simple_of : List ℕ → Answer ChannelSequence
simple_of entries = do
  channels ← corrected_all entries
  answer (record { encoding = 0; bytes = padded channels })

abbrev pub to_simple : ChannelSequence → Answer ChannelSequence
to_simple q = do
  require (is_legacy q) Encoding
  require (consistent_bytes Legacy q.bytes) Inconsistent
  simple_of q.bytes
