-- The words of the record: how their bits are tested, which bits they keep, what the channel word stands for, and how each is read and put.
use Rattle.std.specs.Prelude.{ℕ, ◌%◌, ◌^◌, Bool, not, cond, List, [], ◌∷◌, ◌++◌, eqb}
use Rattle.std.specs.Int.Bits.{bit_and}
use Rattle.wire.specs.Reading.{Reader, give, ◌>>=◌}
use Rattle.wire.specs.Numbers.{number, little_bytes, bit}
use Rattle.wire.specs.Words.{Run, keep, clear, word_by}
use Rattle.data_path_words.specs.declared.flags.DataPathExtendedFlags.{DataPathExtendedFlags}
use Rattle.data_path_words.specs.declared.misc.DataPathChannel.{DataPathChannel}
use Rattle.data_path_words.specs.declared.misc.UnicastOptions.{UnicastOptions}
use Rattle.data_path_words.specs.declared.misc.DataPathStats.{DataPathStats}

-- whether a word has one of the bits that a mask has
abbrev pub has_any : ℕ → ℕ → Bool
has_any w mask = not (eqb (bit_and w mask) 0)

-- the keep mask 0xFF7F: bit 7 is dropped
abbrev pub extended_kept : List Run
extended_kept = keep 7 ∷ clear 1 ∷ keep 8 ∷ []

-- the keep mask 0xFFFFFE6A: bits 0, 2, 4, 7 and 8 are dropped
abbrev pub options_kept : List Run
options_kept = clear 1 ∷ keep 1 ∷ clear 1 ∷ keep 1 ∷ clear 1 ∷ keep 2 ∷ clear 2 ∷ keep 23 ∷ []

-- an odd word is a map, its low three bits; an even one is a single channel, its low byte
abbrev pub channel_of : ℕ → DataPathChannel
channel_of w = cond (bit 0 w) (DataPathChannel.ChannelMap (record { 0 = w % 2 ^ 3 })) (DataPathChannel.SingleChannel (w % 2 ^ 8))

abbrev pub word_of : DataPathChannel → ℕ
word_of (DataPathChannel.SingleChannel channel) = channel
word_of (DataPathChannel.ChannelMap map) = map.0

abbrev pub zero_channel : DataPathChannel
zero_channel = DataPathChannel.SingleChannel 0

abbrev pub channel_word : Reader DataPathChannel
channel_word = do
  word ← number 2
  give (channel_of word)

abbrev pub channel_bytes : DataPathChannel → List ℕ
channel_bytes channel = little_bytes 2 (word_of channel)

abbrev pub zero_extended_flags : DataPathExtendedFlags
zero_extended_flags = record { 0 = 0 }

-- the extended word and the options lose their dropped bits when they are read
abbrev pub extended_word : Reader DataPathExtendedFlags
extended_word = do
  word ← number 2
  give (record { 0 = word_by extended_kept word })

abbrev pub extended_bytes : DataPathExtendedFlags → List ℕ
extended_bytes flags = little_bytes 2 flags.0

abbrev pub zero_options : UnicastOptions
zero_options = record { 0 = 0 }

abbrev pub options_word : Reader UnicastOptions
options_word = do
  word ← number 4
  give (record { 0 = word_by options_kept word })

abbrev pub options_bytes : UnicastOptions → List ℕ
options_bytes options = little_bytes 4 options.0

abbrev pub zero_stats : DataPathStats
zero_stats = record { msec_since_activation = 0; aw_seq_counter = 0; pay_update_coutner = 0 }

abbrev pub stats : Reader DataPathStats
stats = do
  msec ← number 4
  aw ← number 4
  pay ← number 4
  give (record { msec_since_activation = msec; aw_seq_counter = aw; pay_update_coutner = pay })

abbrev pub stats_bytes : DataPathStats → List ℕ
stats_bytes s =
    little_bytes 4 s.msec_since_activation ++ little_bytes 4 s.aw_seq_counter ++ little_bytes 4 s.pay_update_coutner
