-- How a sequence is read.
use Rattle.std.specs.Prelude.{ℕ, ◌*◌, List, [], ◌∷◌}
use Rattle.wire.specs.Reading.{Reader, field, give, ◌>>=◌}
use Rattle.wire.specs.Answer.{asked}
use Rattle.channel.specs.declared.channel.ChannelEncoding.{ChannelEncoding}
use Rattle.channel.specs.declared.channel.ChannelEncoding.TheVariants.{Simple, Legacy, OpClass}
use Rattle.channel_sequence.specs.declared.channel_sequence.ChannelSequence.{ChannelSequence}
use Rattle.channel.specs.Channels.{encoding_of, entry_size, kept_flags}
use Rattle.channel_sequence.specs.Sequences.{padded}

-- a run of flags, channel, flags, channel and so on, without the dropped bits of the flags
abbrev pub kept_entries : List ℕ → List ℕ
kept_entries [] = []
kept_entries (flags ∷ []) = kept_flags flags ∷ []
kept_entries (flags ∷ channel ∷ rest) = kept_flags flags ∷ channel ∷ kept_entries rest

abbrev pub kept_bytes : ChannelEncoding → List ℕ → List ℕ
kept_bytes Simple bytes = bytes
kept_bytes Legacy bytes = kept_entries bytes
kept_bytes OpClass bytes = bytes

-- the encoding is settled before a byte is looked at
abbrev pub sequence : ℕ → Reader ChannelSequence
sequence n = do
  encoding ← asked (encoding_of n)
  bytes ← field (16 * entry_size encoding)
  give (record { encoding = n; bytes = padded (kept_bytes encoding bytes) })
