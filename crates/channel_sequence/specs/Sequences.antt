-- The sequence of sixteen entries: when it is consistent, its size, what is written of it, and one channel sixteen times.
use Rattle.std.specs.Prelude.{ℕ, zero, suc, ◌-◌, ◌*◌, Bool, true, not, ◌&&◌, List, [], ◌∷◌, ◌++◌, eqb, leb, length, take, drop, replicate}
use Rattle.wire.specs.declared.refusal.Refusal.TheVariants.{Inconsistent, LegacySequence}
use Rattle.wire.specs.Answer.{Answer, answer, require, ◌>>=◌, ◌>>◌}
use Rattle.channel.specs.declared.channel.Channel.{Channel}
use Rattle.channel.specs.declared.channel.ChannelEncoding.{ChannelEncoding}
use Rattle.channel.specs.declared.channel.ChannelEncoding.TheVariants.{Simple, Legacy, OpClass}
use Rattle.channel_sequence.specs.declared.channel_sequence.ChannelSequence.{ChannelSequence}
use Rattle.channel.specs.Channels.{encoding_of, entry_size}

abbrev pub zero_sequence : ChannelSequence
zero_sequence = record { encoding = 0; bytes = replicate 32 0 }

abbrev pub all_zero : List ℕ → Bool
all_zero [] = true
all_zero (b ∷ rest) = eqb b 0 && all_zero rest

abbrev pub flags_fit : ℕ → Bool
flags_fit flags = leb flags 0x3F

-- in a run of flags, channel, flags, channel and so on
abbrev pub all_flags_fit : List ℕ → Bool
all_flags_fit [] = true
all_flags_fit (flags ∷ []) = flags_fit flags
all_flags_fit (flags ∷ channel ∷ rest) = flags_fit flags && all_flags_fit rest

-- a simple sequence does not use its last sixteen bytes
abbrev pub consistent_bytes : ChannelEncoding → List ℕ → Bool
consistent_bytes Simple bytes = all_zero (drop 16 bytes)
consistent_bytes Legacy bytes = all_flags_fit bytes
consistent_bytes OpClass bytes = true

abbrev pub consistent : ChannelSequence → Answer Bool
consistent q = do
  encoding ← encoding_of q.encoding
  answer (consistent_bytes encoding q.bytes)

abbrev pub size_of : ChannelSequence → Answer ℕ
size_of q = do
  encoding ← encoding_of q.encoding
  require (consistent_bytes encoding q.bytes) Inconsistent
  answer (16 * entry_size encoding)

-- encoding 1, which is read and no longer written
abbrev pub is_legacy : ChannelSequence → Bool
is_legacy q = eqb q.encoding 1

-- what is written, behind 5, 18 and 7: those of the 32 bytes that the encoding uses
abbrev pub bytes_of : ChannelSequence → Answer (List ℕ)
bytes_of q = do
  encoding ← encoding_of q.encoding
  require (not (is_legacy q)) LegacySequence
  require (consistent_bytes encoding q.bytes) Inconsistent
  answer (take (16 * entry_size encoding) q.bytes)

-- the 32 bytes of a sequence from those that its encoding uses
abbrev pub padded : List ℕ → List ℕ
padded bytes = bytes ++ replicate (32 - length bytes) 0

unfoldable pub times : ℕ → List ℕ → List ℕ
times zero entry = []
times (suc n) entry = entry ++ times n entry

-- an entry's bytes, and whether they can stand in a consistent sequence
abbrev pub entry_of : ChannelEncoding → ℕ → ℕ → List ℕ
entry_of Simple channel unused = channel ∷ []
entry_of Legacy flags channel = flags ∷ channel ∷ []
entry_of OpClass channel opclass = channel ∷ opclass ∷ []

abbrev pub consistent_entry : ChannelEncoding → ℕ → ℕ → Bool
consistent_entry Simple channel unused = eqb unused 0
consistent_entry Legacy flags channel = flags_fit flags
consistent_entry OpClass channel opclass = true

abbrev pub fixed : Channel → Answer ChannelSequence
fixed c = do
  encoding ← encoding_of c.encoding
  require (consistent_entry encoding c.first c.second) Inconsistent
  answer (record { encoding = c.encoding; bytes = padded (times 16 (entry_of encoding c.first c.second)) })
