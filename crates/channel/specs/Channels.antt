-- Channel encodings, legacy flags and the corrected channel.
use Rattle.std.specs.Prelude.{ℕ, ◌+◌, ◌-◌, ◌%◌, cond, ◌==◌}
use Rattle.wire.specs.declared.refusal.Refusal.TheVariants.{Encoding}
use Rattle.wire.specs.Answer.{Answer, answer, refusal, ◌>>=◌}
use Rattle.wire.specs.Numbers.{bits}
use Rattle.channel.specs.declared.channel.Channel.{Channel}
use Rattle.channel.specs.declared.channel.ChannelEncoding.{ChannelEncoding}
use Rattle.channel.specs.declared.channel.ChannelEncoding.TheVariants.{Simple, Legacy, OpClass}

-- a number that is not listed here is refused wherever an encoding is taken
unfoldable pub encoding_of : ℕ → Answer ChannelEncoding
encoding_of n =
    cond (n == 0) (answer Simple)
    (cond (n == 1) (answer Legacy)
    (cond (n == 3) (answer OpClass) (refusal Encoding)))

-- how many bytes one entry takes
abbrev pub entry_size : ChannelEncoding → ℕ
entry_size Simple = 1
entry_size Legacy = 2
entry_size OpClass = 2

abbrev pub size_of_encoding : ℕ → Answer ℕ
size_of_encoding n = do
  encoding ← encoding_of n
  answer (entry_size encoding)

-- the named bits of legacy flags
abbrev pub support_channel : ℕ → ℕ
support_channel flags = bits 0 2 flags

abbrev pub channel_bandwidth : ℕ → ℕ
channel_bandwidth flags = bits 2 2 flags

abbrev pub band : ℕ → ℕ
band flags = bits 4 2 flags

-- the keep mask is 0x3F: the two highest bits of the byte are dropped
abbrev pub kept_flags : ℕ → ℕ
kept_flags flags = flags % 64

-- a channel beside its primary one is moved there, and the count wraps in its byte
abbrev pub corrected_legacy : ℕ → ℕ → ℕ
corrected_legacy flags channel =
    cond (support_channel flags == 1) ((channel + 256 - 2) % 256)
    (cond (support_channel flags == 2) ((channel + 2) % 256) channel)

-- the channel that the two bytes of an entry stand for
abbrev pub corrected_in : ChannelEncoding → ℕ → ℕ → ℕ
corrected_in Simple channel unused = channel
corrected_in Legacy flags channel = corrected_legacy flags channel
corrected_in OpClass channel opclass = channel

abbrev pub corrected : Channel → Answer ℕ
corrected c = do
  encoding ← encoding_of c.encoding
  answer (corrected_in encoding c.first c.second)
