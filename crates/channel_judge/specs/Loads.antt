-- How loaded a channel is: the sequences that are lent, the channels that their entries stand for, and how often a channel is among these.
use Rattle.std.specs.Prelude.{ℕ, zero, suc, ◌+◌, ◌*◌, ◌/◌, ◌%◌, Bool, true, false, cond, ◌&&◌, List, [], ◌∷◌, eqb, length, get_or, take, drop}
use Rattle.wire.specs.declared.refusal.Refusal.TheVariants.{Short}
use Rattle.wire.specs.Answer.{Answer, answer, refusal, require, ◌>>◌}
use Rattle.channel.specs.declared.channel.ChannelEncoding.{ChannelEncoding}
use Rattle.channel.specs.Channels.{encoding_of, corrected_in}
use Rattle.channel_sequence.specs.declared.channel_sequence.ChannelSequence.{ChannelSequence}
use Rattle.channel_sequence.specs.Hops.{entry_bytes}

-- sequences as they are lent: 33 bytes each, the encoding and the 32 bytes
abbrev pub sequences_from : ℕ → List ℕ → List ChannelSequence
sequences_from zero s = []
sequences_from (suc many) s = record { encoding = get_or s 0 0; bytes = take 32 (drop 1 s) } ∷ sequences_from many (drop 33 s)

-- each is one field; where the last one is cut, that one is short
abbrev pub lent_sequences : List ℕ → Answer (List ChannelSequence)
lent_sequences s = require (eqb (length s % 33) 0) (Short (33 * (length s / 33))) >> answer (sequences_from (length s / 33) s)

-- the channel that the bytes of an entry stand for, corrected, and those of some entries from number n on
abbrev pub corrected_entry : ChannelEncoding → List ℕ → ℕ
corrected_entry encoding entry = corrected_in encoding (get_or entry 0 0) (get_or entry 1 0)

abbrev pub channels_from : ChannelEncoding → List ℕ → ℕ → ℕ → List ℕ
channels_from encoding bytes n zero = []
channels_from encoding bytes n (suc many) = corrected_entry encoding (entry_bytes encoding n bytes) ∷ channels_from encoding bytes (suc n) many

-- the channels of all sixteen entries; a sequence whose encoding is not listed has none
abbrev pub channels_in : Answer ChannelEncoding → List ℕ → List ℕ
channels_in (answer encoding) bytes = channels_from encoding bytes 0 16
channels_in (refusal why) bytes = []

abbrev pub channels_of : ChannelSequence → List ℕ
channels_of q = channels_in (encoding_of q.encoding) q.bytes

-- how often a channel is among some
abbrev pub count : ℕ → List ℕ → ℕ
count channel [] = 0
count channel (c ∷ rest) = cond (eqb c channel) 1 0 + count channel rest

abbrev pub load : List ChannelSequence → ℕ → ℕ
load [] channel = 0
load (q ∷ rest) channel = count channel (channels_of q) + load rest channel

-- whether every encoding is listed
abbrev pub is_listed : Answer ChannelEncoding → Bool
is_listed (answer encoding) = true
is_listed (refusal why) = false

abbrev pub all_listed : List ChannelSequence → Bool
all_listed [] = true
all_listed (q ∷ rest) = is_listed (encoding_of q.encoding) && all_listed rest
