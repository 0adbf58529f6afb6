-- The numbers of an entry, of a sequence and of a channel sequence.
use Rattle.std.specs.Prelude.{ℕ, List, [], ◌∷◌, get_or, take, drop}
use Rattle.wire.specs.Reading.{Reader, onward}
use Rattle.wire.specs.Answer.{Answer, asked, ◌>>=◌}
use Rattle.channel.specs.declared.channel.Channel.{Channel}
use Rattle.channel_sequence.specs.declared.channel_sequence.ChannelSequence.{ChannelSequence}
use Rattle.channel_sequence_tlv.specs.declared.channel_sequence_tlv.ChannelSequenceTLV.{ChannelSequenceTLV}
use Rattle.channel.specs.Channels.{corrected}
use Rattle.channel_sequence.specs.Sequences as Q
use Rattle.channel_sequence.specs.SequenceReader.{sequence}
use Rattle.channel_sequence.specs.Hops.{Hop, hop_at}
use Rattle.channel_sequence.specs.Conversion.{to_simple}
use Rattle.channel_sequence_tlv.specs.SequenceTLVs as C
use Rattle.exports.specs.Held.{u8, u16, octets, fits, held, held_byte, flagged}

abbrev pub channel_numbers : Channel → List ℕ
channel_numbers c = c.encoding ∷ c.first ∷ c.second ∷ []

abbrev pub channel_of : List ℕ → Channel
channel_of ns = record { encoding = get_or ns 0 0; first = get_or ns 1 0; second = get_or ns 2 0 }

abbrev pub channel_in : List ℕ → Answer Channel
channel_in ns = held (fits ns (octets 3)) (channel_of ns)

abbrev pub corrected_of : List ℕ → Answer ℕ
corrected_of ns = channel_in ns >>= corrected

abbrev pub sequence_numbers : ChannelSequence → List ℕ
sequence_numbers q = q.encoding ∷ q.bytes

abbrev pub sequence_of : List ℕ → ChannelSequence
sequence_of ns = record { encoding = get_or ns 0 0; bytes = take 32 (drop 1 ns) }

abbrev pub sequence_in : List ℕ → Answer ChannelSequence
sequence_in ns = held (fits ns (octets 33)) (sequence_of ns)

abbrev pub sequence_consistent : List ℕ → Answer ℕ
sequence_consistent ns = flagged (sequence_in ns >>= Q.consistent)

abbrev pub sequence_size : List ℕ → Answer ℕ
sequence_size ns = sequence_in ns >>= Q.size_of

abbrev pub sequence_bytes : List ℕ → Answer (List ℕ)
sequence_bytes ns = sequence_in ns >>= Q.bytes_of

abbrev pub sequence_entry : List ℕ → ℕ → Answer Hop
sequence_entry ns n = sequence_in ns >>= λ q. hop_at q n

abbrev pub sequence_simple : List ℕ → Answer ChannelSequence
sequence_simple ns = sequence_in ns >>= to_simple

-- entries alone, in an encoding that is told as a number
abbrev pub sequence_read_in : ℕ → Reader ChannelSequence
sequence_read_in encoding s at = onward (asked (held_byte encoding) s at) (λ n next. sequence n s next)

abbrev pub channel_sequence_numbers : ChannelSequenceTLV → List ℕ
channel_sequence_numbers c =
    c.duplicate_count ∷ c.step_count ∷ c.fill_channel ∷ sequence_numbers c.channel_sequence

abbrev pub channel_sequence_largest : List ℕ
channel_sequence_largest = u8 ∷ u8 ∷ u16 ∷ octets 33

abbrev pub channel_sequence_of : List ℕ → ChannelSequenceTLV
channel_sequence_of ns =
    record {
      duplicate_count = get_or ns 0 0;
      step_count = get_or ns 1 0;
      fill_channel = get_or ns 2 0;
      channel_sequence = sequence_of (drop 3 ns);
    }

abbrev pub channel_sequence_in : List ℕ → Answer ChannelSequenceTLV
channel_sequence_in ns = held (fits ns channel_sequence_largest) (channel_sequence_of ns)

abbrev pub channel_sequence_consistent : List ℕ → Answer ℕ
channel_sequence_consistent ns = flagged (channel_sequence_in ns >>= C.consistent)

abbrev pub channel_sequence_size : List ℕ → Answer ℕ
channel_sequence_size ns = channel_sequence_in ns >>= C.size_of

abbrev pub channel_sequence_bytes : List ℕ → Answer (List ℕ)
channel_sequence_bytes ns = channel_sequence_in ns >>= C.bytes_of
