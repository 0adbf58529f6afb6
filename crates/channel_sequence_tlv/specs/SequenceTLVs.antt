-- The record of an item of type 0x12: when it is consistent, its size and its bytes. The count is no part of it, since it is always 15.
use Rattle.std.specs.Prelude.{ℕ, ◌+◌, Bool, List, [], ◌∷◌, ◌++◌}
use Rattle.wire.specs.Answer.{Answer, answer, ◌>>=◌}
use Rattle.wire.specs.Numbers.{little_bytes}
use Rattle.channel_sequence_tlv.specs.declared.channel_sequence_tlv.ChannelSequenceTLV.{ChannelSequenceTLV}
use Rattle.channel_sequence.specs.Sequences as Q

abbrev pub zero_channel_sequence : ChannelSequenceTLV
zero_channel_sequence =
    record { duplicate_count = 0; step_count = 0; fill_channel = 0; channel_sequence = Q.zero_sequence }

abbrev pub consistent : ChannelSequenceTLV → Answer Bool
consistent c = Q.consistent c.channel_sequence

abbrev pub size_of : ChannelSequenceTLV → Answer ℕ
size_of c = do
  n ← Q.size_of c.channel_sequence
  answer (6 + n)

-- the six bytes in front of the entries
abbrev pub head_bytes : ChannelSequenceTLV → List ℕ
head_bytes c =
    little_bytes 1 15
    ++ little_bytes 1 c.channel_sequence.encoding
    ++ little_bytes 1 c.duplicate_count
    ++ little_bytes 1 c.step_count
    ++ little_bytes 2 c.fill_channel

abbrev pub bytes_of : ChannelSequenceTLV → Answer (List ℕ)
bytes_of c = do
  entries ← Q.bytes_of c.channel_sequence
  answer (head_bytes c ++ entries)

-- the numbers of a record with their widths; in the code each fits, since its type has as many bytes
abbrev pub numbers : ChannelSequenceTLV → List (ℕ × ℕ)
numbers c = (1, c.channel_sequence.encoding) ∷ (1, c.duplicate_count) ∷ (1, c.step_count) ∷ (2, c.fill_channel) ∷ []
