-- The fields of a value, by their widths in order: where one that is cut is short goes by these.
use Rattle.std.specs.Prelude.{ℕ, List, [], ◌∷◌, ◌++◌}
use Rattle.channel_sequence.specs.FieldWidths.{sequence_widths}
use Rattle.channel_sequence_tlv.specs.declared.channel_sequence_tlv.ChannelSequenceTLV.{ChannelSequenceTLV}

-- count, encoding, duplicate count, step count and fill channel
abbrev pub head_widths : List ℕ
head_widths = 1 ∷ 1 ∷ 1 ∷ 1 ∷ 2 ∷ []

abbrev pub field_widths : ChannelSequenceTLV → List ℕ
field_widths c = head_widths ++ sequence_widths c.channel_sequence
