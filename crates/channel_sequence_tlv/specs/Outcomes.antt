-- The number, the offset and the values that the answer of the reader stands for.
use Rattle.std.specs.Prelude.{ℕ, Result}
use Rattle.wire.specs.declared.refusal.Refusal.{Refusal}
use Rattle.wire.specs.Outcomes.{Outcome, outcome_of}
use Rattle.channel_sequence_tlv.specs.declared.channel_sequence_tlv.ChannelSequenceTLV.{ChannelSequenceTLV}
use Rattle.channel_sequence_tlv.specs.SequenceTLVs.{zero_channel_sequence}

abbrev pub outcome_channel_sequence : ℕ → Result (ChannelSequenceTLV × ℕ) Refusal → Outcome ChannelSequenceTLV
outcome_channel_sequence at r = outcome_of zero_channel_sequence at r
