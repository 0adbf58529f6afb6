-- The bounds that the types of a record's fields set; all that code holds keeps them.
use Rattle.wire.specs.Numbers.{AllInWidth}
use Rattle.channel_sequence.specs.Widths.{SequenceInWidth}
use Rattle.channel_sequence_tlv.specs.declared.channel_sequence_tlv.ChannelSequenceTLV.{ChannelSequenceTLV}
use Rattle.channel_sequence_tlv.specs.SequenceTLVs.{numbers}

pub record ChannelSequenceInWidth (c : ChannelSequenceTLV) : Type 0 where
  pub numbers : AllInWidth (numbers c)
  pub sequence : SequenceInWidth c.channel_sequence
