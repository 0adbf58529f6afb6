-- The number, the offset and the values that each answer stands for.
use Rattle.std.specs.Prelude.{ℕ, Bool, false, Result, Option}
use Rattle.wire.specs.declared.refusal.Refusal.{Refusal}
use Rattle.wire.specs.Outcomes.{Outcome, outcome_of, Reply, reply, reply_of}
use Rattle.channel.specs.declared.channel.Channel.{Channel}
use Rattle.channel_sequence.specs.declared.channel_sequence.ChannelSequence.{ChannelSequence}
use Rattle.channel_sequence.specs.Sequences.{zero_sequence}
use Rattle.channel_sequence.specs.Hops.{Hop, hop, zero_channel, said_entry}

abbrev pub reply_consistent : Result Bool Refusal → Reply Bool
reply_consistent r = reply_of false r

-- no such item has the number 0, as it is no refusal
abbrev pub reply_entry : Result (Option Channel) Refusal → Reply Hop
reply_entry r = reply (hop zero_channel) (said_entry r)

abbrev pub outcome_sequence : ℕ → Result (ChannelSequence × ℕ) Refusal → Outcome ChannelSequence
outcome_sequence at r = outcome_of zero_sequence at r

abbrev pub reply_made : Result ChannelSequence Refusal → Reply ChannelSequence
reply_made r = reply_of zero_sequence r
