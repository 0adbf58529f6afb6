-- The bounds that the types of a sequence's fields set; all that code holds keeps them.
use Rattle.std.specs.Prelude.{ℕ, ◌<◌, ◌≡◌, length, get_or}
use Rattle.channel_sequence.specs.declared.channel_sequence.ChannelSequence.{ChannelSequence}

pub record SequenceInWidth (q : ChannelSequence) : Type 0 where
  pub encoding : q.encoding < 256
  pub many : length q.bytes ≡ 32
  pub small : (i : ℕ) → get_or q.bytes i 0 < 256
