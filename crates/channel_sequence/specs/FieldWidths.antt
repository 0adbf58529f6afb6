-- The sixteen entries as a field, by its width: where one that is cut is short goes by this.
use Rattle.std.specs.Prelude.{ℕ, ◌*◌, List, [], ◌∷◌}
use Rattle.wire.specs.Answer.{Answer, answer, refusal}
use Rattle.channel.specs.declared.channel.ChannelEncoding.{ChannelEncoding}
use Rattle.channel_sequence.specs.declared.channel_sequence.ChannelSequence.{ChannelSequence}
use Rattle.channel.specs.Channels.{encoding_of, entry_size}

-- the sixteen entries are one field; an encoding that is not listed has none
abbrev pub entries_in : Answer ChannelEncoding → List ℕ
entries_in (answer encoding) = 16 * entry_size encoding ∷ []
entries_in (refusal why) = []

abbrev pub sequence_widths : ChannelSequence → List ℕ
sequence_widths q = entries_in (encoding_of q.encoding)
