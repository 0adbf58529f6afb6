-- Values that are wrong in two ways: which refusal wins is seen by computing.
-- Assumes nothing.
use mathlib.Core.Path.{◌≡◌, refl}
use mathlib.Core.List.{[], ◌∷◌}
use Rattle.wire.specs.declared.refusal.Refusal.TheVariants.{Short, Encoding, ChannelCount}
use Rattle.wire.specs.Reading.{refused}
use Rattle.channel.specs.Channels.{encoding_of}
use Rattle.channel_sequence_tlv.specs.SequenceTLVReader.{channel_sequence_record}

-- five bytes with a wrong count: the fill channel is short
pub short-and-count : channel_sequence_record (14 ∷ 2 ∷ 0 ∷ 0 ∷ 0 ∷ []) 0 ≡ refused (Short 4)
unfolding channel_sequence_record encoding_of
short-and-count = refl

-- a wrong count and an encoding that is not listed
pub count-and-encoding : channel_sequence_record (14 ∷ 2 ∷ 0 ∷ 0 ∷ 0 ∷ 0 ∷ []) 0 ≡ refused ChannelCount
unfolding channel_sequence_record encoding_of
count-and-encoding = refl

-- an encoding that is not listed, and no entries
pub encoding-and-short : channel_sequence_record (15 ∷ 2 ∷ 0 ∷ 0 ∷ 0 ∷ 0 ∷ []) 0 ≡ refused Encoding
unfolding channel_sequence_record encoding_of
encoding-and-short = refl
