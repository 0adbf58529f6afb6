-- The number of each refusal, and the offset or the channel beside it. None has the number 9, since every two stamps have a gap; the numbers
-- that are left out behind it belong to requests that are not taken up.
use Rattle.std.specs.Prelude.{ℕ}
use Rattle.wire.specs.declared.refusal.Refusal.{Refusal}
use Rattle.wire.specs.declared.refusal.Refusal.TheVariants.{Short, NotAction, NotVersion, UnicastLength, Encoding, NoRoom, Inconsistent, TooLong, ChannelCount, LegacySequence, CorrectedChannel, TooMany, NonePermitted, NotPermitted, SmallerLoad}

abbrev pub number_of : Refusal → ℕ
number_of (Short at) = 1
number_of NotAction = 2
number_of NotVersion = 3
number_of UnicastLength = 4
number_of Encoding = 5
number_of NoRoom = 6
number_of Inconsistent = 7
number_of TooLong = 8
number_of ChannelCount = 10
number_of LegacySequence = 18
number_of CorrectedChannel = 19
number_of TooMany = 27
number_of NonePermitted = 28
number_of NotPermitted = 29
number_of (SmallerLoad own) = 30

-- where it was short; all others have 0
abbrev pub offset_of : Refusal → ℕ
offset_of (Short at) = at
offset_of _ = 0

-- our own proposal beside the refusal of another; all others have 0
abbrev pub carried_channel : Refusal → ℕ
carried_channel (SmallerLoad own) = own
carried_channel _ = 0
