-- Demand1, Demand2, Demand3: what the library's user demands, in the words below. Rows: the starred rows of the table of bytes at the
-- edges, and rows for the reserved bytes, for legacy sequences and for the judge. Later: how a later sender's frame comes from a frame. Calls: what is proved of a call.
-- Answers: what is promised of an answer that can be a refusal. Formats: what is written, and what is read back of it. Legacy: legacy
-- sequences, which are not written, and what they are converted to. WhichChannel: the channel to move to. EndToEnd: records laid end to end.
-- OtherLanguages: the numbers that the calls for other languages are lent and lay down.
pub mod Demand1
pub mod Demand2
pub mod Demand3
pub mod Rows
pub mod Formats
pub mod Legacy
pub mod WhichChannel
pub mod EndToEnd
pub mod OtherLanguages
pub mod Later
pub mod Calls
pub mod Answers
