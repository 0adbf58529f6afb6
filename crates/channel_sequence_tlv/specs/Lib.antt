-- SequenceTLVs: the record of type 0x12, which has a sequence behind six bytes; SequenceTLVReader: how it is read (`channel_sequence_record`); Widths: the
-- bounds of its fields; FieldWidths: the fields of a value; Outcomes: the number, offset and values that the answer of the reader stands for.
pub mod SequenceTLVs
pub mod SequenceTLVReader
pub mod Widths
pub mod FieldWidths
pub mod Outcomes
