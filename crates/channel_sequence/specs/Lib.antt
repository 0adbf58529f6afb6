-- Sequences: the sixteen entries; SequenceReader: how they are read (`sequence`); Hops: the entries one by one; Conversion: a legacy sequence as a
-- simple one; Widths: the bounds of the fields; FieldWidths: the field of a value; Outcomes: the number, offset and values that each answer stands for.
pub mod Sequences
pub mod SequenceReader
pub mod Hops
pub mod Conversion
pub mod Widths
pub mod FieldWidths
pub mod Outcomes
