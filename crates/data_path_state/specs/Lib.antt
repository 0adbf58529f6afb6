-- DataPath: how a record is read; FieldWidths: the fields of a value; Ranges: the bounds of its fields; Consistent: when it can be written; Bytes: its size and its
-- bytes; Mended: what mending makes of it; Rewritten: what of a value comes back; Outcomes: the number, the offset and the
-- values that the reader's answer stands for.
pub mod DataPath
pub mod FieldWidths
pub mod Ranges
pub mod Consistent
pub mod Bytes
pub mod Mended
pub mod Rewritten
pub mod Outcomes
