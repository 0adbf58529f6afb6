-- SynchronizationReader: how a value is read; SynchronizationBytes: consistent, size, and what is written; Widths: the bounds
-- of a record's fields; FieldWidths: the fields of a value; Outcomes: the number, offset and values that the answer of the reader stands for.
pub mod SynchronizationReader
pub mod SynchronizationBytes
pub mod Widths
pub mod FieldWidths
pub mod Outcomes
