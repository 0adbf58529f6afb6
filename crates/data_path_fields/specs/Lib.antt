-- Optional: a field that may be missing; Fields: how the fields are read; Outcomes: the number, the offset and the values that an
-- answer stands for.
pub mod Optional
pub mod Fields
pub mod Outcomes
