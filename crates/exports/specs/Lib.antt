-- Held: when the fields of a record hold the numbers that are lent for them; Frames, DataPaths, Sequences and Synchronizations: the numbers of each
-- record, the record of such numbers, and what is asked of it; Laid and DataPathReading: for the steps inside alone, what a reader lays down that
-- reads straight into the numbers; Judging: a channel as a number; Told: what is laid down of an answer.
pub mod Held
pub mod Laid
pub mod Frames
pub mod DataPaths
pub mod DataPathReading
pub mod Sequences
pub mod Synchronizations
pub mod Judging
pub mod Told
