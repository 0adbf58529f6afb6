-- Channels: encodings, flags and the corrected channel; Outcomes: the number, offset and values that each answer stands for.
pub mod Channels
pub mod Outcomes
