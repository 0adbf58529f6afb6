-- Loads: the sequences that are lent and the load of a channel; Judging: when a proposal is accepted, and our own; Counters: what counters
-- hold; Outcomes: the number, offset and values that each answer stands for.
pub mod Loads
pub mod Judging
pub mod Counters
pub mod Outcomes
