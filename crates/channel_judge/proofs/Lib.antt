pub mod Counters
pub mod Loaded
pub mod Least
