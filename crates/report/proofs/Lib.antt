pub mod Room
pub mod Places
pub mod Report
pub mod Ends
pub mod Example
