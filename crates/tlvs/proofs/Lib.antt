pub mod Searches
pub mod Once
