pub mod Steps
pub mod Plain
pub mod Walks
pub mod Sizes
pub mod Once
pub mod RoundTrip
