pub mod Whole
pub mod Laid
pub mod Sizes
pub mod RoundTrip
pub mod Again
pub mod FromBytes
