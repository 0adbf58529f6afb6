pub mod Sizes
pub mod Gaps
pub mod Offsets
pub mod Laid
pub mod RoundTrip
pub mod Again
