pub mod Fits
pub mod Laid
pub mod Sequences
pub mod Synchronizations
pub mod Written
pub mod DataPathFits
pub mod Lays
pub mod DataPathLays
