pub mod SequenceTLVs
pub mod Laid
pub mod ReadSequenceTLVs
pub mod Edges
