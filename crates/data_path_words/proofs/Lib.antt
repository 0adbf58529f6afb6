pub mod OneBit
pub mod MadeUp
