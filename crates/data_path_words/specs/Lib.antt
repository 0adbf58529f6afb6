-- Words: tested and kept bits, and the channel word; Names: which bits have a name.
pub mod Words
pub mod Names
