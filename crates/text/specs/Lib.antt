-- Text: letters and digits, decimal and hex; Words: what a word of them says; Into: bytes that were said, put into a buffer.
pub mod Text
pub mod Words
pub mod Into
