-- Refusals, their numbers and offsets; Reading, the words for formats; ShortFields, the field at which a reader is short; FromBytes, what
-- can be read; Answer, the words for calls that read nothing; Numbers and Addresses, the kinds of field; Words, made of runs of
-- bits; Parts, where a part of a slice lies; Writing, what a buffer holds afterwards; Said, what each enum of the code says; Outcomes, the
-- number, the offset and the values that it stands for.
pub mod Refusals
pub mod Reading
pub mod ShortFields
pub mod FromBytes
pub mod Answer
pub mod Numbers
pub mod Words
pub mod Addresses
pub mod Parts
pub mod Writing
pub mod Said
pub mod Outcomes
