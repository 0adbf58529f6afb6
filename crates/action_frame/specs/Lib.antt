-- Frames: how a frame's header is read and written, and its tail; FieldWidths: the fields of a header; Offsets: the offset in the frame of what has one in an item's value;
-- Rewritten: what of a header comes back; Stamps: the gap between the two stamps; Outcomes: the number, offset and values that the reader's
-- answer stands for.
pub mod Frames
pub mod FieldWidths
pub mod Offsets
pub mod Rewritten
pub mod Stamps
pub mod Outcomes
