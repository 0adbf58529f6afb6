-- Lines: the lines that are shown of an input; Marks: the places between the lines, from which a
-- caller goes on; Shown: what a lent buffer holds afterwards.
pub mod Lines
pub mod Marks
pub mod Shown
