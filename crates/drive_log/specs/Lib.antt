-- What the code of this crate is proved against, beside the model's definitions.
pub mod Shape
pub mod Heads
pub mod Editions
pub mod Extents
pub mod Tables
pub mod Lengths
pub mod Marks
pub mod Suspects
pub mod Counts
pub mod Filter
pub mod Surveys
