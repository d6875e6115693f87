-- What the parts of a bundle are.
pub mod Bundle
pub mod Cells
