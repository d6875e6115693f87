-- Slot maps: the bit of each slot, how many slots a map names, and the next free slot, with their laws.
pub mod Bit
pub mod Count
pub mod Next
pub mod NextLaws
pub mod Vacant
pub mod Words
pub mod Zeros
