pub mod Number
pub mod Fnv
pub mod Laws
pub mod Mask
