-- What the program that prints an area writes, and the laws that its code is proved by.
pub mod Listing
pub mod Report
pub mod Example
pub mod PutLaws
pub mod Ascent
pub mod Inserting
pub mod Ordered
pub mod Gather
pub mod LineLaws
pub mod Recovered
