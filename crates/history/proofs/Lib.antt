-- Demand 3, proved by one invariant that every call's promise and every cut keeps.
pub mod Invariant
pub mod Starts
pub mod Finished
pub mod Steps
pub mod Tellings
pub mod Readings
pub mod Scannings
pub mod Switchings
pub mod Recoveries
pub mod Theorem
pub mod Conversions
pub mod Counting
pub mod Device
pub mod Books
pub mod Corollaries
pub mod Expecting
