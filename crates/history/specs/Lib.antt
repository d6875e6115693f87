-- The promise about cuts: the book of a list of calls and cuts, the runs by the rules of use, and demand 3.
pub mod Book
pub mod Editions
pub mod Runs
pub mod Demand3
pub mod Conversions
pub mod Device
pub mod Finishing
