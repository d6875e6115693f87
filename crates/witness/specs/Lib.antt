-- Runs exist: every call can be made, every list of commands has a run, and runs of either edition are computed.
pub mod Answers
pub mod Steps
pub mod Commands
pub mod Compared
pub mod Example
pub mod Applied
pub mod Second
pub mod Switched
pub mod Carried
pub mod Owners
