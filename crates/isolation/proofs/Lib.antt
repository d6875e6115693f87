-- What is the same in two stores that differ in hidden values.
pub mod HiddenBytes
pub mod Alike
pub mod Twin
pub mod Operations
pub mod Pair
pub mod PairStarts
pub mod PairSteps
pub mod PairSwitches
pub mod PairReads
pub mod PairTells
pub mod PairScans
pub mod PairConversions
pub mod PairRecoveries
pub mod Theorem
pub mod Lists
