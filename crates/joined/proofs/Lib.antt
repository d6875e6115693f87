-- The proofs: what a cleaning of two slots does to the tests of a write, and the two theorems.
pub mod Again
pub mod Theorem
