-- The promise about cuts for the exported calls: what the firmware holds in words, the runs of exported calls, and demand 3 for them.
pub mod Runs
pub mod Demand3
pub mod Isolation
