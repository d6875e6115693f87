-- Every run of exported calls is a run of the store, so demand 3 holds for it.
pub mod Moves
pub mod Theorem
pub mod Isolation
