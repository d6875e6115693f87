-- Two owners in one store: what one of them writes does not show to the other.
pub mod Owners
pub mod Isolation
