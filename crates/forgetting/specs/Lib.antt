-- The start of a delete, as the code computes it, and that this is the promise of a start.
pub mod Forgot
pub mod Sifted
pub mod Forgetting
pub mod DeleteLaws
