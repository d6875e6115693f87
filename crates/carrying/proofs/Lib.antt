-- The proof: what a slot keeps gets no more by the cleaning of another, and so one cleaning after the other is accepted.
pub mod KeptLess
pub mod Theorem
