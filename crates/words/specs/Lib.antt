-- The store record as words, and that encoding and decoding are inverse.
pub mod Words
pub mod WordLaws
