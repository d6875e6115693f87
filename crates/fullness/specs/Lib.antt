-- Why going down through the slots finds the lowest of those with the fewest bytes.
pub mod FewestLaws
