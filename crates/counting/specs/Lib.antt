-- The present bytes of the slots at a commit, and that they are what recovery counts.
pub mod Counting
pub mod CountingLaws
