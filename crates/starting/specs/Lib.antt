-- What the starts share: the number of stores, the first tests, the digest of a new head and the answer.
pub mod Stores
pub mod Checks
pub mod CheckLaws
pub mod NewHead
pub mod Answer
