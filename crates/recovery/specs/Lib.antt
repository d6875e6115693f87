-- What the calls of this crate compute, and the laws that take it to their promises.
pub mod FormatLaws
pub mod Order
pub mod Lookups
pub mod LookupLaws
pub mod Recovering
pub mod Counting
pub mod CountLaws
pub mod CheckLaws
pub mod RecoverPromises
