-- 02, R-7 over runs, as statements.
pub mod Helps
pub mod Cases
