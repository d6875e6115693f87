-- 02, R-13: the way over to the second edition, as a statement.
pub mod WayOver
