-- What the starts of a write and of a delete decide from the record and the index alone, and that on a genuine store it is what 01
-- says of the log.
pub mod Tests
pub mod TestLaws
pub mod Laying
pub mod Known
pub mod StartLaws
