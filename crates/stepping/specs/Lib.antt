-- The step of a pending operation, as total functions of whatever record and buffers it gets.
pub mod Tested
pub mod Finish
pub mod EntryLaws
pub mod ExactLaws
pub mod StepLaws
pub mod Foretold
