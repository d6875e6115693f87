pub mod CleanLaws
pub mod EntryLaws
pub mod ExactLaws
pub mod FinishLaws
pub mod Foretold
pub mod OnLaws
pub mod StepLaws
pub mod Tested
