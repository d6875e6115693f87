-- The store record, the refusals and the answers of the seven calls.
pub mod Refusals
pub mod Answered
pub mod AnswerLaws
pub mod Answers
pub mod Committed
pub mod Range
pub mod Switch
pub mod RangeLaws
pub mod Reach
pub mod Pairs
