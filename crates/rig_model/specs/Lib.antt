-- 02, R-14: which history recovers wrongly, and what the rig prints.
pub mod Verdict
pub mod Cases
pub mod RunLaws
pub mod PlayLaws
pub mod LoopLaws
