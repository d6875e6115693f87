pub mod Cases
pub mod CheckLaws
pub mod LoopLaws
pub mod PlayLaws
pub mod RunLaws
