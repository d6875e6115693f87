-- The next store of a pending operation, as a total function of whatever record and buffers there are.
pub mod Next
pub mod NextLaws
pub mod PlanLaws
pub mod Agree
pub mod AgreeLaws
pub mod Told
pub mod Places
pub mod PlaceLaws
