pub mod AgreeLaws
pub mod BareLaws
pub mod NextLaws
pub mod PlaceLaws
pub mod PlanLaws
pub mod TestLaws
pub mod ToldLaws
