pub mod BitLaws
pub mod CountLaws
pub mod Examples
pub mod NextLaws
pub mod Vacant
pub mod Words
pub mod Zeros
