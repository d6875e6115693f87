pub mod DeleteLaws
pub mod ForgotLaws
pub mod ForgotModel
pub mod Sifted
