pub mod CheckLaws
pub mod CountLaws
pub mod FormatLaws
pub mod LookupLaws
pub mod Order
pub mod RecoverPromises
