-- Words and numbers as text.
pub mod Ascii
pub mod Digits
pub mod Spelled
pub mod Put
pub mod Examples
