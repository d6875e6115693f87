-- 02, R-10: what a 32-bit float means, which floats are counts, the conversions of a value both ways, their cases, and laws.
pub mod Float
pub mod Convert
pub mod Cases
pub mod FloatLaws
pub mod TestLaws
pub mod CastLaws
pub mod ConvertLaws
