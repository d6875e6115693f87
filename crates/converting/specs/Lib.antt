-- What a conversion computes of each slot, as total functions, and the laws that make it what is promised.
pub mod Parts
pub mod Converting
pub mod PartLaws
pub mod SizeLaws
pub mod WidthLaws
pub mod RewriteLaws
pub mod ConvertLaws
