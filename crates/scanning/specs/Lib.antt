-- What a read by scan computes, as total functions, and the laws that make it what is promised.
pub mod Seeing
pub mod Seeking
pub mod SeeingLaws
pub mod SeekingLaws
