-- The bytes of one segment, as 01 lays them down.
pub mod Choice
pub mod Layout
pub mod Entry
pub mod Digest
pub mod LayoutLaws
pub mod Packed
pub mod EntryLaws
pub mod Kinds
pub mod AnswerLaws
pub mod Area
pub mod Entries
pub mod Written
pub mod Copied
pub mod Rewritten
