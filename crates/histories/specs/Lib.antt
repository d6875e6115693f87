-- 02, R-14: letters and legal words, the list of histories and what is proved of it, and words by their numbers.
pub mod Letters
pub mod List
pub mod Listed
pub mod Book
pub mod Numbered
