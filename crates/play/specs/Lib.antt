-- What the functions of `play` answer.
pub mod Values
pub mod Book
pub mod Answers
