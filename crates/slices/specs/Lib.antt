pub mod Lent
pub mod Books
pub mod Answers
