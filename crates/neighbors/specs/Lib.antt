pub mod Neighbors
pub mod Each
pub mod Counting
pub mod Answers
