pub mod Homes
pub mod Calls
pub mod Bends
pub mod Answers
pub mod Sibson
pub mod NewTest
