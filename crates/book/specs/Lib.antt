pub mod Returned
pub mod Books
pub mod Sums
pub mod Laws
