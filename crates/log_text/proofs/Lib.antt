pub mod Laws
pub mod Callers
pub mod Rows
