pub mod Log
pub mod Laws
pub mod Rows
