pub mod Inserting
pub mod Numbers
pub mod Laws
