pub mod Location
pub mod Laws
pub mod Sides
