pub mod Natural
pub mod Laws
pub mod Arrays
pub mod Facts
