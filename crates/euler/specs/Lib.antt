pub mod Pigeons
pub mod Euler
