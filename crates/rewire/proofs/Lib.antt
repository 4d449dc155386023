pub mod Front
pub mod Flip
pub mod Charts
pub mod Grown
