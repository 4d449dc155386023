pub mod Floats
pub mod Points
