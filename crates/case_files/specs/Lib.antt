pub mod Files
pub mod Packed
pub mod Path
