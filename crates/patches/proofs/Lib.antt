pub mod Flip
pub mod Insert
pub mod Split
