pub mod Bytes
pub mod Exactly
pub mod Facts
