pub mod Exactly
pub mod Sound
