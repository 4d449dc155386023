pub mod Steps
pub mod Sums
pub mod Upward
pub mod Estimated
