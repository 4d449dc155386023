pub mod Turn
pub mod Gradient
pub mod Sums
pub mod Round
pub mod Upward
pub mod Estimated
