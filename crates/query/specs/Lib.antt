pub mod Location
pub mod Weights
pub mod Gradient
pub mod Natural
pub mod Value
