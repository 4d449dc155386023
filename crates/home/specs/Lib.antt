pub mod Facts
pub mod Lowest
pub mod Crossing
pub mod Count
pub mod Home
pub mod Located
pub mod Needed
