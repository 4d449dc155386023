pub mod Opening
pub mod Moment
pub mod Simple
pub mod Few
pub mod Neighbourhood
pub mod Rings
pub mod Turns
pub mod Whole
