pub mod Rings
pub mod Turning
pub mod Seat
pub mod Opening
pub mod Moment
pub mod Simple
pub mod Neighbourhood
pub mod Turns
