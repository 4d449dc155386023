pub mod Circles
pub mod Star
pub mod End
pub mod Start
pub mod Passing
