pub mod Room
pub mod Edge
pub mod Listed
