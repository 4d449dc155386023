pub mod Ends
pub mod Listed
