pub mod Signed
pub mod Values
pub mod Whole
