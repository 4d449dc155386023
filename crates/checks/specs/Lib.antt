pub mod Checks
pub mod Taken
pub mod Numbers
