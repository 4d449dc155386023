pub mod Numbers
pub mod Circles
