pub mod Grid
pub mod Copied
