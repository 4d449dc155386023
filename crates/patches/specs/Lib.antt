pub mod Rows
pub mod Wired
pub mod Patch
pub mod Flip
pub mod Insert
pub mod Split
