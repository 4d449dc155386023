pub mod Entry
pub mod Ruling
