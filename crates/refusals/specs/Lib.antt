pub mod Refusals
pub mod Entries
