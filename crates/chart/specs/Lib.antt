pub mod Limits
pub mod Tables
pub mod Chart
pub mod Seen
