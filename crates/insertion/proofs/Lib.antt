pub mod Outcome
pub mod Read
pub mod Parts
