pub mod Agree
pub mod Demand3
