pub mod Called
pub mod Demand
