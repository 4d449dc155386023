pub mod Queries
pub mod Account
pub mod Demand
pub mod Writing
