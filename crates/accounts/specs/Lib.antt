pub mod Rulings
pub mod Batch
pub mod Tally
pub mod Demand
pub mod History
pub mod Agree
pub mod Rows
pub mod Charged
