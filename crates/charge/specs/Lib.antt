pub mod Charging
pub mod Order
pub mod Nearest
pub mod Rows
