pub mod Decimal
pub mod Header
pub mod Line
pub mod Query
pub mod Room
