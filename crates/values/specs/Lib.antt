pub mod Located
pub mod Method
pub mod Value
