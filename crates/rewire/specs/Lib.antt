pub mod Tables
pub mod Front
