pub mod Tables
pub mod Laws
pub mod Running
pub mod UpTo17
