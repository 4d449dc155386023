pub mod Search
pub mod Ready
pub mod Laws
