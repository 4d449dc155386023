pub mod Program
pub mod Laws
pub mod Example
