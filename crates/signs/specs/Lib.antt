pub mod Signs
pub mod Order
pub mod Sum
pub mod Count
