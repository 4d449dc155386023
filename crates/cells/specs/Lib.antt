pub mod Points
pub mod Corner
pub mod Rays
pub mod Window
pub mod Line
pub mod Tilt
pub mod Fan
