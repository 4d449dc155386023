pub mod Legal
pub mod Turning
