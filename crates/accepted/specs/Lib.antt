pub mod Tests
pub mod Accepted
pub mod Unrefused
pub mod Bytes
pub mod Loading
