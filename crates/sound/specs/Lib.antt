pub mod Tests
pub mod Sound
