pub mod Insertion
pub mod Askable
pub mod Site
pub mod Joined
