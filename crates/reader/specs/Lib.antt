pub mod Unique
pub mod Ended
