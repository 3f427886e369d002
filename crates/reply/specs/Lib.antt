pub mod Meaning
pub mod Names
pub mod Unique
