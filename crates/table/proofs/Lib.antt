pub mod Beginning
pub mod Unique
