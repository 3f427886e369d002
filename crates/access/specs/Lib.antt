pub mod Met
pub mod Acted
pub mod Unique
