pub mod Bytes
pub mod Outcome
pub mod Unique
pub mod SessionLines
pub mod Link
