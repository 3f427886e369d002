pub mod Turn
pub mod Stepped
pub mod Unique
pub mod Seat
pub mod Link
pub mod Mirror
pub mod OpenCount
