pub mod Limits
pub mod Check
pub mod Block
pub mod Damage
pub mod Stands
pub mod Examples
pub mod Link
pub mod Mirror
