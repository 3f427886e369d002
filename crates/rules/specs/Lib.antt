pub mod Unique
pub mod TestIsRules
pub mod Mirror
pub mod Link
