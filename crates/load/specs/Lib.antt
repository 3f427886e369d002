pub mod Loading
pub mod Unique
pub mod Finding
pub mod Roundtrip
pub mod Mirror
pub mod Link
