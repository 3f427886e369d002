pub mod Vectors
pub mod Readiness
