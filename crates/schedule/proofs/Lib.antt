pub mod ReadTo
pub mod Values
