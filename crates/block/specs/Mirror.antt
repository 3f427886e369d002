pub mod Block
pub mod BlockTests
