pub mod Test
pub mod Parts
