pub mod BlockFill
pub mod BlockPlaces
