pub mod TripCells
pub mod LineLaws
