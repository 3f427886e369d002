pub mod Trip
pub mod Look
pub mod Write
