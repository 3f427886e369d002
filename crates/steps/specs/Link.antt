pub mod Cascade
pub mod CascadeSearch
pub mod Deliver
pub mod DeliverReceive
pub mod Look
pub mod LookTrip
pub mod LookStepped
pub mod Write
