pub mod Access
pub mod Calls
pub mod TextDemand3
pub mod CutSchedule
pub mod BuffersEnough
pub mod InspectTells
pub mod Mirror
pub mod Link
