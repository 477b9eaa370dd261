-- Calls over arrays for C.
pub mod ArrayLaws
pub mod ArraysGiven
pub mod CrossedPlans
pub mod PartBytes
pub mod Refusals
