-- Lemmas of regions that are read chunk by chunk.
pub mod PartsRead
pub mod RegionSteps
pub mod RegionJoined
