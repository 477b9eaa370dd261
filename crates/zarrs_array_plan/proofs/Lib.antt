-- Lemmas of the planned form.
pub mod Keys
pub mod Origins
pub mod PlannedRegions
pub mod EmptyBoxes
pub mod ChunksRead
pub mod PlansCut
pub mod RegionContainers
pub mod PartsWritten
