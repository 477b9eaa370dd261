-- Regions of arrays over stores, read chunk by chunk.
pub mod JoinedRead
pub mod RegionRead
pub use Rattle.zarrs_array_plan.specs.ChunkArrays
pub use Rattle.zarrs_array_plan.specs.Planned
pub use Rattle.zarrs_stores.specs.StoreState
