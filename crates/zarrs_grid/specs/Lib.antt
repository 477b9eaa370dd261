-- Regular grids of chunks, and the parts of a region in each.
pub mod ChunkTuples
pub mod Gathered
pub mod GridLaws
pub mod JoinedParts
pub mod Parts
pub mod RegionElements
pub mod RegionParts
pub mod RegionWrites
pub mod Touched
pub use Rattle.zarrs_array_bytes.specs.Update
pub use Rattle.zarrs_chunk.specs.Answer
pub use Rattle.zarrs_chunk.specs.ChunkShape
pub use Rattle.zarrs_chunk.specs.Indices
pub use Rattle.zarrs_chunk.specs.Levels
pub use Rattle.zarrs_chunk.specs.Region
pub use Rattle.zarrs_chunk.specs.Tuples
