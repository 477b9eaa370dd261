-- Runs of places of a shard, by inner chunks.
pub mod PlacesInside
pub mod CutRuns
pub mod BlockRows
pub mod GroupedRuns
pub mod Groups
pub mod RunSelection
pub mod InnerBox
pub mod BoxParts
pub use Rattle.zarrs_chunk.specs.Answer
pub use Rattle.zarrs_chunk.specs.Runs
pub use Rattle.zarrs_chunk.specs.Selection
pub use Rattle.zarrs_chain_meaning.specs.sharding.InnerChunks
pub use Rattle.zarrs_grid.specs.ChunkTuples
