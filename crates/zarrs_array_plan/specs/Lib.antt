-- Arrays over many chunks, as plans.
pub mod ArrayForm
pub mod ChunkArrays
pub mod ChunkKeys
pub mod Joined
pub mod PlanLaws
pub mod Planned
pub use Rattle.zarrs_array_bytes.specs.Chunks
pub use Rattle.zarrs_array_bytes.specs.Tight
pub use Rattle.zarrs_array_bytes.specs.Validity
pub use Rattle.zarrs_chunk.specs.Answer
pub use Rattle.zarrs_chunk.specs.ChunkShape
pub use Rattle.zarrs_chunk.specs.Runs
pub use Rattle.zarrs_chunk.specs.Selection
pub use Rattle.zarrs_chunk.specs.Tuples
