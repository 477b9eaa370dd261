-- Regions that stay regions.
pub mod Windows
pub mod KeptRegions
pub mod PlaceReaders
pub mod Parts
pub mod OrderedRuns
pub mod FewRuns
pub mod WindowLaws
pub use Rattle.zarrs_chunk.specs.Answer
pub use Rattle.zarrs_chunk.specs.Indexer
pub use Rattle.zarrs_chunk.specs.Runs
pub use Rattle.zarrs_array_bytes.specs.Validity
pub use Rattle.zarrs_array_to_array.specs.CodecAnswers
pub use Rattle.zarrs_array_to_array.specs.Mapping
