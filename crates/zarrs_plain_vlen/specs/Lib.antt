-- A plain `vlen` in part.
pub mod StoredBytes
pub mod IndexSteps
pub mod Layout
pub mod Elements
pub mod StoredElements
pub mod VlenRead
pub mod PlainRead
pub mod ReadingCalls
pub mod Laws
pub use Rattle.zarrs_chunk.specs.Answer
pub use Rattle.zarrs_array_bytes.specs.Tight
pub use Rattle.zarrs_array_bytes.specs.Validity
pub use Rattle.zarrs_codec.specs.StorageState
pub use Rattle.zarrs_chain_meaning.specs.vlen.PlainVlen
