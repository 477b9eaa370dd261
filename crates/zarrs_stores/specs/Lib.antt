-- Stores, and a key of a store as a handle.
pub mod Lending
pub mod MemoryStore
pub mod StoreHandle
pub mod StoreState
pub mod WatchedStore
pub use Rattle.zarrs_chunk.specs.Answer
pub use Rattle.zarrs_codec.specs.ByteRanges
pub use Rattle.zarrs_codec.specs.FailingCall
pub use Rattle.zarrs_codec.specs.HandleCalls
pub use Rattle.zarrs_codec.specs.StorageState
