-- Shards as bytes.
pub mod InnerPlaces
pub mod FillElements
pub mod Rows
pub mod Bands
pub mod WrittenShard
pub use Rattle.zarrs_chunk.specs.Answer
pub use Rattle.zarrs_chunk.specs.ChunkShape
pub use Rattle.zarrs_data_type.specs.FillValue
pub use Rattle.zarrs_array_bytes.specs.Held
pub use Rattle.zarrs_array_bytes.specs.Tight
pub use Rattle.zarrs_array_bytes.specs.Validity
pub use Rattle.zarrs_chain_meaning.specs.sharding.InnerChunks
pub use Rattle.zarrs_chain_meaning.specs.sharding.Sharding
pub use Rattle.zarrs_chain_meaning.specs.sharding.ShardingSettings
