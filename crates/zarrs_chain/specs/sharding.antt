-- The codec `sharding_indexed`: chunks divided into inner chunks.
pub mod ShardingCalls
pub mod ShardRows
pub mod ShardBands
pub mod BandSizes
pub mod ShardWalk
