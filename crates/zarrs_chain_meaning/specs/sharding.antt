-- What `sharding_indexed` is made of: its inner chunks, its values, its configuration.
pub mod InnerChunks
pub mod Sharding
pub mod ShardSteps
pub mod ShardingSettings
