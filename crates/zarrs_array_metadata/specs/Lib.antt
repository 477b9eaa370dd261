-- The metadata of arrays, read.
pub mod Additional
pub mod ArrayMetadata
pub mod ArrayMetadataError
pub mod ChunksRead
pub mod Extensions
pub mod Laws
pub mod NeededKeys
pub mod OtherKeys
pub mod OthersRead
pub mod Written
