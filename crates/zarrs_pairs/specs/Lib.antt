-- A codec that is a table of pairs.
pub mod Laws
pub mod Lawful
pub mod Pairs
pub mod PairsCodec
pub mod PairsMetadata
pub mod PairsTable
pub mod Rows
