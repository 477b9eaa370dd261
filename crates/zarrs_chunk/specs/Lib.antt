-- Answers, shapes and places.
pub mod Answer
pub mod AnswerLaws
pub mod ArraySubset
pub mod ChunkShape
pub mod CodecError
pub mod IndexTuples
pub mod Indexer
pub mod Indices
pub mod InsideByAxis
pub mod Levels
pub mod Numbering
pub mod Region
pub mod Rows
pub mod Runs
pub mod Selection
pub mod Tuples
