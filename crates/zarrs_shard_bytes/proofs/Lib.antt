-- Lemmas of shards as bytes.
pub mod Sizes
pub mod SameBytes
pub mod FillTests
pub mod InnerPlaces
pub mod Rows
pub mod LentRuns
pub mod Bands
