-- The words of the programs that call the library: a region of chunks, a cache, codecs of one's own.
pub mod ByteDelta
pub mod ByteDeltaLaws
pub mod ByteDeltaMetadata
pub mod Cache
pub mod ChunkedArray
pub mod ComesBack
pub mod Decoded
pub mod Windows
