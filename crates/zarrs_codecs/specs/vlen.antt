-- Reading a chunk of `vlen` in part.
pub mod VlenRuns
pub mod VlenPartialDecoder
