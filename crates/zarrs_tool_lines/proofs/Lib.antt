pub mod LineLemmas
pub mod RunLemmas
pub mod ReadLemmas
pub mod EncodeLemmas
