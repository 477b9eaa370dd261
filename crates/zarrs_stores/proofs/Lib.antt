-- Lemmas of stores.
pub mod StoreLemmas
