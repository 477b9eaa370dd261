pub mod ElsewhereLemmas
pub mod JoinLemmas
pub mod LackingLemmas
pub mod PieceLemmas
pub mod RoundLemmas
pub mod SpanLemmas
pub mod AheadLemmas
