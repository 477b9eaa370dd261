-- Handles on bytes that are lent.
pub mod Elsewhere
pub mod Joined
pub mod Lacking
pub mod LentHandle
pub mod Pieces
pub mod PiecesHandle
pub mod Rounds
pub mod SpanHandle
pub mod AheadHandle
pub mod ReadAhead
