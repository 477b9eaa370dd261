pub mod ArrayAppends
pub mod ArrayBounds
pub mod ArrayJoins
pub mod ArrayRows
pub mod BackAgain
pub mod Conversions
pub mod WindowReads
