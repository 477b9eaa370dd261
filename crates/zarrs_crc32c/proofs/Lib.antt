pub mod Multiple
pub mod Quotients
pub mod Registers
pub mod Replaced
pub mod Sixteen
pub mod Sums
pub mod TableEntries
