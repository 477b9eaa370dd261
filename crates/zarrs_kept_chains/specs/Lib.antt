-- Headers that C keeps.
pub mod Kept
pub mod Place
pub mod KeptChain
