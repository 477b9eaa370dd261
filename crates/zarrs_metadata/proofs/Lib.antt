pub mod MadeAgain
pub mod Named
pub mod Orders
pub mod ReadBack
pub mod Reshapes
