pub mod ByPattern
pub mod ExactFloats
pub mod NearestWords
pub mod Numbers
pub mod NumbersAgain
pub mod Patterns
pub mod Shifts
