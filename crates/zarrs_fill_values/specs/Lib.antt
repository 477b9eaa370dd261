-- Names of element types, and fill values.
pub mod ElementError
pub mod ElementName
pub mod FillValues
pub mod Floats
pub mod Integers
pub mod Laws
pub mod NameTree
pub mod Names
pub mod Shown
pub mod Words
