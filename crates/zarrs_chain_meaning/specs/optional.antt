-- What `optional` is made of: the parts of its values, its configuration.
pub mod Optional
pub mod OptionalParts
