-- The codec `optional`: elements that may be absent.
pub mod OptionalCalls
