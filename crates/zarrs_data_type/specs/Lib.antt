-- Types and fill values.
pub mod ElementType
pub mod DataType
pub mod InnerType
pub mod SameType
pub mod SameTypeLaws
pub mod FillValue
pub mod Element
pub mod Form
pub use Rattle.zarrs_chunk.specs.Answer
