-- JSON of lines and headers.
pub mod Refusal
pub mod Json
pub mod Elements
pub mod Containers
pub mod Element
pub mod Shown
pub mod Indexer
pub mod Edit
pub mod HexLists
pub mod DataType
pub mod Header
pub mod HeaderRead
pub mod KnownBytesCodec
pub mod KnownLaws
pub mod KnownMaker
