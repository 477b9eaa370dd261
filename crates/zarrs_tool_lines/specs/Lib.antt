-- The tool's lines.
pub use Rattle.zarrs_json.specs.Header
pub mod Arguments
pub mod Commands
pub mod Faults
pub mod Lines
pub mod Run
pub mod RunStatus
pub mod Seen
pub mod Session
pub mod Streams
pub use Rattle.zarrs_json.specs.Refusal
pub use Rattle.zarrs_json.specs.Json
pub use Rattle.zarrs_json.specs.Elements
pub use Rattle.zarrs_json.specs.Containers
pub use Rattle.zarrs_json.specs.Indexer
pub use Rattle.zarrs_json.specs.Edit
pub use Rattle.zarrs_json.specs.DataType
