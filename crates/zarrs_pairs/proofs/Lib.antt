pub mod OtherCodecs
pub mod SortedRows
pub mod Tables
