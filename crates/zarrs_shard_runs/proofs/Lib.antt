-- Lemmas of runs by inner chunks.
pub mod Numbers
pub mod Blocks
pub mod Bands
pub mod CellSteps
pub mod CutSteps
pub mod Stands
pub mod SpanSteps
pub mod GroupSteps
pub mod Grouping
pub mod Orders
pub mod OneGroup
pub mod InnerCells
pub mod BoxParts
pub mod BoxCells
pub mod BoxGroups
pub mod InnerStarts
pub mod TuplesOfPlaces
