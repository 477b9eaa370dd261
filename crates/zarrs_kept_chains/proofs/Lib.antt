-- Boxes of what is kept, taken apart and made again.
pub mod KeptDrops
pub mod PlaceSteps
