-- Which index tuples are selected, and their places in a chunk.
-- Source: zarrs, `Indexer`.
use Rattle.std.specs.Prelude.{ℕ, ◌==◌, List, Vec, map, length, Result, Ok}
use Rattle.std.specs.List.{list_all}
use Rattle.std.specs.declared.alloc.Global.{Global}
use Rattle.zarrs_chunk.specs.Answer.{◌>>=◌, demand, checked_u64}
use Rattle.zarrs_chunk.specs.ChunkShape.{product}
use Rattle.zarrs_chunk.specs.Region.{Region}
use Rattle.zarrs_chunk.specs.Tuples.{row_major, box_tuples, is_box_inside, is_tuple_inside}
use Rattle.zarrs_chunk.specs.declared.codec_error.CodecError.{CodecError}
use Rattle.zarrs_chunk.specs.declared.codec_error.CodecError.TheVariants.{IncompatibleDimensionality, OutOfBounds}

-- an indexer as plain data: a box, or a list of tuples
pub data Selection : Type 0 where
  subset : Region → Selection
  indices : List (List ℕ) → Selection

-- index tuples as lists of their numbers
abbrev pub tuples_seen : List (Vec ℕ Global) → List (List ℕ)
tuples_seen tuples = map (λ tuple. tuple.items) tuples

-- the selected tuples, in order: those of a box row-major, those of a list in list order
abbrev pub tuples_of : Selection → List (List ℕ)
tuples_of (subset region) = box_tuples region.starts region.lengths
tuples_of (indices tuples) = tuples

-- The selection lies inside a chunk of these sizes, or the first error: it has one number or range an axis, and each is inside its axis. An empty range has to lie inside too.
abbrev pub bounds_of : Selection → List ℕ → Result (Unit {0}) CodecError
bounds_of (subset region) sizes = do
  _ ← demand (length region.starts == length sizes) IncompatibleDimensionality
  demand (is_box_inside sizes region.starts region.lengths) OutOfBounds
bounds_of (indices tuples) sizes = do
  _ ← demand (list_all (λ tuple. length tuple == length sizes) tuples) IncompatibleDimensionality
  demand (list_all (λ tuple. is_tuple_inside sizes tuple) tuples) OutOfBounds

-- how many elements are selected, or `Overflow`
abbrev pub len_of : Selection → Result ℕ CodecError
len_of selection = checked_u64 (length (tuples_of selection))

-- the row-major numbers of the selected tuples, in order; or the first error, of the bounds before all others
abbrev pub places_of : Selection → List ℕ → Result (List ℕ) CodecError
places_of selection sizes = do
  _ ← bounds_of selection sizes
  _ ← checked_u64 (product sizes)
  Ok (map (row_major sizes) (tuples_of selection))
