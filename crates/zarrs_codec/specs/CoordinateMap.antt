-- Where the elements of a chunk go.
use Rattle.std.specs.Prelude.{◌≡◌, ℕ, ◌<◌, List, map, All, Result, IfOk, IsOkAnd}
use Rattle.std.specs.List.{range_with_len}
use Rattle.zarrs_chunk.specs.ChunkShape.{product}
use Rattle.zarrs_chunk.specs.declared.codec_error.CodecError.{CodecError}
use Rattle.zarrs_data_type.specs.Element.{Chunk}
use Rattle.zarrs_array_bytes.specs.Elements.{select}

-- the sizes of the moved chunk, the place in it of each place of the decoded chunk, and the way back
pub record CoordinateMap : Type 0 where
  pub encoded : List ℕ
  pub to : ℕ → ℕ
  pub from : ℕ → ℕ

-- so many places go one to one to so many places
pub record IsOneToOne (count : ℕ) (to from : ℕ → ℕ) : Type 0 where
  pub to_below : (place : ℕ) → place < count → to place < count
  pub from_below : (place : ℕ) → place < count → from place < count
  pub from_to : (place : ℕ) → place < count → from (to place) ≡ place
  pub to_from : (place : ℕ) → place < count → to (from place) ≡ place

-- a coordinate map of chunks of these sizes
pub record IsCoordinateMap (sizes : List ℕ) (m : CoordinateMap) : Type 0 where
  pub count : product m.encoded ≡ product sizes
  pub places : IsOneToOne (product sizes) m.to m.from
  pub positive : All (λ size. 0 < size) sizes → All (λ size. 0 < size) m.encoded

-- what is done to chunks of these sizes is a coordinate map to chunks of the next ones
abbrev pub IsMapTo : Result CoordinateMap CodecError → List ℕ → List ℕ → Type 0
IsMapTo coordinates sizes next = IsOkAnd coordinates (λ m. (m.encoded ≡ next) × IsCoordinateMap sizes m)

-- the sizes that are answered for these are those of what a codec does to chunks of them, which is a coordinate map
abbrev pub MapsSizes : (List ℕ → Result CoordinateMap CodecError) → List ℕ → Result (List ℕ) CodecError → Type 0
MapsSizes coordinates sizes result = IfOk result (λ next. IsMapTo (coordinates sizes) sizes next)

-- every element keeps its place, under other sizes
abbrev pub same_places : List ℕ → CoordinateMap
same_places sizes = record { encoded = sizes; to = λ place. place; from = λ place. place }

-- one map, and then the other
abbrev pub composition : CoordinateMap → CoordinateMap → CoordinateMap
composition first second = record {
  encoded = second.encoded;
  to = λ place. second.to (first.to place);
  from = λ place. first.from (second.from place);
}

-- the way back, to chunks of these sizes
abbrev pub inverse_map : List ℕ → CoordinateMap → CoordinateMap
inverse_map sizes m = record { encoded = sizes; to = m.from; from = m.to }

-- for each place of the moved chunk, the place that its element comes from
abbrev pub origins : CoordinateMap → List ℕ
origins m = map m.from (range_with_len 0 (product m.encoded))

-- the chunk with its elements where the map moves them
abbrev pub moved_chunk : CoordinateMap → Chunk → Chunk
moved_chunk m chunk = select chunk (origins m)
