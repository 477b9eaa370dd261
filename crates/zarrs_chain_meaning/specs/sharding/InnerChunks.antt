-- A chunk divided into inner chunks of one shape, which are numbered row by row.
-- Source: the Zarr v3 codec `sharding_indexed`.
use Rattle.std.specs.List.{range_with_len}
use Rattle.std.specs.Prelude.{ℕ, ◌+◌, ◌*◌, ◌/◌, ◌%◌, ◌==◌, ◌&&◌, Bool, true, false, List, [], ◌∷◌, map, get_or, ◌≡◌, ◌<◌}
use Rattle.zarrs_array_bytes.specs.Elements.{select}
use Rattle.zarrs_chunk.specs.ChunkShape.{product}
use Rattle.zarrs_chunk.specs.Indices.{tuple_of_number}
use Rattle.zarrs_chunk.specs.Tuples.{row_major}
use Rattle.zarrs_data_type.specs.Element.{absent, Chunk}
use Rattle.zarrs_grid.specs.ChunkTuples.{quotients, remainders, tuple_in_array}

-- each size of the chunk is a multiple of that of an inner chunk, of as many axes
abbrev pub is_divided : List ℕ → List ℕ → Bool
is_divided [] [] = true
is_divided (part ∷ shape) (size ∷ sizes) = (size % part == 0) && is_divided shape sizes
is_divided _ _ = false

-- how many inner chunks there are along each axis
abbrev pub grid : List ℕ → List ℕ → List ℕ
grid shape sizes = quotients shape sizes

-- how many inner chunks there are, so many along each axis
abbrev pub inner_chunk_count : List ℕ → List ℕ → ℕ
inner_chunk_count shape sizes = product (grid shape sizes)

-- the number of the inner chunk that has a place of the chunk
abbrev pub inner_chunk_of : List ℕ → List ℕ → ℕ → ℕ
inner_chunk_of shape sizes place = row_major (grid shape sizes) (quotients shape (tuple_of_number sizes place))

-- and the place in that inner chunk
abbrev pub place_inside : List ℕ → List ℕ → ℕ → ℕ
place_inside shape sizes place = row_major shape (remainders shape (tuple_of_number sizes place))

-- the place in the chunk of a place of the inner chunk of a number
abbrev pub place_in_shard : List ℕ → List ℕ → ℕ → ℕ → ℕ
place_in_shard shape sizes number inside =
    row_major sizes (tuple_in_array shape (tuple_of_number (grid shape sizes) number) (tuple_of_number shape inside))

-- the places in the chunk of an inner chunk's elements
abbrev pub inner_chunk_places : List ℕ → List ℕ → ℕ → List ℕ
inner_chunk_places shape sizes number = map (place_in_shard shape sizes number) (range_with_len 0 (product shape))

-- the inner chunks of a chunk, in order
abbrev pub inner_chunks_of : List ℕ → List ℕ → Chunk → List Chunk
inner_chunks_of shape sizes chunk =
    map (λ number. select chunk (inner_chunk_places shape sizes number)) (range_with_len 0 (inner_chunk_count shape sizes))

-- the chunk that has these inner chunks
abbrev pub joined_inner_chunks : List ℕ → List ℕ → List Chunk → Chunk
joined_inner_chunks shape sizes inner_chunks =
    map (λ place. get_or (get_or inner_chunks (inner_chunk_of shape sizes place) []) (place_inside shape sizes place) absent) (range_with_len 0 (product sizes))

-- Each place of the chunk is one place of one inner chunk, and the other way round.
pub record IsCut (shape sizes : List ℕ) : Type 0 where
  pub chunk_below : (place : ℕ) → place < product sizes → inner_chunk_of shape sizes place < inner_chunk_count shape sizes
  pub inside_below : (place : ℕ) → place < product sizes → place_inside shape sizes place < product shape
  pub back : (place : ℕ) → place < product sizes → place_in_shard shape sizes (inner_chunk_of shape sizes place) (place_inside shape sizes place) ≡ place
  pub place_below : (number inside : ℕ) → number < inner_chunk_count shape sizes → inside < product shape → place_in_shard shape sizes number inside < product sizes
  pub chunk_again : (number inside : ℕ) → number < inner_chunk_count shape sizes → inside < product shape → inner_chunk_of shape sizes (place_in_shard shape sizes number inside) ≡ number
  pub inside_again : (number inside : ℕ) → number < inner_chunk_count shape sizes → inside < product shape → place_inside shape sizes (place_in_shard shape sizes number inside) ≡ inside
