-- Runs of places of a chunk, cut where they leave an inner chunk.
use Rattle.std.specs.List.{All, flat_map, range_with_len}
use Rattle.std.specs.Prelude.{◌≡◌, ◌+◌, ◌%◌, ◌<◌, ◌≤◌, ℕ, List, length, map, get_or}
use Rattle.zarrs_chain_meaning.specs.sharding.InnerChunks.{inner_chunk_count, inner_chunk_of, place_inside}
use Rattle.zarrs_chunk.specs.ChunkShape.{product}
use Rattle.zarrs_shard_runs.specs.declared.cut_runs.CutRun.{CutRun}

-- the number of the inner chunk that has a place, and the place in it
abbrev pub cell : List ℕ → List ℕ → ℕ → ℕ × ℕ
cell shape sizes place = (inner_chunk_of shape sizes place, place_inside shape sizes place)

-- these places of an inner chunk, each with its number
abbrev pub cells_at : ℕ → List ℕ → List (ℕ × ℕ)
cells_at number places = map (λ place. (number, place)) places

-- the places of a cut run in its inner chunk
abbrev pub places_of_cut : CutRun → List ℕ
places_of_cut it = range_with_len it.start it.len

-- the places of cut runs in their inner chunks, each with the number of the inner chunk, in order
abbrev pub cells : List CutRun → List (ℕ × ℕ)
cells cuts = flat_map (λ it. cells_at it.number (places_of_cut it)) cuts

-- From each multiple of this number of places on, so many are in one inner chunk, where they follow one another too.
pub record IsBlock (shape sizes : List ℕ) (block : ℕ) : Type 0 where
  pub some : 0 < block
  pub divides : product sizes % block ≡ 0
  pub number : (place more : ℕ) → place % block + more < block → inner_chunk_of shape sizes (place + more) ≡ inner_chunk_of shape sizes place
  pub inside : (place more : ℕ) → place % block + more < block → place_inside shape sizes (place + more) ≡ place_inside shape sizes place + more

-- a cut run has places, all of them of its inner chunk, which is one of those of the chunk
pub record IsCutRun (shape sizes : List ℕ) (it : CutRun) : Type 0 where
  pub some : 0 < it.len
  pub inside : it.start + it.len ≤ product shape
  pub number : it.number < inner_chunk_count shape sizes

-- each of them is so, and knows which of them it is
pub record AreCut (shape sizes : List ℕ) (cuts : List CutRun) : Type 0 where
  pub each : All (IsCutRun shape sizes) cuts
  pub indexed : (k : ℕ) (d : CutRun) → k < length cuts → (get_or cuts k d).index ≡ k
