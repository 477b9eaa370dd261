-- Where the elements of an inner chunk stand, by the runs of the first one.
use Rattle.std.specs.Prelude.{◌≡◌, ◌<◌, ◌^◌, ℕ, ◌+◌, All, true, List, map, Result, Vec}
use Rattle.std.specs.declared.alloc.Global.{Global}
use Rattle.zarrs_chunk.specs.Answer.{GivesBy, no_refusal}
use Rattle.zarrs_chunk.specs.declared.codec_error.CodecError.{CodecError}
use Rattle.zarrs_chunk.specs.Runs.{joined_runs, AreFilled}
use Rattle.zarrs_chunk.specs.ChunkShape.{product}
use Rattle.zarrs_chain_meaning.specs.sharding.InnerChunks.{is_divided, grid, inner_chunk_places}

-- the places that runs cover, each further on by so many
abbrev pub places_from : ℕ → List (ℕ × ℕ) → List ℕ
places_from start runs = map (λ place. start + place) (joined_runs runs)

-- These runs cover the places of the first inner chunk, in order, and none of them is empty.
pub record AreFirstRuns (shape sizes : List ℕ) (runs : List (ℕ × ℕ)) : Type 0 where
  pub places : joined_runs runs ≡ inner_chunk_places shape sizes 0
  pub filled : AreFilled runs

-- such runs are given
abbrev pub GivesFirstRuns : List ℕ → List ℕ → Result (Vec (ℕ × ℕ) Global) CodecError → Type 0
GivesFirstRuns shape sizes result = GivesBy (λ runs _. AreFirstRuns shape sizes runs.items) result no_refusal

-- The inner chunks of this shape divide a chunk of these sizes, there are so many along each axis, and one of them has this number; and 64 bits count the chunk's elements.
pub record IsInGrid (shape sizes counts : List ℕ) (number : ℕ) : Type 0 where
  pub positive : All (λ part. 0 < part) shape
  pub sizes_positive : All (λ size. 0 < size) sizes
  pub counts_positive : All (λ count. 0 < count) counts
  pub divided : is_divided shape sizes ≡ true
  pub counts_are : counts ≡ grid shape sizes
  pub below : number < product counts
  pub small : product sizes < 2 ^ 64
