-- Places of a shard that follow one another in an inner chunk, too, and the rows that they stand in.
use Rattle.std.specs.Prelude.{◌≡◌, ◌+◌, ◌%◌, ◌<◌, ℕ, List}
use Rattle.zarrs_chain_meaning.specs.sharding.InnerChunks.{inner_chunk_of, place_inside}
use Rattle.zarrs_chunk.specs.ChunkShape.{product}
use Rattle.zarrs_shard_runs.specs.CutRuns.{IsBlock}
use Rattle.zarrs_shard_runs.specs.declared.block_rows.Blocks.{Blocks}
use Rattle.zarrs_shard_runs.specs.declared.one_inner_chunk.Stand.{Stand}

-- From each multiple of `band` on, so many places are rows of `row` places along which no inner chunk ends: the place a row below another is one of the same inner chunk, `gain` places behind it.
pub record IsBand (shape sizes : List ℕ) (gain row band : ℕ) : Type 0 where
  pub some : 0 < band
  pub divides : product sizes % band ≡ 0
  pub number : (place : ℕ) → place % band + row < band → inner_chunk_of shape sizes (place + row) ≡ inner_chunk_of shape sizes place
  pub inside : (place : ℕ) → place % band + row < band → place_inside shape sizes (place + row) ≡ place_inside shape sizes place + gain

-- so places follow one another: in blocks, which stand alike in each row, and in bands of rows
pub record AreBlocks (shape sizes : List ℕ) (it : Blocks) : Type 0 where
  pub block : IsBlock shape sizes it.block
  pub rows : it.row % it.block ≡ 0
  pub band : IsBand shape sizes it.block it.row it.band

-- where this place stands
pub record StandsAt (shape sizes : List ℕ) (blocks : Blocks) (place : ℕ) (it : Stand) : Type 0 where
  pub same : it.place ≡ place
  pub number : it.number ≡ inner_chunk_of shape sizes place
  pub inside : it.inside ≡ place_inside shape sizes place
  pub room : place % blocks.block + it.room ≡ blocks.block
  pub left : place % blocks.band + it.left ≡ blocks.band
