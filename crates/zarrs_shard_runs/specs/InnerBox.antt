-- Windows of a shard that lie in one of its inner chunks.
use Rattle.std.specs.Prelude.{◌≡◌, ℕ, ◌+◌, ◌-◌, ◌/◌, ◌<◌, ◌==◌, ◌&&◌, Bool, true, false, List, [], ◌∷◌, map}
use Rattle.zarrs_chain_meaning.specs.sharding.InnerChunks.{inner_chunk_count}
use Rattle.zarrs_chunk.specs.Levels.{box_places}
use Rattle.zarrs_chunk.specs.Region.{Region}
use Rattle.zarrs_chunk.specs.Tuples.{is_box_inside}
use Rattle.zarrs_shard_runs.specs.CutRuns.{cell, cells_at}
use Rattle.zarrs_shard_runs.specs.declared.inner_boxes.InnerBox.{InnerBox}

-- along each axis the first index of a box, which has some, and its last one are in the same inner chunk
abbrev pub lies_in_one : List ℕ → List ℕ → List ℕ → Bool
lies_in_one [] [] [] = true
lies_in_one (part ∷ shape) (start ∷ starts) (len ∷ lengths) =
    (start / part == (start + len - 1) / part) && lies_in_one shape starts lengths
lies_in_one _ _ _ = false

-- The places of a window of the shard are those of a box of this inner chunk, as long as the window, in the same order.
pub record IsInnerBox (shape sizes : List ℕ) (window : Region) (it : InnerBox) : Type 0 where
  pub cells : map (cell shape sizes) (box_places sizes window.starts window.lengths) ≡ cells_at it.number (box_places shape it.region.starts it.region.lengths)
  pub number : it.number < inner_chunk_count shape sizes
  pub inside : is_box_inside shape it.region.starts it.region.lengths ≡ true
  pub lengths : it.region.lengths ≡ window.lengths
