-- Runs of a region with the axes of its chunk in another order.
use Rattle.std.specs.Prelude.{◌≡◌, ℕ, ◌+◌, ◌-◌, ◌*◌, ◌<◌, ◌≤◌, ◌^◌, true, All, List, length, drop, slice_index}
use Rattle.zarrs_chunk.specs.ChunkShape.{product}
use Rattle.zarrs_chunk.specs.Levels.{box_places, numbers_behind}
use Rattle.zarrs_chunk.specs.Tuples.{is_box_inside}
use Rattle.zarrs_array_to_array.specs.Orders.{permuted}
use Rattle.zarrs_chunk.specs.declared.rows.Row.{Row}

-- the numbers of the region's tuples over these axes, behind each of these fronts
abbrev pub fronts_over : List ℕ → List ℕ → List ℕ → List ℕ → List ℕ → List ℕ
fronts_over order sizes starts lengths fronts =
    numbers_behind (permuted order sizes) (permuted order starts) (permuted order lengths) fronts

-- These are axes of a chunk of such sizes, along which a region lies inside.
pub record AreAxes (order sizes firsts counts : List ℕ) : Type 0 where
  pub below : All (λ axis. axis < length sizes) order
  pub starts : length firsts ≡ length sizes
  pub lengths : length counts ≡ length sizes
  pub positive : All (λ size. 0 < size) sizes
  pub inside : is_box_inside (permuted order sizes) (permuted order firsts) (permuted order counts) ≡ true

-- 64 bits count what ends with the last row behind the front
pub record HasRoom (front : ℕ) (order sizes : List ℕ) (row : Row) : Type 0 where
  pub room : (front + 1) * (product (permuted order sizes) * row.step) < 2 ^ 64
  pub start : row.start ≤ row.step
  pub step : 0 < row.step

-- the rows along the last of so many axes in this order, where the region covers those after it whole
abbrev pub row_along : ℕ → List ℕ → List ℕ → List ℕ → List ℕ → Row
row_along axes order sizes starts lengths = record {
  step = slice_index sizes (slice_index order (axes - 1)) * product (drop axes (permuted order sizes));
  start = slice_index starts (slice_index order (axes - 1)) * product (drop axes (permuted order sizes));
  len = slice_index lengths (slice_index order (axes - 1)) * product (drop axes (permuted order sizes));
}

-- the places of the region in the chunk with its axes in this order
abbrev pub ordered_places : List ℕ → List ℕ → List ℕ → List ℕ → List ℕ
ordered_places order sizes starts lengths = box_places (permuted order sizes) (permuted order starts) (permuted order lengths)
