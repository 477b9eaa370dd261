-- Boxes and lists of tuples without their axes of size one.
-- Source: codec.zarrs.dev, `squeeze`.
use Rattle.std.specs.Prelude.{◌==◌, ◌&&◌, ℕ, Bool, List, map, length, replicate, if◌then◌else◌}
use Rattle.std.specs.List.{list_any, zip}
use Rattle.zarrs_array_to_array.specs.Squeeze.{kept_indices, or_zero, or_one, squeezed_tuple}
use Rattle.zarrs_chunk.specs.Region.{Region}
use Rattle.zarrs_chunk.specs.Selection.{Selection, subset, indices}

-- one of the axes that a squeeze drops has an empty range
abbrev pub drops_empty_range : List ℕ → List ℕ → Bool
drops_empty_range sizes lengths = list_any (λ axis. axis.0 == 1 && axis.1 == 0) (zip sizes lengths)

-- the lengths along the axes that stay, all of them zero where a dropped range is empty
abbrev pub squeezed_lengths : List ℕ → List ℕ → List ℕ
squeezed_lengths sizes lengths =
    if drops_empty_range sizes lengths then replicate (length (or_one (kept_indices sizes lengths))) 0 else or_one (kept_indices sizes lengths)

-- the box along the axes that stay
abbrev pub squeezed_region : List ℕ → Region → Region
squeezed_region sizes region = record {
  starts = or_zero (kept_indices sizes region.starts);
  lengths = squeezed_lengths sizes region.lengths;
}

-- a box stays one, and each tuple of a list loses its indices along axes of size one
abbrev pub squeeze_asked : List ℕ → Selection → Selection
squeeze_asked sizes (subset region) = subset (squeezed_region sizes region)
squeeze_asked sizes (indices tuples) = indices (map (squeezed_tuple sizes) tuples)
