-- Regions that go through array-to-array codecs as regions.
use Rattle.std.specs.Prelude.{◌≡◌, ℕ, ◌<◌, ◌==◌, ◌&&◌, Bool, true, false, not, is_ok, List, [], ◌∷◌, Option, Some, None, if◌then◌else◌}
use Rattle.std.specs.List.{list_all, list_any}
use Rattle.zarrs_chunk.specs.ChunkShape.{product}
use Rattle.zarrs_chunk.specs.Region.{Region}
use Rattle.zarrs_chunk.specs.Selection.{Selection, subset, indices, bounds_of}
use Rattle.zarrs_chunk.specs.Tuples.{is_box_inside}
use Rattle.zarrs_array_to_array.specs.ArrayToArrayCodec.{ArrayMapping, keeps_places}
use Rattle.zarrs_array_to_array.specs.EncodedBoxes.{keeps_boxes}

-- The codecs take every region to a region: behind one that makes no boxes of boxes, as a reshape gives the chunk other axes, each leaves the places where they are.
abbrev pub keeps_regions : List ArrayMapping → Bool
keeps_regions [] = true
keeps_regions (codec ∷ codecs) =
    if keeps_boxes codec then keeps_regions codecs else list_all keeps_places codecs

-- no length of the box is zero
abbrev pub is_filled : Region → Bool
is_filled region = not (list_any (λ len. len == 0) region.lengths)

-- the box is in bounds and has elements, and there are codecs that keep it
abbrev pub is_kept : List ArrayMapping → List ℕ → Region → Bool
is_kept [] sizes region = false
is_kept (codec ∷ codecs) sizes region =
    is_ok (bounds_of (subset region) sizes) && is_filled region && keeps_regions (codec ∷ codecs)

-- the box that a selection is, where it goes through array-to-array codecs, at least one, as a box
abbrev pub kept_region : List ArrayMapping → List ℕ → Selection → Option Region
kept_region codecs sizes (subset region) = if is_kept codecs sizes region then Some region else None
kept_region codecs sizes (indices tuples) = None

-- the selection is this box, which lies inside the chunk and has elements, and the codecs keep it
pub record IsKept (codecs : List ArrayMapping) (sizes : List ℕ) (selection : Selection) (region : Region) : Type 0 where
  pub selection_is : selection ≡ subset region
  pub inside : is_box_inside sizes region.starts region.lengths ≡ true
  pub filled : 0 < product region.lengths
  pub kept : keeps_regions codecs ≡ true
