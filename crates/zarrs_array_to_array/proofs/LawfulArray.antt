-- What holds of an array-to-array codec, by what it means.
use Rattle.std.proofs.Common.{◌≡◌, ◌<◌, ℕ, true, false, if◌then◌else◌, Some, None, List, length, Ok}
use Rattle.std.specs.Prelude.{is_ok}
use Rattle.std.specs.List.{All}
use Rattle.zarrs_array_to_array.specs.ArrayMeaning.{ArrayMeaning, BoxMap}
use Rattle.zarrs_chunk.specs.Answer.{is_fault}
use Rattle.zarrs_chunk.specs.Region.{Region}
use Rattle.zarrs_chunk.specs.Selection.{Selection, bounds_of}
use Rattle.zarrs_chunk.specs.Tuples.{is_box_inside}
use Rattle.zarrs_codec.specs.CoordinateMap.{CoordinateMap, IsCoordinateMap, same_places}
use Rattle.zarrs_codec.specs.MappedSelection.{IsImage}
use Rattle.zarrs_data_type.specs.ElementType.{ElementType}
use Rattle.zarrs_metadata.specs.Metadata.{has_no_float}
use Rattle.zarrs_array_to_array.proofs.BoxPlaces.{KeepsBox}

-- Its errors are no faults of a handle; what it does is a coordinate map, and what it asks for selects the same elements in the same order; where places stay, each does; a box goes to the sizes of the moved chunk, and keeps its elements, which stay in their order where places stay and are else moved as a chunk of the box's own lengths; where there are no boxes of boxes, places stay; a box of a chunk that it accepts is one as a chunk of its own; and no number that is written is a float.
pub record IsLawfulArray (codec : ArrayMeaning) : Type 0 where
  pub taken_no_fault : (type : ElementType) → is_fault (codec.takes type) ≡ false
  pub map_no_fault : (sizes : List ℕ) → is_fault (codec.coordinates sizes) ≡ false
  pub map_is : (sizes : List ℕ) (m : CoordinateMap) → codec.Sound → All (λ size. 0 < size) sizes → codec.coordinates sizes ≡ Ok m → IsCoordinateMap sizes m
  pub image_is : (sizes : List ℕ) (m : CoordinateMap) (selection : Selection) → codec.Sound → codec.coordinates sizes ≡ Ok m → bounds_of selection sizes ≡ Ok tt → IsImage sizes m selection (codec.asked sizes m.encoded selection)
  pub stays_to : (sizes : List ℕ) (m : CoordinateMap) (place : ℕ) → codec.keeps_places ≡ true → codec.coordinates sizes ≡ Ok m → m.to place ≡ place
  pub stays_from : (sizes : List ℕ) (m : CoordinateMap) (place : ℕ) → codec.keeps_places ≡ true → codec.coordinates sizes ≡ Ok m → m.from place ≡ place
  pub box_sizes : (sizes : List ℕ) (m : CoordinateMap) (boxes : BoxMap) (region : Region) → codec.coordinates sizes ≡ Ok m → codec.boxes ≡ Some boxes → m.encoded ≡ (boxes sizes region).0
  pub box_kept : (sizes : List ℕ) (m : CoordinateMap) (boxes : BoxMap) (region : Region) → codec.Sound → codec.coordinates sizes ≡ Ok m → codec.boxes ≡ Some boxes → is_box_inside sizes region.starts region.lengths ≡ true
      → KeepsBox sizes m region (boxes sizes region) (if codec.keeps_places then same_places (boxes sizes region).1.lengths else codec.part region.lengths)
  pub boxes_or_places : codec.boxes ≡ None → codec.keeps_places ≡ true
  pub part_fits : (sizes lengths : List ℕ) → length lengths ≡ length sizes → is_ok (codec.coordinates sizes) ≡ true → codec.keeps_places ≡ false → codec.coordinates lengths ≡ Ok (codec.part lengths)
  pub clean : codec.Sound → has_no_float (Some codec.configuration) ≡ true
