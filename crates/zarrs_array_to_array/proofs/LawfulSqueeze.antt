-- What holds of `squeeze`.
use Rattle.std.proofs.Common.{◌≡◌, ℕ, true, Some, List, Ok, refl, ap, sym, ◌∙◌}
use Rattle.std.proofs.lemmas.List.{map-id}
use Rattle.zarrs_chunk.specs.Region.{Region}
use Rattle.zarrs_chunk.specs.Tuples.{is_box_inside}
use Rattle.zarrs_codec.specs.CoordinateMap.{CoordinateMap, same_places}
use Rattle.zarrs_array_to_array.specs.ArrayMeaning.{BoxMap}
use Rattle.zarrs_array_to_array.specs.Squeeze.{squeezed}
use Rattle.zarrs_array_to_array.specs.SqueezedBoxes.{squeezed_region}
use Rattle.zarrs_array_to_array.specs.SqueezeMeaning.{squeeze_box, squeeze_coordinates, squeeze_meaning}
use Rattle.zarrs_array_to_array.proofs.AnswerSteps.{some_is}
use Rattle.zarrs_array_to_array.proofs.BoxPlaces.{KeepsBox, bounds_from, box_places, same_box}
use Rattle.zarrs_array_to_array.proofs.CoordinateMaps.{same_places_map}
use Rattle.zarrs_array_to_array.proofs.Images.{squeezed_box_inside, squeezed_image, squeezed_image_subset}
use Rattle.zarrs_array_to_array.proofs.LawfulArray.{IsLawfulArray}
use Rattle.zarrs_array_to_array.proofs.SameMaps.{same_map}
use Rattle.zarrs_array_to_array.proofs.Squeezing.{product-squeezed, positive-squeezed}

squeezing_is : (sizes : List ℕ) (m : CoordinateMap) → squeeze_coordinates sizes ≡ Ok m → same_places (squeezed sizes) ≡ m
squeezing_is sizes m h = same_map m (same_places (squeezed sizes)) h

pub squeezed_places : (sizes : List ℕ) (region : Region) → is_box_inside sizes region.starts region.lengths ≡ true → box_places (squeezed sizes) (squeezed_region sizes region) ≡ box_places sizes region
squeezed_places sizes region h = (squeezed_image_subset sizes region (bounds_from sizes region h)).places ∙ map-id (box_places sizes region)

squeezed_box_kept : (sizes : List ℕ) (region : Region) → is_box_inside sizes region.starts region.lengths ≡ true
    → KeepsBox sizes (same_places (squeezed sizes)) region (squeeze_box sizes region) (same_places (squeeze_box sizes region).1.lengths)
squeezed_box_kept sizes region h =
    same_box sizes (same_places (squeezed sizes)) region (squeeze_box sizes region) (λ place. refl) (product-squeezed sizes) h (squeezed_box_inside sizes region.starts region.lengths h) (squeezed_places sizes region h)

pub squeeze_laws : IsLawfulArray squeeze_meaning
squeeze_laws = record {
  taken_no_fault = λ type. refl;
  map_no_fault = λ sizes. refl;
  map_is = λ sizes m sound positive h. rw (← squeezing_is sizes m h) (same_places_map sizes (squeezed sizes) (product-squeezed sizes) (λ p. positive-squeezed sizes p));
  image_is = λ sizes m selection sound h inside. rw (← squeezing_is sizes m h) (squeezed_image sizes selection inside);
  stays_to = λ sizes m place keeps h. ap (λ (x : CoordinateMap). x.to place) (sym (squeezing_is sizes m h));
  stays_from = λ sizes m place keeps h. ap (λ (x : CoordinateMap). x.from place) (sym (squeezing_is sizes m h));
  box_sizes = λ sizes m boxes region h e. ap (λ (x : CoordinateMap). x.encoded) (sym (squeezing_is sizes m h)) ∙ boxes_at sizes region boxes e;
  box_kept = λ sizes m boxes region sound h e inside. rw (← squeezing_is sizes m h, ← some_is squeeze_box boxes e) (squeezed_box_kept sizes region inside);
  boxes_or_places = λ e. absurd (cc);
  part_fits = λ sizes lengths e h keeps. absurd (cc);
  clean = λ sound. refl;
}
  where
    boxes_at : (sizes : List ℕ) (region : Region) (boxes : BoxMap) → squeeze_meaning.boxes ≡ Some boxes → squeezed sizes ≡ (boxes sizes region).0
    boxes_at sizes region boxes e = ap (λ (box : BoxMap). (box sizes region).0) (some_is squeeze_box boxes e)
