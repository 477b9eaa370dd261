-- Codecs keep windows of the chunk's own sizes.
use Rattle.std.proofs.Common.{◌≡◌, ◌^◌, ℕ, ◌<◌, Bool, true, if◌then◌else◌, Option, Some, None, List, length, get_or, Ok, refl, ap, ◌∙◌, sym, subst, arith}
use Rattle.std.specs.Prelude.{option_map}
use Rattle.std.proofs.lemmas.Bool.{lt-ltb}
use Rattle.zarrs_chunk.specs.ChunkShape.{product}
use Rattle.zarrs_chunk.specs.Region.{Region}
use Rattle.zarrs_chunk.specs.Selection.{subset, places_of}
use Rattle.zarrs_chunk.specs.Tuples.{is_box_inside}
use Rattle.zarrs_chunk.proofs.Products.{product_positive}
use Rattle.zarrs_codec.specs.CoordinateMap.{CoordinateMap, same_places}
use Rattle.zarrs_array_to_array.specs.ArrayMeaning.{BoxMap}
use Rattle.zarrs_array_to_array.specs.ArrayToArrayCodec.{ArrayMapping, IsMapping, array_meaning, coordinates, keeps_places}
use Rattle.zarrs_array_to_array.specs.EncodedBoxes.{part_moves}
use Rattle.zarrs_array_to_array.proofs.AnswerSteps.{some_is}
use Rattle.zarrs_array_to_array.proofs.ArrayLaws.{array_laws}
use Rattle.zarrs_array_to_array.proofs.BoxNumbers.{factors_positive}
use Rattle.zarrs_array_to_array.proofs.BoxPlaces.{KeepsBox, bounds_from}
use Rattle.zarrs_array_to_array.proofs.CoordinateMaps.{same_places_map}
use Rattle.zarrs_array_regions.specs.declared.window.Window.{Window}
use Rattle.zarrs_array_regions.specs.Windows.{IsWindow, KeepsWindow, behind_window, window_of, window_places, next_window, part_map}
use Rattle.zarrs_array_regions.proofs.WindowMaps.{places_count}

-- ---- places that stay

-- a window with the same places, where the places that count stay
pub same_keeps : (count : ℕ) (m : CoordinateMap) (window next : Window) → ((place : ℕ) → m.to place ≡ place) → IsWindow count window → IsWindow count next → window_places next ≡ window_places window → KeepsWindow count m window next (same_places next.region.lengths)
same_keeps count m window next stay is next_is same =
    let counts : product next.region.lengths ≡ product window.region.lengths = sym (places_count count next next_is) ∙ ap length same ∙ places_count count window is in
    record {
      next_is = next_is;
      part_is = same_places_map window.region.lengths next.region.lengths counts (λ p. factors_positive next.region.lengths (let q = product_positive window.region.lengths p in omega (arith, q, counts)));
      lengths = refl;
      places = λ k l. ap (λ ps. get_or ps k 0) same ∙ sym (stay (get_or (window_places window) k 0));
    }

-- ---- regions

-- the places of a region inside are those of its window
pub places_are : (sizes : List ℕ) (region : Region) → is_box_inside sizes region.starts region.lengths ≡ true → product sizes < 2 ^ 64 → places_of (subset region) sizes ≡ Ok (window_places (window_of sizes region))
places_are sizes region h l = rw (bounds_from sizes region h, lt-ltb (product sizes) (2 ^ 64) l) refl

-- ---- codecs

-- the window of a box that keeps its elements
pub box_window : (sizes : List ℕ) (m : CoordinateMap) (region : Region) (there : List ℕ × Region) (part : CoordinateMap) → KeepsBox sizes m region there part → KeepsWindow (product sizes) m (window_of sizes region) (window_of there.0 there.1) part
box_window sizes m region there part keeps = record {
  next_is = record { count_is = keeps.count; inside = keeps.inside };
  part_is = keeps.part_is;
  lengths = keeps.lengths;
  places = keeps.places;
}

-- the window that boxes take this one to, where there are some
abbrev taken_to : Option BoxMap → List ℕ → Region → Option Window
taken_to found sizes region = option_map (λ there. window_of there.0 there.1) (option_map (λ boxes. boxes sizes region) found)

kept_by : (sizes : List ℕ) (m : CoordinateMap) (region : Region) (next : Window) (stay : Bool) (part : CoordinateMap) (found : Option BoxMap)
    → ((boxes : BoxMap) → found ≡ Some boxes → KeepsBox sizes m region (boxes sizes region) (if stay then same_places (boxes sizes region).1.lengths else part))
    → taken_to found sizes region ≡ Some next
    → KeepsWindow (product sizes) m (window_of sizes region) next (if stay then same_places (behind_window (taken_to found sizes region) region.lengths (λ there. there.region.lengths)) else part)
kept_by sizes m region next stay part None keeps e = absurd (cc)
kept_by sizes m region next stay part (Some boxes) keeps e =
    let there : Window = window_of (boxes sizes region).0 (boxes sizes region).1 in
    let moved : CoordinateMap = if stay then same_places there.region.lengths else part in
    subst (λ w. KeepsWindow (product sizes) m (window_of sizes region) w moved) (some_is there next e) (box_window sizes m region (boxes sizes region) moved (keeps boxes refl))

pub codec_keeps : (codec : ArrayMapping) (sizes : List ℕ) (region : Region) (m : CoordinateMap) (next : Window) → IsMapping codec → coordinates codec sizes ≡ Ok m → is_box_inside sizes region.starts region.lengths ≡ true → next_window codec (window_of sizes region) ≡ Some next
    → KeepsWindow (product sizes) m (window_of sizes region) next (part_map codec (window_of sizes region))
codec_keeps codec sizes region m next is h inside e =
    kept_by sizes m region next (keeps_places codec) (part_moves codec region.lengths) (array_meaning codec).boxes (λ boxes f. (array_laws codec).box_kept sizes m boxes region is h f inside) e
