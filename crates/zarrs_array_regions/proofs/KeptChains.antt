-- Chains of codecs keep regions.
use Rattle.std.proofs.Common.{◌≡◌, ℕ, suc, ◌<◌, true, Option, Some, None, List, [], ◌∷◌, if◌then◌else◌, Ok, arith, refl, ap, ◌∙◌, sym, subst}
use Rattle.std.specs.List.{All, list_all}
use Rattle.std.specs.Prelude.{is_some, option_map}
use Rattle.std.proofs.lemmas.Bool.{and_from, and_parts}
use Rattle.zarrs_chunk.specs.Answer.{◌>>=◌}
use Rattle.zarrs_chunk.specs.ChunkShape.{product}
use Rattle.zarrs_chunk.specs.Region.{Region}
use Rattle.zarrs_chunk.specs.Tuples.{is_box_inside}
use Rattle.zarrs_codec.specs.CoordinateMap.{CoordinateMap, same_places, composition}
use Rattle.zarrs_array_to_array.specs.ArrayToArrayCodec.{ArrayMapping, IsMapping, array_meaning, coordinates, chained, keeps_places}
use Rattle.zarrs_array_to_array.specs.ArrayMeaning.{BoxMap}
use Rattle.zarrs_array_to_array.proofs.AnswerSteps.{step_ok}
use Rattle.zarrs_array_to_array.proofs.ArrayLaws.{array_laws}
use Rattle.zarrs_array_to_array.proofs.Chains.{codec_map}
use Rattle.zarrs_array_regions.specs.declared.window.Window.{Window}
use Rattle.zarrs_array_regions.specs.KeptRegions.{keeps_regions}
use Rattle.zarrs_array_regions.specs.Windows.{KeepsWindow, window_of, next_window, part_map, behind_window, last_window, region_map}
use Rattle.zarrs_array_regions.proofs.WindowMaps.{windows_compose, here_is}
use Rattle.zarrs_array_to_array.proofs.SameMaps.{same_map}
use Rattle.zarrs_array_regions.proofs.KeptWindows.{codec_keeps, same_keeps}

-- ---- places that stay

pub places_stay : (codecs : List ArrayMapping) (sizes : List ℕ) (m : CoordinateMap) (place : ℕ) → list_all keeps_places codecs ≡ true → chained codecs sizes ≡ Ok m → m.to place ≡ place
places_stay [] sizes m place h e = ap (λ (x : CoordinateMap). x.to place) (sym (same_map m (same_places sizes) e))
places_stay (codec ∷ codecs) sizes m place h e =
    let both = and_parts (keeps_places codec) (list_all keeps_places codecs) h in
    let first = step_ok (coordinates codec sizes) (λ f. chained codecs f.encoded >>= λ rest. Ok (composition f rest)) m e in
    let rest = step_ok (chained codecs first.0.encoded) (λ rest. Ok (composition first.0 rest)) m first.2 in
    ap (λ (x : CoordinateMap). x.to place) (sym (same_map m (composition first.0 rest.0) rest.2))
    ∙ places_stay codecs first.0.encoded rest.0 (first.0.to place) both.1 rest.1
    ∙ (array_laws codec).stays_to sizes first.0 place both.0 first.1

-- ---- the next window has the sizes of the moved chunk

-- the next window by where boxes go
abbrev pub next_of : Option BoxMap → Window → Option Window
next_of boxes window = option_map (λ there. window_of there.0 there.1) (option_map (λ boxes. boxes window.sizes window.region) boxes)

pub next_sizes : (codec : ArrayMapping) (sizes : List ℕ) (region : Region) (m : CoordinateMap) (next : Window) → coordinates codec sizes ≡ Ok m → next_window codec (window_of sizes region) ≡ Some next → m.encoded ≡ next.sizes
next_sizes codec sizes region m next h e = by (array_meaning codec).boxes refl e
  where
    by : (boxes : Option BoxMap) → (array_meaning codec).boxes ≡ boxes → next_of boxes (window_of sizes region) ≡ Some next → m.encoded ≡ next.sizes
    by None is e = absurd (cc)
    by (Some boxes) is e = (array_laws codec).box_sizes sizes m boxes region h is ∙ ap (λ (o : Option Window). behind_window o sizes (λ w. w.sizes)) e

-- codecs behind one that has a next window
rest_keeps : (codec : ArrayMapping) (codecs : List ArrayMapping) (window next : Window) → next_window codec window ≡ Some next → keeps_regions (codec ∷ codecs) ≡ true → keeps_regions codecs ≡ true
rest_keeps codec codecs window next e h = by (array_meaning codec).boxes e h
  where
    by : (boxes : Option BoxMap) → next_of boxes window ≡ Some next → (if is_some boxes then keeps_regions codecs else list_all keeps_places codecs) ≡ true → keeps_regions codecs ≡ true
    by None e h = absurd (cc)
    by (Some boxes) e h = h

-- a codec without one, and all behind it, leave places where they are
all_stay : (codec : ArrayMapping) (codecs : List ArrayMapping) (window : Window) → next_window codec window ≡ None → keeps_regions (codec ∷ codecs) ≡ true → list_all keeps_places (codec ∷ codecs) ≡ true
all_stay codec codecs window e h = by (array_meaning codec).boxes refl e h
  where
    by : (boxes : Option BoxMap) → (array_meaning codec).boxes ≡ boxes → next_of boxes window ≡ None → (if is_some boxes then keeps_regions codecs else list_all keeps_places codecs) ≡ true → list_all keeps_places (codec ∷ codecs) ≡ true
    by None is e h = and_from (keeps_places codec) (list_all keeps_places codecs) ((array_laws codec).boxes_or_places is) h
    by (Some boxes) is e h = absurd (cc)

-- ---- chains

-- what is to be shown of a region and codecs that do this
abbrev pub ChainKeeps : List ArrayMapping → List ℕ → CoordinateMap → Region → Type 0
ChainKeeps codecs sizes m region = KeepsWindow (product sizes) m (window_of sizes region) (last_window codecs (window_of sizes region)) (region_map codecs (window_of sizes region))

-- one codec before others
module _ (codec : ArrayMapping) (codecs : List ArrayMapping) (sizes : List ℕ) (m : CoordinateMap) (region : Region) (mapping : IsMapping codec) (positive : All (λ size. 0 < size) sizes) (h : chained (codec ∷ codecs) sizes ≡ Ok m) (kept : keeps_regions (codec ∷ codecs) ≡ true) (inside : is_box_inside sizes region.starts region.lengths ≡ true)
    (more : (next_sizes : List ℕ) (rest : CoordinateMap) (next : Region) → All (λ size. 0 < size) next_sizes → chained codecs next_sizes ≡ Ok rest → keeps_regions codecs ≡ true → is_box_inside next_sizes next.starts next.lengths ≡ true → ChainKeeps codecs next_sizes rest next) where
  stays_here : next_window codec (window_of sizes region) ≡ None → KeepsWindow (product sizes) m (window_of sizes region) (window_of sizes region) (same_places region.lengths)
  stays_here e =
      let is = here_is sizes region inside in
      same_keeps (product sizes) m (window_of sizes region) (window_of sizes region) (λ place. places_stay (codec ∷ codecs) sizes m place (all_stay codec codecs (window_of sizes region) e kept) h) is is refl

  goes_on : (next : Window) → next_window codec (window_of sizes region) ≡ Some next → KeepsWindow (product sizes) m (window_of sizes region) (last_window codecs next) (composition (part_map codec (window_of sizes region)) (region_map codecs next))
  goes_on next e =
      let first = step_ok (coordinates codec sizes) (λ f. chained codecs f.encoded >>= λ rest. Ok (composition f rest)) m h in
      let rest = step_ok (chained codecs first.0.encoded) (λ rest. Ok (composition first.0 rest)) m first.2 in
      let one = codec_map codec sizes first.0 mapping positive first.1 in
      let keeps = codec_keeps codec sizes region first.0 next mapping first.1 inside e in
      let same : first.0.encoded ≡ next.sizes = next_sizes codec sizes region first.0 next first.1 e in
      let there : chained codecs next.sizes ≡ Ok rest.0 = ap (chained codecs) (sym same) ∙ rest.1 in
      let further = more next.sizes rest.0 next.region (subst (All (λ size. 0 < size)) same (one.positive positive)) there (rest_keeps codec codecs (window_of sizes region) next e kept) keeps.next_is.inside in
      let both = windows_compose (product sizes) first.0 rest.0 (window_of sizes region) next (last_window codecs next) (part_map codec (window_of sizes region)) (region_map codecs next) keeps (subst (λ n. KeepsWindow n rest.0 next (last_window codecs next) (region_map codecs next)) keeps.next_is.count_is further) in
      subst (λ x. KeepsWindow (product sizes) x (window_of sizes region) (last_window codecs next) (composition (part_map codec (window_of sizes region)) (region_map codecs next))) (same_map m (composition first.0 rest.0) rest.2) both

  one_more : (o : Option Window) → next_window codec (window_of sizes region) ≡ o
      → KeepsWindow (product sizes) m (window_of sizes region) (behind_window o (window_of sizes region) (last_window codecs)) (behind_window o (same_places region.lengths) (λ next. composition (part_map codec (window_of sizes region)) (region_map codecs next)))
  one_more None e = stays_here e
  one_more (Some next) e = goes_on next e

pub chain_keeps : (codecs : List ArrayMapping) (sizes : List ℕ) (m : CoordinateMap) (region : Region) → All IsMapping codecs → All (λ size. 0 < size) sizes → chained codecs sizes ≡ Ok m → keeps_regions codecs ≡ true → is_box_inside sizes region.starts region.lengths ≡ true → ChainKeeps codecs sizes m region
chain_keeps [] sizes m region are positive h kept inside =
    let window = window_of sizes region in
    let is = here_is sizes region inside in
    same_keeps (product sizes) m window window (λ place. places_stay [] sizes m place refl h) is is refl
chain_keeps (codec ∷ codecs) sizes m region are positive h kept inside =
    one_more codec codecs sizes m region (are 0 codec (omega arith)) positive h kept inside
    (λ next_sizes rest next. chain_keeps codecs next_sizes rest next (λ k d l. are (suc k) d (omega arith)))
    (next_window codec (window_of sizes region)) refl

-- ---- the last window

-- the window lies inside its own sizes, and has as many elements as the region
pub record IsLastWindow (region : Region) (last : Window) : Type 0 where
  pub inside : is_box_inside last.sizes last.region.starts last.region.lengths ≡ true
  pub count : product last.region.lengths ≡ product region.lengths

-- such is the window that codecs which keep regions take this one to
pub last_inside : (codecs : List ArrayMapping) (sizes : List ℕ) (m : CoordinateMap) (region : Region) → All IsMapping codecs → All (λ size. 0 < size) sizes → chained codecs sizes ≡ Ok m → keeps_regions codecs ≡ true → is_box_inside sizes region.starts region.lengths ≡ true
    → IsLastWindow region (last_window codecs (window_of sizes region))
last_inside codecs sizes m region are positive h kept inside =
    let keeps = chain_keeps codecs sizes m region are positive h kept inside in
    record { inside = keeps.next_is.inside; count = ap product (sym keeps.lengths) ∙ keeps.part_is.count }
