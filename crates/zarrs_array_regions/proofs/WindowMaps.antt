-- Windows go with coordinate maps.
use Rattle.std.proofs.Common.{◌≡◌, ◌≢◌, ℕ, zero, suc, ◌+◌, ◌<◌, ◌≤◌, true, List, [], ◌∷◌, length, get_or, map, arith, refl, ap, ◌∙◌, sym, subst}
use Rattle.std.specs.List.{All, range_with_len}
use Rattle.std.proofs.lemmas.List.{length-map, get_or-map}
use Rattle.std.proofs.lemmas.Simd.{map-map}
use Rattle.zarrs_chunk.specs.ChunkShape.{product}
use Rattle.zarrs_chunk.specs.Region.{Region}
use Rattle.zarrs_chunk.specs.Tuples.{row_major, box_tuples, is_box_inside}
use Rattle.zarrs_chunk.proofs.Inside.{is_box_inside-lengths}
use Rattle.zarrs_chunk.proofs.Rising.{Rises, Rises-box, Rises-below}
use Rattle.zarrs_data_type.specs.Element.{absent, Chunk}
use Rattle.zarrs_array_bytes.specs.Elements.{select}
use Rattle.zarrs_array_bytes.specs.Update.{update}
use Rattle.zarrs_codec.specs.CoordinateMap.{CoordinateMap, IsCoordinateMap, composition, inverse_map, moved_chunk}
use Rattle.zarrs_array_to_array.proofs.BoxPlaces.{length-window_places}
use Rattle.zarrs_array_to_array.proofs.CoordinateMaps.{composed_map, moved_select, moved_update}
use Rattle.zarrs_array_regions.specs.declared.window.Window.{Window}
use Rattle.zarrs_array_regions.specs.Windows.{IsWindow, KeepsWindow, window_of, window_places}
use Rattle.zarrs_array_regions.proofs.Rearranged.{rearranged, is_rearranged, map-rearranged, update_rearranged}

-- ---- what all windows have

rises_apart : (low high : ℕ) (xs : List ℕ) → Rises low high xs → (i j : ℕ) → i < j → j < length xs → get_or xs i 0 ≢ get_or xs j 0
rises_apart low high [] r = λ i j l m. absurd (omega arith)
rises_apart low high (x ∷ xs) r = λ i j.
    elim i as (λ i. i < j → j < length (x ∷ xs) → get_or (x ∷ xs) i 0 ≢ get_or (x ∷ xs) j 0) [
      | zero ↦ (λ l m e. first j l m e)
      | suc i ↦ (λ l m e. later (rises_apart (x + 1) high xs r.2) i j l m e)
    ]
  where
    above : (low high : ℕ) (xs : List ℕ) → Rises low high xs → (j : ℕ) → j < length xs → low ≤ get_or xs j 0
    above low high [] r = λ j l. absurd (omega arith)
    above low high (x ∷ xs) r = λ j.
        elim j as (λ j. j < length (x ∷ xs) → low ≤ get_or (x ∷ xs) j 0) [
          | zero ↦ (λ l. r.0)
          | suc j ↦ (λ l. let more = above (x + 1) high xs r.2 j (omega arith) in omega (arith, more, r.0))
        ]

    first : (j : ℕ) → 0 < j → j < length (x ∷ xs) → x ≡ get_or (x ∷ xs) j 0 → ⊥
    first zero l m e = absurd (omega arith)
    first (suc j) l m e = let more = above (x + 1) high xs r.2 j (omega arith) in omega (arith, more, e)

    later : ((i j : ℕ) → i < j → j < length xs → get_or xs i 0 ≢ get_or xs j 0) → (i j : ℕ) → suc i < j → j < length (x ∷ xs) → get_or xs i 0 ≡ get_or (x ∷ xs) j 0 → ⊥
    later rest i zero l m e = absurd (omega arith)
    later rest i (suc j) l m e = rest i j (omega arith) (omega arith) e

pub places_apart : (sizes starts lengths : List ℕ) → is_box_inside sizes starts lengths ≡ true → (i j : ℕ) → i < j → j < product lengths → get_or (map (row_major sizes) (box_tuples starts lengths)) i 0 ≢ get_or (map (row_major sizes) (box_tuples starts lengths)) j 0
places_apart sizes starts lengths h i j l m =
    let axes = is_box_inside-lengths sizes starts lengths h in
    let count = length-window_places sizes starts lengths (axes.0 ∙ sym axes.1) in
    rises_apart 0 (product sizes) (map (row_major sizes) (box_tuples starts lengths)) (Rises-box sizes starts lengths h) i j l (omega (arith, count))

pub window_below : (count : ℕ) (window : Window) → IsWindow count window → All (λ place. place < count) (window_places window)
window_below count window is =
    subst (λ n. All (λ place. place < n) (window_places window)) is.count_is (Rises-below 0 (product window.sizes) (window_places window) (Rises-box window.sizes window.region.starts window.region.lengths is.inside))

pub window_axes : (count : ℕ) (window : Window) → IsWindow count window → length window.region.starts ≡ length window.region.lengths
window_axes count window is =
    let axes = is_box_inside-lengths window.sizes window.region.starts window.region.lengths is.inside in axes.0 ∙ sym axes.1

pub places_count : (count : ℕ) (window : Window) → IsWindow count window → length (window_places window) ≡ product window.region.lengths
places_count count window is = length-window_places window.sizes window.region.starts window.region.lengths (window_axes count window is)

-- ---- windows that are kept

-- where the places of a window go is a rearrangement of those of the next one
pub kept_places_are : (count : ℕ) (m : CoordinateMap) (window next : Window) (part : CoordinateMap) → IsWindow count window → KeepsWindow count m window next part → map m.to (window_places window) ≡ rearranged part.to (product window.region.lengths) 0 (window_places next)
kept_places_are count m window next part is keeps =
    let n = places_count count window is in
    is_rearranged part.to (product window.region.lengths) 0 (window_places next) (map m.to (window_places window)) (length-map (window_places window) m.to ∙ n)
    (λ k l. keeps.places k l ∙ sym (get_or-map m.to (window_places window) k 0 0 (omega (arith, n))))

-- the elements of a window's own chunk, moved back and moved, are rearrangements
pub moved_back_is : (lengths : List ℕ) (part : CoordinateMap) (chunk : Chunk) → moved_chunk (inverse_map lengths part) chunk ≡ rearranged part.to (product lengths) absent chunk
moved_back_is lengths part chunk = map-map (λ place. get_or chunk place absent) part.to (range_with_len 0 (product lengths))

pub moved_is : (count : ℕ) (part : CoordinateMap) (chunk : Chunk) → product part.encoded ≡ count → moved_chunk part chunk ≡ rearranged part.from count absent chunk
moved_is count part chunk e = map-map (λ place. get_or chunk place absent) part.from (range_with_len 0 (product part.encoded)) ∙ ap (λ n. rearranged part.from n absent chunk) e

pub next_count : (count : ℕ) (m : CoordinateMap) (window next : Window) (part : CoordinateMap) → KeepsWindow count m window next part → length (window_places next) ≡ product window.region.lengths
next_count count m window next part keeps = places_count count next keeps.next_is ∙ ap product (sym keeps.lengths) ∙ keeps.part_is.count

pub windows_select : (sizes : List ℕ) (m : CoordinateMap) (window next : Window) (part : CoordinateMap) (chunk : Chunk) → IsCoordinateMap sizes m → IsWindow (product sizes) window → KeepsWindow (product sizes) m window next part
    → select chunk (window_places window) ≡ moved_chunk (inverse_map window.region.lengths part) (select (moved_chunk m chunk) (window_places next))
windows_select sizes m window next part chunk is_map is keeps =
    let n : ℕ = product window.region.lengths in
    let counted = next_count (product sizes) m window next part keeps in
    sym (moved_select sizes m chunk (window_places window) is_map (window_below (product sizes) window is))
    ∙ ap (select (moved_chunk m chunk)) (kept_places_are (product sizes) m window next part is keeps)
    ∙ map-rearranged (λ place. get_or (moved_chunk m chunk) place absent) part.to n 0 absent (window_places next) (λ k l. let below = keeps.part_is.places.to_below k l in omega (arith, below, counted))
    ∙ sym (moved_back_is window.region.lengths part (select (moved_chunk m chunk) (window_places next)))

pub moved_apart : (sizes : List ℕ) (m : CoordinateMap) (window : Window) → IsCoordinateMap sizes m → IsWindow (product sizes) window → (i j : ℕ) → i < j → j < product window.region.lengths → get_or (map m.to (window_places window)) i 0 ≢ get_or (map m.to (window_places window)) j 0
moved_apart sizes m window is_map is i j l k e =
    let n = places_count (product sizes) window is in
    let below = window_below (product sizes) window is in
    let i_in : i < length (window_places window) = omega (arith, n) in
    let j_in : j < length (window_places window) = omega (arith, n) in
    let same : m.to (get_or (window_places window) i 0) ≡ m.to (get_or (window_places window) j 0) = sym (get_or-map m.to (window_places window) i 0 0 i_in) ∙ e ∙ get_or-map m.to (window_places window) j 0 0 j_in in
    places_apart window.sizes window.region.starts window.region.lengths is.inside i j l k
    (sym (is_map.places.from_to (get_or (window_places window) i 0) (below i 0 i_in)) ∙ ap m.from same ∙ is_map.places.from_to (get_or (window_places window) j 0) (below j 0 j_in))

pub windows_update : (sizes : List ℕ) (m : CoordinateMap) (window next : Window) (part : CoordinateMap) (chunk new : Chunk) → IsCoordinateMap sizes m → IsWindow (product sizes) window → KeepsWindow (product sizes) m window next part → length chunk ≡ product sizes → length new ≡ product window.region.lengths
    → update (moved_chunk m chunk) (window_places next) (moved_chunk part new) ≡ moved_chunk m (update chunk (window_places window) new)
windows_update sizes m window next part chunk new is_map is keeps e e_new =
    let n : ℕ = product window.region.lengths in
    let counted = places_count (product sizes) window is in
    ap (update (moved_chunk m chunk) (window_places next)) (moved_is n part new keeps.part_is.count)
    ∙ update_rearranged n part.to part.from keeps.part_is.places absent (moved_chunk m chunk) (map m.to (window_places window)) (window_places next) new
    (length-map (window_places window) m.to ∙ counted) (next_count (product sizes) m window next part keeps) e_new
    (moved_apart sizes m window is_map is)
    (λ k l. keeps.places k l ∙ sym (get_or-map m.to (window_places window) k 0 0 (omega (arith, counted))))
    ∙ sym (moved_update sizes m chunk (window_places window) new is_map e (window_below (product sizes) window is))

-- one map after another
pub windows_compose : (count : ℕ) (first second : CoordinateMap) (window middle next : Window) (part rest : CoordinateMap) → KeepsWindow count first window middle part → KeepsWindow count second middle next rest
    → KeepsWindow count (composition first second) window next (composition part rest)
windows_compose count first second window middle next part rest h g =
    let rest_is : IsCoordinateMap part.encoded rest = subst (λ s. IsCoordinateMap s rest) (sym h.lengths) g.part_is in
    let same : product middle.region.lengths ≡ product window.region.lengths = ap product (sym h.lengths) ∙ h.part_is.count in
    record {
      next_is = g.next_is;
      part_is = composed_map window.region.lengths part rest h.part_is rest_is;
      lengths = g.lengths;
      places = λ k l. g.places (part.to k) (let below = h.part_is.places.to_below k l in omega (arith, below, same)) ∙ ap second.to (h.places k l);
    }

pub here_is : (sizes : List ℕ) (region : Region) → is_box_inside sizes region.starts region.lengths ≡ true → IsWindow (product sizes) (window_of sizes region)
here_is sizes region h = record { count_is = refl; inside = h }
