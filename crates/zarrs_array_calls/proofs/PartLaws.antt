-- Parts put into a region's bytes, and taken out of them.
use Rattle.std.proofs.Common.{◌≡◌, ◌∙◌, ℕ, ◌*◌, Ok, List, [], ◌∷◌, length, map, get_or, arith, ap, sym, subst}
use Rattle.std.specs.List.{All, concat}
use Rattle.std.proofs.lemmas.List.{length-map}
use Rattle.std.proofs.lemmas.List.Elements.{All-head, All-tail}
use Rattle.std.proofs.lemmas.List.FromFn.{get_or-map-range_with_len}
use Rattle.zarrs_chunk.specs.ChunkShape.{product}
use Rattle.zarrs_chunk.specs.Tuples.{box_tuples}
use Rattle.zarrs_array_bytes.specs.Elements.{piece}
use Rattle.zarrs_array_bytes.specs.Pieces.{pieces, pieces_at}
use Rattle.zarrs_array_bytes.specs.Update.{update}
use Rattle.zarrs_array_bytes.proofs.OffsetLemmas.{flat_map-concat}
use Rattle.zarrs_array_bytes.proofs.Pieces.{AllSized, length-pieces, pieces_sized, pieces-concat, length-concat}
use Rattle.zarrs_array_bytes.proofs.UpdatedLemmas.{update_sized}
use Rattle.zarrs_array_bytes.proofs.WriteLemmas.{length-update}
use Rattle.zarrs_grid.specs.JoinedParts.{HasChunks}
use Rattle.zarrs_grid.specs.Parts.{starts_in_chunk, part_lengths}
use Rattle.zarrs_grid.specs.RegionElements.{elements_of_part, places_in_region, chunk_element}
use Rattle.zarrs_grid.specs.RegionWrites.{new_of_part}
use Rattle.zarrs_grid.proofs.Cut.{listed_touches}
use Rattle.zarrs_grid.proofs.PartPlaces.{length-places, length-elements}
use Rattle.zarrs_grid.proofs.PartsJoined.{part_joined}
use Rattle.zarrs_array_calls.specs.ArrayLaws.{PutsAreJoined, PartsAreTaken}
use Rattle.zarrs_array_calls.proofs.PlanLemmas.{map_by}
use Rattle.zarrs_array_calls.proofs.PartNumbers.{places_are, places_inside}

-- ---- elements of one size

map_sized : {X : Type 0} (f : X → List ℕ) (size : ℕ) (xs : List X) → ((x : X) → length (f x) ≡ size) → AllSized size (map f xs)
map_sized f size [] h = tt
map_sized f size (x ∷ xs) h = (h x, map_sized f size xs h)

all_sized : (size : ℕ) (parts : List (List ℕ)) → All (λ (part : List ℕ). length part ≡ size) parts → AllSized size parts
all_sized size [] h = tt
all_sized size (part ∷ parts) h =
    (All-head (λ (p : List ℕ). length p ≡ size) part parts h, all_sized size parts (All-tail (λ (p : List ℕ). length p ≡ size) part parts h))

-- ---- puts

pub puts_joined : PutsAreJoined
puts_joined size element chunk_shape region chunk chunks bytes own sized held =
    let count = product region.lengths in
    let places = places_in_region chunk_shape region chunk in
    let new : List (List ℕ) = elements_of_part element chunk_shape region chunk in
    let touches = listed_touches chunk_shape region chunk own.grid own.touched in
    let as_many : length new ≡ length places =
    length-elements chunk_shape chunk region.starts region.lengths touches (chunk_element element chunk_shape chunk)
    ∙ sym (length-places chunk_shape chunk region.starts region.lengths touches) in
    let new_sized : AllSized size new = map_sized (chunk_element element chunk_shape chunk) size
    (box_tuples (starts_in_chunk chunk_shape chunk region.starts) (part_lengths chunk_shape chunk region.starts region.lengths)) (λ tuple. sized _) in
    let fit : length (concat new) ≡ length places * size = length-concat size new new_sized ∙ ap (λ n. n * size) as_many in
    let again : pieces size (length places) (concat new) ≡ new = ap (λ n. pieces size n (concat new)) (sym as_many) ∙ pieces-concat size new new_sized in
    let old : List (List ℕ) = pieces size count bytes in
    let old_sized : AllSized size old = pieces_sized size count bytes (omega (arith, held.whole)) in
    let all : List (List ℕ) = update old places new in
    let all_sized_too : AllSized size all = update_sized size old places new old_sized new_sized in
    let long : length all ≡ count = length-update old places new ∙ length-pieces size count bytes in
    let whole : pieces size count (concat all) ≡ all = ap (λ n. pieces size n (concat all)) (sym long) ∙ pieces-concat size all all_sized_too in (
      concat all,
      rw (places_are chunk_shape region chunk size own bytes (length (concat new)) held.whole fit)
          (ap (λ (xs : List (List ℕ)). Ok (concat (update old places xs))) again),
      record {
        whole = length-concat size all all_sized_too ∙ ap (λ n. n * size) long;
        has = subst (HasChunks element chunk_shape region (chunk ∷ chunks)) (sym whole)
            (part_joined element chunk_shape region chunk chunks old own.grid own.touched held.has);
      },
    )

-- ---- takes

pub parts_taken : PartsAreTaken
parts_taken size chunk_shape region chunk new room own many sized is =
    let count = product region.lengths in
    let places = places_in_region chunk_shape region chunk in
    let bytes : List ℕ = concat new in
    let new_sized : AllSized size new = all_sized size new sized in
    let whole : length bytes ≡ count * size = length-concat size new new_sized ∙ ap (λ n. n * size) many in
    let again : pieces size count bytes ≡ new = ap (λ n. pieces size n bytes) (sym many) ∙ pieces-concat size new new_sized in
    let room_is : room ≡ length places * size = is ∙ ap (λ n. n * size) (length-map places (λ place. get_or new place [])) in
    let inside = places_inside chunk_shape region chunk size own in
    let are : pieces_at size bytes places ≡ concat (new_of_part chunk_shape region chunk new []) =
    flat_map-concat (piece size bytes) places
    ∙ ap concat (map_by (piece size bytes) (λ place. get_or new place []) places
    (λ k d l. sym (get_or-map-range_with_len (piece size bytes) 0 count (get_or places k d) (get_or places k d) [] (inside k d l) (omega arith))
    ∙ ap (λ (ps : List (List ℕ)). get_or ps (get_or places k d) []) again)) in
    rw (places_are chunk_shape region chunk size own bytes room whole room_is) (ap Ok are)
