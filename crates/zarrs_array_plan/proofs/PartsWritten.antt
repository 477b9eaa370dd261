-- An array as its chunks: what writes of parts leave.
use Rattle.std.proofs.Common.{◌≡◌, ◌⊎◌, inl, inr, ◌∙◌, ℕ, ◌<◌, Bool, true, false, List, [], ◌∷◌, length, get_or, arith, refl, ap, ap₂, sym, subst}
use Rattle.std.specs.List.{All, Contains}
use Rattle.std.proofs.lemmas.Bool.{and_from}
use Rattle.std.proofs.lemmas.List.{get_or-map, length-map}
use Rattle.std.proofs.lemmas.List.Elements.{All-head, All-tail}
use Rattle.std.proofs.lemmas.Nat.{div-add-mod', mod_below}
use Rattle.zarrs_chunk.specs.ChunkShape.{product}
use Rattle.zarrs_chunk.specs.Indices.{tuple_of_number, indices_behind}
use Rattle.zarrs_chunk.specs.Region.{Region}
use Rattle.zarrs_chunk.specs.Tuples.{row_major, box_tuples, is_box_inside, is_tuple_inside}
use Rattle.zarrs_chunk.proofs.BoxLaws.{into_box}
use Rattle.zarrs_chunk.proofs.Inside.{lt_test, row_major-below}
use Rattle.zarrs_chunk.proofs.NumberLaws.{same_tuple}
use Rattle.zarrs_chunk.proofs.NumberedTuples.{tuple_of_number-inside}
use Rattle.zarrs_data_type.specs.Element.{Chunk, absent}
use Rattle.zarrs_array_bytes.specs.Update.{update}
use Rattle.zarrs_array_bytes.proofs.UpdateLaw.{untouched, written}
use Rattle.zarrs_grid.specs.ChunkTuples.{quotients, remainders, tuple_in_array}
use Rattle.zarrs_grid.specs.JoinedParts.{chunk_of_place}
use Rattle.zarrs_grid.specs.Parts.{starts_in_chunk, starts_in_region, part_lengths}
use Rattle.zarrs_grid.specs.RegionElements.{places_in_chunk, places_in_region}
use Rattle.zarrs_grid.specs.RegionWrites.{new_of_part}
use Rattle.zarrs_grid.specs.Touched.{FitsGrid, touched_counts, touched_chunks, is_in_box}
use Rattle.zarrs_grid.proofs.BoxPlaces.{box_count, box_place_at, box_places_apart}
use Rattle.zarrs_grid.proofs.Cut.{listed, into_listed, listed_touches}
use Rattle.zarrs_grid.proofs.PartPlaces.{length-places, inside_at, found_in_part, same_there}
use Rattle.zarrs_grid.proofs.PartsJoined.{place_listed}
use Rattle.zarrs_grid.proofs.Tuples.{Touches, Touches-length, box_test, from_box_test, from_in_box, part_in_chunk, same_element, is_in_chunk, is_in_region, behind_in_box}
use Rattle.zarrs_array_plan.specs.ChunkArrays.{element_by_chunks, PartsWriteTheRegion}
use Rattle.zarrs_array_plan.proofs.ChunksRead.{element_in_chunk}

-- ---- tuples of the array by their chunks

-- a tuple is one of a chunk
record IsOfChunk (shape numbers rest tuple : List ℕ) : Type 0 where
  pub inside : is_tuple_inside shape rest ≡ true
  pub again : tuple_in_array shape numbers rest ≡ tuple

of_chunk : (shape tuple : List ℕ) → All (λ size. 0 < size) shape → length tuple ≡ length shape
    → IsOfChunk shape (quotients shape tuple) (remainders shape tuple) tuple
of_chunk [] [] p e = record { inside = refl; again = refl }
of_chunk [] (index ∷ tuple) p e = absurd (omega arith)
of_chunk (size ∷ shape) [] p e = absurd (omega arith)
of_chunk (size ∷ shape) (index ∷ tuple) p e =
    let below = mod_below index size (All-head (λ size. 0 < size) size shape p) in
    let rest = of_chunk shape tuple (All-tail (λ size. 0 < size) size shape p) (omega arith) in
    record {
      inside = and_from _ _ (lt_test _ _ below) rest.inside;
      again = ap₂ (λ i t. i ∷ t) (div-add-mod' index size) rest.again;
    }

-- a chunk is touched or not
touched_or_not : (shape : List ℕ) (region : Region) (numbers : List ℕ) → FitsGrid shape region → (b : Bool)
    → is_in_box (quotients shape region.starts) (touched_counts shape region.starts region.lengths) numbers ≡ b
    → Contains (touched_chunks shape region) numbers ⊎ (Contains (touched_chunks shape region) numbers → ⊥)
touched_or_not shape region numbers g true e =
    inl (into_listed shape region numbers g (from_box_test (quotients shape region.starts) (touched_counts shape region.starts region.lengths) numbers e))
touched_or_not shape region numbers g false e =
    inr (λ c.
    let is = box_test (quotients shape region.starts) (touched_counts shape region.starts region.lengths) numbers (listed shape region numbers g c) in
    cc)

-- ---- one chunk

module _ (shape : List ℕ) (region : Region) (numbers : List ℕ) (r : Touches shape numbers region.starts region.lengths) (new : Chunk) where
  abbrev starts : List ℕ
  starts = starts_in_chunk shape numbers region.starts

  abbrev lengths : List ℕ
  lengths = part_lengths shape numbers region.starts region.lengths

  abbrev places : List ℕ
  places = places_in_chunk shape region numbers

  abbrev own_new : Chunk
  own_new = new_of_part shape region numbers new absent

  chunk_box : is_box_inside shape starts lengths ≡ true
  chunk_box = part_in_chunk shape numbers region.starts region.lengths r

  many : length places ≡ product lengths
  many = box_count shape starts lengths chunk_box

  own_inside : (k : ℕ) → k < product lengths → is_tuple_inside shape (inside_at shape numbers region.starts region.lengths k) ≡ true
  own_inside k l =
      is_in_chunk shape numbers region.starts region.lengths (tuple_of_number lengths k) r (tuple_of_number-inside lengths k l)

  place_at : (k : ℕ) → k < product lengths → get_or places k 0 ≡ row_major shape (inside_at shape numbers region.starts region.lengths k)
  place_at = box_place_at shape starts lengths chunk_box

  data_long : length places ≡ length own_new
  data_long =
      many
      ∙ sym (length-map (places_in_region shape region numbers) (λ place. get_or new place absent) ∙ length-places shape numbers region.starts region.lengths r)

  -- a new element
  written_at : (old : Chunk) (k place : ℕ) → length old ≡ product shape → k < product lengths
      → get_or (places_in_region shape region numbers) k 0 ≡ place
      → get_or (update old places own_new) (row_major shape (inside_at shape numbers region.starts region.lengths k)) absent ≡ get_or new place absent
  written_at old k place long l e =
      let below = row_major-below shape (inside_at shape numbers region.starts region.lengths k) (own_inside k l) in
      written old own_new places (row_major shape (inside_at shape numbers region.starts region.lengths k)) absent k (omega (arith, below, long)) data_long (omega (arith, l, many)) (place_at k l)
      (λ j h m f. box_places_apart shape starts lengths chunk_box j k h (omega (arith, m, many)) (f ∙ sym (place_at k l)))
      ∙ get_or-map (λ place. get_or new place absent) (places_in_region shape region numbers) k 0 absent
      (omega (arith, l, length-places shape numbers region.starts region.lengths r))
      ∙ ap (λ p. get_or new p absent) e

  -- a tuple of the chunk that isn't one of the region keeps its element
  kept_at : (old : Chunk) (rest tuple : List ℕ) → is_tuple_inside shape rest ≡ true → tuple_in_array shape numbers rest ≡ tuple
      → length region.starts ≡ length region.lengths → (Contains (box_tuples region.starts region.lengths) tuple → ⊥)
      → get_or (update old places own_new) (row_major shape rest) absent ≡ get_or old (row_major shape rest) absent
  kept_at old rest tuple inside again axes outside =
      untouched old own_new places (row_major shape rest) absent
      (λ k l e.
      let below : k < product lengths = omega (arith, l, many) in
      let offset = tuple_of_number lengths k in
      let offset_inside = tuple_of_number-inside lengths k below in
      let same : inside_at shape numbers region.starts region.lengths k ≡ rest = same_tuple shape (inside_at shape numbers region.starts region.lengths k) rest (own_inside k below) inside (sym (place_at k below) ∙ e) in
      let there = indices_behind (starts_in_region shape numbers region.starts) offset in
      let is : indices_behind region.starts there ≡ tuple =
      sym (same_element shape numbers region.starts region.lengths offset r offset_inside) ∙ ap (tuple_in_array shape numbers) same ∙ again in
      let in_region = is_in_region shape numbers region.starts region.lengths offset r offset_inside in
      let among = into_box region.starts region.lengths (indices_behind region.starts there) axes
      (from_in_box region.starts region.lengths (indices_behind region.starts there) (behind_in_box region.starts region.lengths there axes in_region)) in
      outside (subst (Contains (box_tuples region.starts region.lengths)) is among))

-- ---- the array

pub parts_written : PartsWriteTheRegion
parts_written shape region new old now g w = record {
  inside = λ place l.
      let numbers = chunk_of_place shape region place in
      let c = place_listed shape region place g l in
      let r = listed_touches shape region numbers g c in
      let found = found_in_part shape region.starts region.lengths place g.positive g.starts g.lengths l r in
      let tuple = inside_at shape numbers region.starts region.lengths found.0 in
      ap (element_by_chunks shape now) (sym (same_there shape numbers region.starts region.lengths r found.0 place found.1 found.2))
      ∙ element_in_chunk now shape numbers tuple (Touches-length shape numbers region.starts region.lengths r)
      (own_inside shape region numbers r new found.0 found.1)
      ∙ ap (λ (chunk : Chunk). get_or chunk (row_major shape tuple) absent) (w.touched numbers c)
      ∙ written_at shape region numbers r new (old numbers) found.0 place (w.whole numbers c) found.1 found.2;
  others = λ tuple e outside.
      let numbers = quotients shape tuple in
      let rest = remainders shape tuple in
      let here = of_chunk shape tuple g.positive (e ∙ g.starts) in
      elim (touched_or_not shape region numbers g (is_in_box (quotients shape region.starts) (touched_counts shape region.starts region.lengths) numbers) refl)
      as (λ _. get_or (now numbers) (row_major shape rest) absent ≡ get_or (old numbers) (row_major shape rest) absent) [
        | inl c ↦ (
            ap (λ (chunk : Chunk). get_or chunk (row_major shape rest) absent) (w.touched numbers c)
            ∙ kept_at shape region numbers (listed_touches shape region numbers g c) new (old numbers) rest tuple here.inside here.again (g.starts ∙ sym g.lengths) outside)
        | inr apart ↦ ap (λ (chunk : Chunk). get_or chunk (row_major shape rest) absent) (w.others numbers apart)
      ];
}
