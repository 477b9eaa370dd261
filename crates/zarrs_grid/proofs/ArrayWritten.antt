-- What writes of the parts of a region leave of an array.
use Rattle.std.proofs.Common.{◌≡◌, ◌⊎◌, inl, inr, ℕ, ◌+◌, ◌<◌, ◌∙◌, true, List, [], ◌∷◌, length, replicate, get_or, arith, refl, ap, ap₂, sym, subst}
use Rattle.std.specs.List.{All, Contains}
use Rattle.std.proofs.lemmas.Bool.{and_from, cases_lt}
use Rattle.std.proofs.lemmas.List.{get_or-map, length-map, length-replicate}
use Rattle.std.proofs.lemmas.List.FromFn.{get_or-map-range_with_len}
use Rattle.std.proofs.lemmas.List.Elements.{All-head, All-tail}
use Rattle.std.proofs.lemmas.Nat.{div-add-mod', mod_below}
use Rattle.zarrs_chunk.specs.ChunkShape.{product}
use Rattle.zarrs_chunk.specs.Indices.{tuple_of_number, indices_behind, box_tuple}
use Rattle.zarrs_chunk.specs.Region.{Region}
use Rattle.zarrs_chunk.specs.Tuples.{row_major, box_tuples, is_box_inside, is_tuple_inside}
use Rattle.zarrs_chunk.proofs.BoxLaws.{into_box}
use Rattle.zarrs_chunk.proofs.Inside.{lt_test, row_major-below, is_tuple_inside-length}
use Rattle.zarrs_chunk.proofs.NumberLaws.{same_tuple}
use Rattle.zarrs_chunk.proofs.NumberedTuples.{tuple_of_number-inside, tuple_of_number-row_major, box_tuples-numbered}
use Rattle.zarrs_chunk.proofs.BoxTuples.{length-box_tuples}
use Rattle.zarrs_array_bytes.specs.Update.{update}
use Rattle.zarrs_array_bytes.proofs.UpdateLaw.{untouched, written}
use Rattle.zarrs_grid.specs.JoinedParts.{chunk_of_place}
use Rattle.zarrs_grid.specs.RegionElements.{chunk_element, chunk_elements, places_in_chunk, places_in_region}
use Rattle.zarrs_grid.specs.RegionWrites.{new_of_part, WritesChangeTheRegion}
use Rattle.zarrs_grid.specs.ChunkTuples.{quotients, remainders, tuple_in_array}
use Rattle.zarrs_grid.specs.Parts.{starts_in_chunk, starts_in_region, part_lengths}
use Rattle.zarrs_grid.specs.Touched.{touched_counts}
use Rattle.zarrs_grid.proofs.BoxPlaces.{box_count, box_place_at, box_places_apart}
use Rattle.zarrs_grid.proofs.Cut.{length-quotients, listed, into_listed, listed_touches}
use Rattle.zarrs_grid.proofs.PartPlaces.{part_count, length-places, inside_at, found_in_part, same_there}
use Rattle.zarrs_grid.proofs.PartsJoined.{place_listed}
use Rattle.zarrs_grid.proofs.Tuples.{InBox, Touches, from_in_box, part_in_chunk, same_element, is_in_chunk, is_in_region, behind_in_box}

-- each tuple is that of its chunk
tuple_again : (shape tuple : List ℕ) → length tuple ≡ length shape → tuple_in_array shape (quotients shape tuple) (remainders shape tuple) ≡ tuple
tuple_again [] [] e = refl
tuple_again [] (index ∷ tuple) e = absurd (omega arith)
tuple_again (size ∷ shape) [] e = absurd (omega arith)
tuple_again (size ∷ shape) (index ∷ tuple) e = ap₂ (λ i t. i ∷ t) (div-add-mod' index size) (tuple_again shape tuple (omega arith))

rest_inside : (shape tuple : List ℕ) → All (λ size. 0 < size) shape → length tuple ≡ length shape
    → is_tuple_inside shape (remainders shape tuple) ≡ true
rest_inside [] [] p e = refl
rest_inside [] (index ∷ tuple) p e = absurd (omega arith)
rest_inside (size ∷ shape) [] p e = absurd (omega arith)
rest_inside (size ∷ shape) (index ∷ tuple) p e =
    and_from _ _ (lt_test _ _ (mod_below index size (All-head (λ size. 0 < size) size shape p)))
    (rest_inside shape tuple (All-tail (λ size. 0 < size) size shape p) (omega arith))

-- a tuple lies in a box or not
in_or_not : (starts lengths tuple : List ℕ) → InBox starts lengths tuple ⊎ (InBox starts lengths tuple → ⊥)
in_or_not [] [] [] = inl tt
in_or_not [] [] (index ∷ tuple) = inr (λ r. r)
in_or_not [] (len ∷ lengths) tuple = inr (λ r. r)
in_or_not (start ∷ starts) [] tuple = inr (λ r. r)
in_or_not (start ∷ starts) (len ∷ lengths) [] = inr (λ r. r)
in_or_not (start ∷ starts) (len ∷ lengths) (index ∷ tuple) =
    elim (cases_lt index start) [
      | inl low ↦ inr (λ r. omega (arith, low, r.0))
      | inr from ↦ elim (cases_lt index (start + len)) [
        | inl to ↦ elim (in_or_not starts lengths tuple) [
          | inl rest ↦ inl (from, to, rest)
          | inr without ↦ inr (λ r. without r.2)
        ]
        | inr high ↦ inr (λ r. omega (arith, high, r.1))
      ]
    ]

-- ---- all elements of a chunk

zeros_behind : (shape tuple : List ℕ) → length tuple ≡ length shape → indices_behind (replicate (length shape) 0) tuple ≡ tuple
zeros_behind [] [] e = refl
zeros_behind [] (index ∷ tuple) e = absurd (omega arith)
zeros_behind (size ∷ shape) [] e = absurd (omega arith)
zeros_behind (size ∷ shape) (index ∷ tuple) e =
    let first : 0 + index ≡ index = omega arith in ap₂ (λ i t. i ∷ t) first (zeros_behind shape tuple (omega arith))

module _ {A : Type 0} (element : List ℕ → A) (shape numbers : List ℕ) where
  zeros_long : length {A = ℕ} (replicate (length shape) 0) ≡ length shape
  zeros_long = length-replicate (length shape) 0

  chunk_long : length (chunk_elements element shape numbers) ≡ product shape
  chunk_long =
      length-map (box_tuples (replicate (length shape) 0) shape) (chunk_element element shape numbers) ∙ length-box_tuples (replicate (length shape) 0) shape zeros_long

  tuple_at : (tuple : List ℕ) → is_tuple_inside shape tuple ≡ true
      → get_or (box_tuples (replicate (length shape) 0) shape) (row_major shape tuple) [] ≡ tuple
  tuple_at tuple h =
      ap (λ (ts : List (List ℕ)). get_or ts (row_major shape tuple) []) (box_tuples-numbered (replicate (length shape) 0) shape zeros_long)
      ∙ get_or-map-range_with_len (box_tuple (replicate (length shape) 0) shape) 0 (product shape) (row_major shape tuple) (row_major shape tuple) []
      (row_major-below shape tuple h) (omega arith)
      ∙ ap (indices_behind (replicate (length shape) 0)) (tuple_of_number-row_major shape tuple h)
      ∙ zeros_behind shape tuple (is_tuple_inside-length shape tuple h)

  chunk_has : (tuple : List ℕ) (default : A) → is_tuple_inside shape tuple ≡ true
      → get_or (chunk_elements element shape numbers) (row_major shape tuple) default ≡ element (tuple_in_array shape numbers tuple)
  chunk_has tuple default h =
      get_or-map (chunk_element element shape numbers) (box_tuples (replicate (length shape) 0) shape) (row_major shape tuple) [] default
      (omega (arith, row_major-below shape tuple h, length-box_tuples (replicate (length shape) 0) shape zeros_long))
      ∙ ap (chunk_element element shape numbers) (tuple_at tuple h)

-- ---- one chunk

module _ (shape : List ℕ) (region : Region) (numbers : List ℕ) (r : Touches shape numbers region.starts region.lengths) where
  chunk_box : is_box_inside shape (starts_in_chunk shape numbers region.starts) (part_lengths shape numbers region.starts region.lengths) ≡ true
  chunk_box = part_in_chunk shape numbers region.starts region.lengths r

  abbrev own_tuple : ℕ → List ℕ
  own_tuple k = inside_at shape numbers region.starts region.lengths k

  own_inside : (k : ℕ) → k < part_count shape numbers region.starts region.lengths → is_tuple_inside shape (own_tuple k) ≡ true
  own_inside k l =
      is_in_chunk shape numbers region.starts region.lengths (tuple_of_number (part_lengths shape numbers region.starts region.lengths) k) r
      (tuple_of_number-inside (part_lengths shape numbers region.starts region.lengths) k l)

  data_long : {A : Type 0} (new : List A) (default : A)
      → length (places_in_chunk shape region numbers) ≡ length (new_of_part shape region numbers new default)
  data_long new default =
      box_count shape (starts_in_chunk shape numbers region.starts) (part_lengths shape numbers region.starts region.lengths) chunk_box
      ∙ sym (length-map (places_in_region shape region numbers) (λ place. get_or new place default) ∙ length-places shape numbers region.starts region.lengths r)

  -- a new element
  written_at : {A : Type 0} (old : List A) (new : List A) (default : A) (k place : ℕ) → length old ≡ product shape
      → k < part_count shape numbers region.starts region.lengths → get_or (places_in_region shape region numbers) k 0 ≡ place
      → get_or (update old (places_in_chunk shape region numbers) (new_of_part shape region numbers new default))
      (row_major shape (own_tuple k)) default ≡ get_or new place default
  written_at old new default k place long l e =
      let starts = starts_in_chunk shape numbers region.starts in
      let lengths = part_lengths shape numbers region.starts region.lengths in
      let ps = places_in_chunk shape region numbers in
      let at = box_place_at shape starts lengths chunk_box in
      let count = box_count shape starts lengths chunk_box in
      let below = row_major-below shape (own_tuple k) (own_inside k l) in
      written old (new_of_part shape region numbers new default) ps (row_major shape (own_tuple k)) default k (omega (arith, below, long))
      (data_long new default) (omega (arith, l, count)) (at k l)
      (λ j h m f. box_places_apart shape starts lengths chunk_box j k h (omega (arith, m, count)) (f ∙ sym (at k l)))
      ∙ get_or-map (λ place. get_or new place default) (places_in_region shape region numbers) k 0 default
      (omega (arith, l, length-places shape numbers region.starts region.lengths r))
      ∙ ap (λ p. get_or new p default) e

  -- a tuple of the chunk that isn't one of the region keeps its element
  kept_at : {A : Type 0} (old : List A) (new : List A) (default : A) (tuple : List ℕ) → is_tuple_inside shape tuple ≡ true
      → length region.starts ≡ length region.lengths
      → (Contains (box_tuples region.starts region.lengths) (tuple_in_array shape numbers tuple) → ⊥)
      → get_or (update old (places_in_chunk shape region numbers) (new_of_part shape region numbers new default))
      (row_major shape tuple) default ≡ get_or old (row_major shape tuple) default
  kept_at old new default tuple inside axes outside =
      let starts = starts_in_chunk shape numbers region.starts in
      let lengths = part_lengths shape numbers region.starts region.lengths in
      untouched old (new_of_part shape region numbers new default) (places_in_chunk shape region numbers) (row_major shape tuple) default
      (λ k l e.
      let below : k < product lengths = omega (arith, l, box_count shape starts lengths chunk_box) in
      let offset = tuple_of_number lengths k in
      let offset_inside = tuple_of_number-inside lengths k below in
      let same : own_tuple k ≡ tuple = same_tuple shape (own_tuple k) tuple (own_inside k below) inside (sym (box_place_at shape starts lengths chunk_box k below) ∙ e) in
      let there = indices_behind (starts_in_region shape numbers region.starts) offset in
      let is : indices_behind region.starts there ≡ tuple_in_array shape numbers tuple =
      sym (same_element shape numbers region.starts region.lengths offset r offset_inside) ∙ ap (tuple_in_array shape numbers) same in
      let in_region = is_in_region shape numbers region.starts region.lengths offset r offset_inside in
      let listed_there = into_box region.starts region.lengths (indices_behind region.starts there) axes
      (from_in_box region.starts region.lengths (indices_behind region.starts there) (behind_in_box region.starts region.lengths there axes in_region)) in
      outside (subst (Contains (box_tuples region.starts region.lengths)) is listed_there))

-- ---- the array

pub region_is_written : {A : Type 0} → WritesChangeTheRegion A
region_is_written old now shape region new default g w = record {
  inside = λ place l.
      let numbers = chunk_of_place shape region place in
      let c = place_listed shape region place g l in
      let r = listed_touches shape region numbers g c in
      let found = found_in_part shape region.starts region.lengths place g.positive g.starts g.lengths l r in
      let tuple = inside_at shape numbers region.starts region.lengths found.0 in
      let inside = is_in_chunk shape numbers region.starts region.lengths
      (tuple_of_number (part_lengths shape numbers region.starts region.lengths) found.0) r
      (tuple_of_number-inside (part_lengths shape numbers region.starts region.lengths) found.0 found.1) in
      ap now (sym (same_there shape numbers region.starts region.lengths r found.0 place found.1 found.2))
      ∙ w.touched numbers tuple c inside
      ∙ written_at shape region numbers r (chunk_elements old shape numbers) new default found.0 place (chunk_long old shape numbers) found.1 found.2;
  others = λ tuple e outside.
      let numbers = quotients shape tuple in
      let rest = remainders shape tuple in
      let long : length tuple ≡ length shape = e ∙ g.starts in
      let again = tuple_again shape tuple long in
      let inside = rest_inside shape tuple g.positive long in
      ap now (sym again)
      ∙ elim (in_or_not (quotients shape region.starts) (touched_counts shape region.starts region.lengths) numbers)
      as (λ _. now (tuple_in_array shape numbers rest) ≡ old (tuple_in_array shape numbers rest)) [
        | inl touching ↦ (
            let c = into_listed shape region numbers g touching in
            let r = listed_touches shape region numbers g c in
            w.touched numbers rest c inside
            ∙ kept_at shape region numbers r (chunk_elements old shape numbers) new default rest inside (g.starts ∙ sym g.lengths)
            (λ there. outside (subst (Contains (box_tuples region.starts region.lengths)) again there))
            ∙ chunk_has old shape numbers rest default inside)
        | inr apart ↦ w.others numbers rest (length-quotients shape tuple long) (λ c. apart (listed shape region numbers g c)) inside
      ]
      ∙ ap old again;
}
