-- Where the elements of a part stand in the answer.
use Rattle.std.proofs.Common.{◌≡◌, ◌≢◌, ℕ, ◌<◌, ◌∙◌, true, List, length, map, get_or, arith, ap, sym}
use Rattle.std.specs.List.{All, range_with_len}
use Rattle.std.proofs.lemmas.List.FromFn.{length-map-range_with_len, get_or-map-range_with_len}
use Rattle.std.proofs.lemmas.Simd.{map-map}
use Rattle.zarrs_chunk.specs.ChunkShape.{product}
use Rattle.zarrs_chunk.specs.Indices.{tuple_of_number, indices_behind, box_tuple}
use Rattle.zarrs_chunk.specs.Levels.{box_places}
use Rattle.zarrs_chunk.specs.Tuples.{row_major, box_tuples, is_box_inside}
use Rattle.zarrs_chunk.proofs.Inside.{is_box_inside-lengths, row_major-below}
use Rattle.zarrs_chunk.proofs.NumberedTuples.{tuple_of_number-inside, row_major-tuple_of_number, tuple_of_number-row_major, box_tuples-numbered}
use Rattle.zarrs_grid.specs.ChunkTuples.{quotients, tuple_in_array}
use Rattle.zarrs_grid.specs.Parts.{starts_in_chunk, starts_in_region, part_lengths}
use Rattle.zarrs_grid.proofs.BoxPlaces.{box_count, box_place_at, box_places_apart}
use Rattle.zarrs_grid.proofs.Tuples.{Touches, part_in_chunk, part_in_region, same_element, is_in_region, chunk_with, offsets, offset_inside, offset_there}

-- the tuple of a number among a part's, as one of the region
abbrev pub there_at : List ℕ → List ℕ → List ℕ → List ℕ → ℕ → List ℕ
there_at shape numbers starts lengths k = box_tuple (starts_in_region shape numbers starts) (part_lengths shape numbers starts lengths) k

-- and as one of the chunk
abbrev pub inside_at : List ℕ → List ℕ → List ℕ → List ℕ → ℕ → List ℕ
inside_at shape numbers starts lengths k = box_tuple (starts_in_chunk shape numbers starts) (part_lengths shape numbers starts lengths) k

-- how many elements a part has
abbrev pub part_count : List ℕ → List ℕ → List ℕ → List ℕ → ℕ
part_count shape numbers starts lengths = product (part_lengths shape numbers starts lengths)

-- their places in the answer
abbrev pub places : List ℕ → List ℕ → List ℕ → List ℕ → List ℕ
places shape numbers starts lengths = box_places lengths (starts_in_region shape numbers starts) (part_lengths shape numbers starts lengths)

module _ (shape numbers starts lengths : List ℕ) (r : Touches shape numbers starts lengths) where
  region_box : is_box_inside lengths (starts_in_region shape numbers starts) (part_lengths shape numbers starts lengths) ≡ true
  region_box = part_in_region shape numbers starts lengths r

  inside_axes : length (starts_in_chunk shape numbers starts) ≡ length (part_lengths shape numbers starts lengths)
  inside_axes =
      let e = is_box_inside-lengths shape (starts_in_chunk shape numbers starts) (part_lengths shape numbers starts lengths)
      (part_in_chunk shape numbers starts lengths r) in
      e.0 ∙ sym e.1

  pub length-places : length (places shape numbers starts lengths) ≡ part_count shape numbers starts lengths
  length-places = box_count lengths (starts_in_region shape numbers starts) (part_lengths shape numbers starts lengths) region_box

  place_at : (k : ℕ) → k < part_count shape numbers starts lengths
      → get_or (places shape numbers starts lengths) k 0 ≡ row_major lengths (there_at shape numbers starts lengths k)
  place_at = box_place_at lengths (starts_in_region shape numbers starts) (part_lengths shape numbers starts lengths) region_box

  -- no two are the same
  pub places_apart : (j k : ℕ) → k < j → j < part_count shape numbers starts lengths
      → get_or (places shape numbers starts lengths) j 0 ≢ get_or (places shape numbers starts lengths) k 0
  places_apart = box_places_apart lengths (starts_in_region shape numbers starts) (part_lengths shape numbers starts lengths) region_box

  -- the elements that a read of the chunk gives
  elements_are : {A : Type 0} (element : List ℕ → A)
      → map element (box_tuples (starts_in_chunk shape numbers starts) (part_lengths shape numbers starts lengths))
      ≡ map (λ k. element (inside_at shape numbers starts lengths k)) (range_with_len 0 (part_count shape numbers starts lengths))
  elements_are element =
      ap (map element) (box_tuples-numbered (starts_in_chunk shape numbers starts) (part_lengths shape numbers starts lengths) inside_axes)
      ∙ map-map element (inside_at shape numbers starts lengths) (range_with_len 0 (part_count shape numbers starts lengths))

  pub length-elements : {A : Type 0} (element : List ℕ → A)
      → length (map element (box_tuples (starts_in_chunk shape numbers starts) (part_lengths shape numbers starts lengths))) ≡ part_count shape numbers starts lengths
  length-elements {A} element =
      ap (λ (xs : List A). length xs) (elements_are element) ∙ length-map-range_with_len (λ k. element (inside_at shape numbers starts lengths k)) 0
      (part_count shape numbers starts lengths)

  pub element_at : {A : Type 0} (element : List ℕ → A) (k : ℕ) (d : A) → k < part_count shape numbers starts lengths
      → get_or (map element (box_tuples (starts_in_chunk shape numbers starts) (part_lengths shape numbers starts lengths))) k d
      ≡ element (inside_at shape numbers starts lengths k)
  element_at {A} element k d l =
      ap (λ (xs : List A). get_or xs k d) (elements_are element)
      ∙ get_or-map-range_with_len (λ k. element (inside_at shape numbers starts lengths k)) 0 (part_count shape numbers starts lengths) k k d l (omega arith)

  -- the tuple that stands at a place of the answer
  tuple_there : (k : ℕ) → k < part_count shape numbers starts lengths
      → tuple_of_number lengths (row_major lengths (there_at shape numbers starts lengths k)) ≡ there_at shape numbers starts lengths k
  tuple_there k l =
      tuple_of_number-row_major lengths (there_at shape numbers starts lengths k)
      (is_in_region shape numbers starts lengths (tuple_of_number (part_lengths shape numbers starts lengths) k) r
      (tuple_of_number-inside (part_lengths shape numbers starts lengths) k l))

  -- the element that is read for it is the array's at that place of the region
  pub same_there : (k place : ℕ) → k < part_count shape numbers starts lengths → get_or (places shape numbers starts lengths) k 0 ≡ place
      → tuple_in_array shape numbers (inside_at shape numbers starts lengths k) ≡ box_tuple starts lengths place
  same_there k place l e =
      same_element shape numbers starts lengths (tuple_of_number (part_lengths shape numbers starts lengths) k) r
      (tuple_of_number-inside (part_lengths shape numbers starts lengths) k l)
      ∙ ap (indices_behind starts) (sym (tuple_there k l))
      ∙ ap (λ p. indices_behind starts (tuple_of_number lengths p)) (sym (place_at k l) ∙ e)

-- ---- each place of the region

-- the number of a place among the part of its chunk
abbrev number_in_part : List ℕ → List ℕ → List ℕ → ℕ → ℕ
number_in_part shape starts lengths place =
    row_major (part_lengths shape (quotients shape (box_tuple starts lengths place)) starts lengths)
    (offsets shape (quotients shape (box_tuple starts lengths place)) starts (tuple_of_number lengths place))

-- it is a place of the part of its chunk
pub found_in_part : (shape starts lengths : List ℕ) (place : ℕ) → All (λ size. 0 < size) shape → length starts ≡ length shape
    → length lengths ≡ length shape → place < product lengths
    → Touches shape (quotients shape (box_tuple starts lengths place)) starts lengths
    → (k : ℕ) × (k < part_count shape (quotients shape (box_tuple starts lengths place)) starts lengths) ×
    (get_or (places shape (quotients shape (box_tuple starts lengths place)) starts lengths) k 0 ≡ place)
found_in_part shape starts lengths place p e f l r =
    let tuple = tuple_of_number lengths place in
    let inside = tuple_of_number-inside lengths place l in
    let numbers = chunk_with shape starts tuple in
    let offset = offsets shape numbers starts tuple in
    let offset_is = offset_inside shape starts lengths tuple p e f inside in
    let k = number_in_part shape starts lengths place in
    let below = row_major-below (part_lengths shape numbers starts lengths) offset offset_is in (
      k,
      below,
      place_at shape numbers starts lengths r k below
          ∙ ap (λ t. row_major lengths (indices_behind (starts_in_region shape numbers starts) t))
          (tuple_of_number-row_major (part_lengths shape numbers starts lengths) offset offset_is)
          ∙ ap (row_major lengths) (offset_there shape starts lengths tuple e f inside)
          ∙ row_major-tuple_of_number lengths place l,
    )
