-- Writes over a value's bytes at places in another order.
use Rattle.std.proofs.Common.{◌≡◌, ◌≢◌, ℕ, zero, suc, ◌+◌, ◌*◌, ◌/◌, ◌-◌, ◌<◌, ◌≤◌, Bool, true, Option, Some, None, List, [], ◌∷◌, ◌++◌, length, take, drop, set, get_or, map, replicate, Ok, arith, refl, ap, ap₂, ◌∙◌, sym, subst, inl, inr, ◌⊎◌, length-take-le}
use Rattle.std.specs.List.{All, concat, range_with_len}
use Rattle.std.specs.Prelude.{is_ok}
use Rattle.std.proofs.Math.Nat.{div-mul-le_self, le-div_iff_mul-le, mul-le-mul_right}
use Rattle.std.proofs.lemmas.List.{set-append_left, length-set, take-append-drop, length-append, length-replicate, length-map, get_or_default, get_or-map}
use Rattle.std.proofs.lemmas.List.Elements.{All-append, All-tail, All-cons, All-nil}
use Rattle.zarrs_chunk.specs.ChunkShape.{product}
use Rattle.zarrs_chunk.specs.Region.{Region}
use Rattle.zarrs_chunk.specs.Tuples.{is_box_inside}
use Rattle.zarrs_data_type.specs.Element.{plain, absent, Chunk}
use Rattle.zarrs_data_type.specs.ElementType.{ElementType, fixed, text, bytes, optional, element_size}
use Rattle.zarrs_data_type.specs.Form.{Form, form_of}
use Rattle.zarrs_data_type.specs.declared.endianness.Endianness.{Endianness}
use Rattle.zarrs_array_bytes.specs.Elements.{elements}
use Rattle.zarrs_array_bytes.specs.Held.{Held}
use Rattle.zarrs_array_bytes.specs.Pieces.{pieces}
use Rattle.zarrs_array_bytes.specs.Update.{update}
use Rattle.zarrs_array_bytes.specs.Validity.{Holds, data_fit}
use Rattle.zarrs_array_bytes.proofs.Pieces.{AllSized, length-pieces, pieces_sized, pieces-take, concat-pieces}
use Rattle.zarrs_codec.specs.BytePieces.{with_zeros}
use Rattle.zarrs_codec.specs.ChunkEdits.{with_elements}
use Rattle.zarrs_codec.specs.CoordinateMap.{CoordinateMap, IsCoordinateMap, IsOneToOne, moved_chunk}
use Rattle.zarrs_array_to_array.specs.ArrayToArrayCodec.{ArrayMapping, IsMapping, chained}
use Rattle.zarrs_array_to_array.proofs.Chains.{chain_map}
use Rattle.zarrs_array_to_array.proofs.CoordinateMaps.{length-moved}
use Rattle.zarrs_bytes.specs.ByteOrder.{bytes_in_order, spelled_chunk}
use Rattle.zarrs_bytes.specs.BytesCodec.{bytes_length, spelling}
use Rattle.zarrs_bytes.specs.PartialRead.{place_bytes}
use Rattle.zarrs_bytes.specs.PartialWrite.{bytes_left, end_of_places, filled_chunk, with_place_bytes}
use Rattle.zarrs_bytes.proofs.InPlace.{written_in_place}
use Rattle.zarrs_bytes.proofs.PartWrites.{NewPieces, new_pieces}
use Rattle.zarrs_bytes.proofs.Spelled.{ordered_sized, spelled_chunk-plain}
use Rattle.zarrs_array_regions.specs.declared.window.Window.{Window}
use Rattle.zarrs_array_regions.specs.KeptRegions.{keeps_regions}
use Rattle.zarrs_array_regions.specs.PlaceReaders.{brought_back, taken_along}
use Rattle.zarrs_array_regions.specs.Windows.{KeepsWindow, window_of, window_places, window_elements, last_window, region_map, encoded_elements}
use Rattle.zarrs_array_regions.proofs.Rearranged.{rearranged, length-rearranged, rearranged_at, map-rearranged, update_rearranged}
use Rattle.zarrs_array_regions.proofs.WindowMaps.{places_apart, places_count, next_count, moved_apart, moved_is, here_is}
use Rattle.zarrs_array_regions.proofs.KeptChains.{chain_keeps}
use Rattle.zarrs_array_regions.proofs.PlaceReads.{places_back}
use Rattle.zarrs_array_bytes.proofs.UpdatedLemmas.{length-elements}

-- ---- the furthest place

end_le : (size end : ℕ) (places : List ℕ) → ((k : ℕ) → k < length places → get_or places k 0 * size + size ≤ end) → end_of_places size places ≤ end
end_le size end [] h = omega arith
end_le size end (place ∷ places) h =
    let first = h 0 (omega arith) in
    let rest = end_le size end places (λ k l. h (suc k) (omega arith)) in
    omega (arith, first, rest)

end_ge : (size : ℕ) (places : List ℕ) (k : ℕ) → k < length places → get_or places k 0 * size + size ≤ end_of_places size places
end_ge size [] k l = absurd (omega arith)
end_ge size (place ∷ places) zero l = omega arith
end_ge size (place ∷ places) (suc k) l = let rest = end_ge size places k (omega arith) in omega (arith, rest)

pub end-rearranged : (size n : ℕ) (to from : ℕ → ℕ) (places : List ℕ) → IsOneToOne n to from → length places ≡ n → end_of_places size (rearranged to n 0 places) ≡ end_of_places size places
end-rearranged size n to from places one e =
    let counted = length-rearranged to n 0 places in
    let one_way : end_of_places size (rearranged to n 0 places) ≤ end_of_places size places = end_le size (end_of_places size places) (rearranged to n 0 places) (λ k l.
    let k_in : k < n = omega (arith, counted) in
    let below = one.to_below k k_in in
    subst (λ p. p * size + size ≤ end_of_places size places) (sym (rearranged_at to n 0 places k k_in)) (end_ge size places (to k) (omega (arith, below, e)))) in
    let other : end_of_places size places ≤ end_of_places size (rearranged to n 0 places) = end_le size (end_of_places size (rearranged to n 0 places)) places (λ k l.
    let k_in : k < n = omega (arith, e) in
    let below = one.from_below k k_in in
    subst (λ p. p * size + size ≤ end_of_places size (rearranged to n 0 places)) (rearranged_at to n 0 places (from k) below ∙ ap (λ i. get_or places i 0) (one.to_from k k_in)) (end_ge size (rearranged to n 0 places) (from k) (omega (arith, below, counted)))) in
    omega (arith, one_way, other)

-- ---- writes before what stays

update-front : (front back : List ℕ) (places new : List ℕ) → All (λ place. place < length front) places → update (front ++ back) places new ≡ update front places new ++ back
update-front front back [] new h = refl
update-front front back (place ∷ places) [] h = refl
update-front front back (place ∷ places) (item ∷ new) h =
    ap (λ xs. update xs places new) (set-append_left front back place item (h 0 0 (omega arith)))
    ∙ update-front (set front place item) back places new (subst (λ n. All (λ p. p < n) places) (sym (length-set front place item)) (All-tail (λ p. p < length front) place places h))

range_below : (from n end : ℕ) → from + n ≤ end → All (λ b. b < end) (range_with_len from n)
range_below from zero end h = All-nil (λ b. b < end)
range_below from (suc n) end h = All-cons (λ b. b < end) from (range_with_len (from + 1) n) (omega arith) (range_below (from + 1) n end (omega arith))

bytes_below : (size cells : ℕ) (places : List ℕ) → All (λ place. place < cells) places → All (λ b. b < cells * size) (place_bytes size places)
bytes_below size cells [] h = All-nil (λ b. b < cells * size)
bytes_below size cells (place ∷ places) h =
    let inside : place < cells = h 0 0 (omega arith) in
    let next : place + 1 ≤ cells = omega arith in
    let row : (place + 1) * size ≤ cells * size = mul-le-mul_right size next in
    let spread : (place + 1) * size ≡ place * size + size = omega arith in
    All-append (λ b. b < cells * size) (range_with_len (place * size) size) (place_bytes size places) (range_below (place * size) size (cells * size) (omega (arith, row, spread))) (bytes_below size cells places (All-tail (λ p. p < cells) place places h))

-- ---- pieces

sized_from : (size : ℕ) (xs : List (List ℕ)) → All (λ piece. length piece ≡ size) xs → AllSized size xs
sized_from size [] h = tt
sized_from size (x ∷ xs) h = (h 0 x (omega arith), sized_from size xs (All-tail (λ piece. length piece ≡ size) x xs h))

sized_at : (size : ℕ) (xs : List (List ℕ)) → AllSized size xs → (k : ℕ) → k < length xs → length (get_or xs k []) ≡ size
sized_at size [] h = λ k l. absurd (omega arith)
sized_at size (x ∷ xs) h = λ k.
    elim k as (λ j. j < length (x ∷ xs) → length (get_or (x ∷ xs) j []) ≡ size) [
      | zero ↦ (λ l. h.0)
      | suc j ↦ (λ l. sized_at size xs h.1 j (omega arith))
    ]

sized_map : (size : ℕ) (f : ℕ → List ℕ) (a n : ℕ) → ((k : ℕ) → a ≤ k → k < a + n → length (f k) ≡ size) → AllSized size (map f (range_with_len a n))
sized_map size f a zero h = tt
sized_map size f a (suc n) h = (h a (omega arith) (omega arith), sized_map size f (a + 1) n (λ k l m. h k (omega arith) (omega arith)))

order : (i j : ℕ) → i ≢ j → (i < j) ⊎ (j < i)
order zero zero h = absurd (h refl)
order zero (suc j) h = inl (omega arith)
order (suc i) zero h = inr (omega arith)
order (suc i) (suc j) h = elim (order i j (λ e. h (ap suc e))) [
  | inl l ↦ inl (omega arith)
  | inr l ↦ inr (omega arith)
]

apart_both : (n : ℕ) (places : List ℕ) → ((i j : ℕ) → i < j → j < n → get_or places i 0 ≢ get_or places j 0) → (i j : ℕ) → i < n → j < n → i ≢ j → get_or places i 0 ≢ get_or places j 0
apart_both n places apart i j l m other = elim (order i j other) [
  | inl less ↦ apart i j less m
  | inr more ↦ (λ e. apart j i more l (sym e))
]

-- the bytes of places that end inside a value, written over it
over_pieces : (size : ℕ) (value : List ℕ) (places : List ℕ) (new : List (List ℕ)) → 0 < size → AllSized size new → length places ≡ length new → end_of_places size places ≤ length value
    → update value (place_bytes size places) (concat new) ≡ concat (update (pieces size (length value / size) value) places new) ++ drop (length value / size * size) value
over_pieces size value places new p sized e ends =
    let cells : ℕ = length value / size in
    let fits : cells * size ≤ length value = div-mul-le_self (length value) size in
    let front : List ℕ = take (cells * size) value in
    let xs : List (List ℕ) = pieces size cells value in
    let front_len : length front ≡ cells * size = length-take-le (cells * size) value fits in
    let below : All (λ place. place < cells) places = λ k d l.
    let here = end_ge size places k l in
    let spread : (get_or places k 0 + 1) * size ≡ get_or places k 0 * size + size = omega arith in
    let within : (get_or places k 0 + 1) * size ≤ length value = omega (arith, here, spread, ends) in
    let next : get_or places k 0 + 1 ≤ cells = (le-div_iff_mul-le {k = size} {x = get_or places k 0 + 1} {y = length value} p).1 within in
    subst (λ q. q < cells) (get_or_default places k 0 d l) (omega (arith, next)) in
    let is_front : concat xs ≡ front = ap concat (sym (pieces-take size cells value)) ∙ concat-pieces size cells front front_len in
    ap (λ v. update v (place_bytes size places) (concat new)) (sym (take-append-drop (cells * size) value))
    ∙ update-front front (drop (cells * size) value) (place_bytes size places) (concat new) (subst (λ n. All (λ b. b < n) (place_bytes size places)) (sym front_len) (bytes_below size cells places below))
    ∙ ap (λ f. update f (place_bytes size places) (concat new) ++ drop (cells * size) value) (sym is_front)
    ∙ ap (λ ys. ys ++ drop (cells * size) value) (written_in_place size xs places new (pieces_sized size cells value fits) sized e (subst (λ n. All (λ place. place < n) places) (sym (length-pieces size cells value)) below))

-- elements of no bytes
no_bytes : (places : List ℕ) → place_bytes 0 places ≡ []
no_bytes [] = refl
no_bytes (place ∷ places) = no_bytes places

module _ (value : List ℕ) (lengths : List ℕ) (part : CoordinateMap) (places : List ℕ) (new : List (List ℕ)) (is : IsCoordinateMap lengths part) (e : length places ≡ product lengths) where
  abbrev moved_places : List ℕ
  moved_places = rearranged part.to (product lengths) 0 places

  abbrev moved_pieces : List (List ℕ)
  moved_pieces = rearranged part.from (product lengths) [] new

  empty-rearranged : with_place_bytes 0 value moved_places (concat new) ≡ with_place_bytes 0 value places (concat moved_pieces)
  empty-rearranged =
      ap₂ (λ end bs. update (with_zeros value end) bs (concat new)) (end-rearranged 0 (product lengths) part.to part.from places is.places e) (no_bytes moved_places)
      ∙ sym (ap (λ bs. update (with_zeros value (end_of_places 0 places)) bs (concat moved_pieces)) (no_bytes places))

  filled-rearranged : (size : ℕ) → 0 < size → length new ≡ product lengths → ((i j : ℕ) → i < j → j < product lengths → get_or places i 0 ≢ get_or places j 0) → AllSized size new
      → with_place_bytes size value moved_places (concat new) ≡ with_place_bytes size value places (concat moved_pieces)
  filled-rearranged size p e_new apart sized =
      let n : ℕ = product lengths in
      let moved : List ℕ = rearranged part.to n 0 places in
      let back : List (List ℕ) = rearranged part.from n [] new in
      let counted : length moved ≡ n = length-rearranged part.to n 0 places in
      let back_counted : length back ≡ n = length-rearranged part.from n [] new in
      let same_end : end_of_places size moved ≡ end_of_places size places = end-rearranged size n part.to part.from places is.places e in
      let whole : List ℕ = with_zeros value (end_of_places size places) in
      let long : end_of_places size places ≤ length whole = zeros_long value (end_of_places size places) in
      let xs : List (List ℕ) = pieces size (length whole / size) whole in
      let back_sized : AllSized size back = sized_map size (λ k. get_or new (part.from k) []) 0 n (λ k l m. let below = is.places.from_below k (omega arith) in sized_at size new sized (part.from k) (omega (arith, below, e_new))) in
      let moved_apart : (i j : ℕ) → i < j → j < n → get_or moved i 0 ≢ get_or moved j 0 = λ i j l m s.
      differ n part.to part.from is.places places apart i j (omega arith) m (λ q. neq i j l q)
      (sym (rearranged_at part.to n 0 places i (omega arith)) ∙ s ∙ rearranged_at part.to n 0 places j m) in
      ap (λ end. update (with_zeros value end) (place_bytes size moved) (concat new)) same_end
      ∙ over_pieces size whole moved new p sized (counted ∙ sym e_new) (omega (arith, same_end, long))
      ∙ ap (λ ys. concat ys ++ drop (length whole / size * size) whole) (sym (update_rearranged n part.to part.from is.places [] xs moved places new counted e e_new moved_apart (λ k l. sym (rearranged_at part.to n 0 places k l))))
      ∙ sym (over_pieces size whole places back p back_sized (e ∙ sym back_counted) long)
    where
      zeros_long : (value : List ℕ) (end : ℕ) → end ≤ length (with_zeros value end)
      zeros_long value end = omega (arith, length-append value (replicate (end - length value) 0), length-replicate {A = ℕ} (end - length value) 0)

      neq : (i j : ℕ) → i < j → i ≡ j → ⊥
      neq i j l e = omega arith

      differ : (n : ℕ) (to from : ℕ → ℕ) → IsOneToOne n to from → (places : List ℕ) → ((i j : ℕ) → i < j → j < n → get_or places i 0 ≢ get_or places j 0) → (i j : ℕ) → i < n → j < n → i ≢ j → get_or places (to i) 0 ≢ get_or places (to j) 0
      differ n to from one places apart i j l m other =
          apart_both n places apart (to i) (to j) (one.to_below i l) (one.to_below j m) (λ s. other (sym (one.from_to i l) ∙ ap from s ∙ one.from_to j m))

  pub pieces-rearranged : (size : ℕ) → length new ≡ product lengths → ((i j : ℕ) → i < j → j < product lengths → get_or places i 0 ≢ get_or places j 0) → AllSized size new
      → with_place_bytes size value moved_places (concat new) ≡ with_place_bytes size value places (concat moved_pieces)
  pieces-rearranged zero e_new apart sized = empty-rearranged
  pieces-rearranged (suc size) e_new apart sized = filled-rearranged (suc size) (omega arith) e_new apart sized

pub written-rearranged : (size : ℕ) (value : List ℕ) (lengths : List ℕ) (part : CoordinateMap) (places : List ℕ) (new : List (List ℕ)) → IsCoordinateMap lengths part → length places ≡ product lengths → length new ≡ product lengths
    → ((i j : ℕ) → i < j → j < product lengths → get_or places i 0 ≢ get_or places j 0) → All (λ piece. length piece ≡ size) new
    → with_place_bytes size value (brought_back lengths part 0 places) (concat new) ≡ with_place_bytes size value places (concat (taken_along lengths part [] new))
written-rearranged size value lengths part places new is e e_new apart sized = pieces-rearranged value lengths part places new is e size e_new apart (sized_from size new sized)

-- ---- what `bytes` leaves

-- new elements of a fixed type, moved as a chunk of these lengths
moved_parts : (lengths : List ℕ) (part : CoordinateMap) (chunk : Chunk) (parts : List (List ℕ)) → IsCoordinateMap lengths part → chunk ≡ map plain parts → length parts ≡ product lengths → moved_chunk part chunk ≡ map plain (rearranged part.from (product lengths) [] parts)
moved_parts lengths part chunk parts is are e =
    moved_is (product lengths) part chunk is.count
    ∙ ap (rearranged part.from (product lengths) absent) are
    ∙ sym (map-rearranged plain part.from (product lengths) [] absent parts (λ k l. let below = is.places.from_below k l in omega (arith, below, e)))

module _ (codecs : List ArrayMapping) (sizes : List ℕ) (m : CoordinateMap) (region : Region) (are : All IsMapping codecs) (positive : All (λ size. 0 < size) sizes) (h : chained codecs sizes ≡ Ok m) (kept : keeps_regions codecs ≡ true) (inside : is_box_inside sizes region.starts region.lengths ≡ true) where
  abbrev window : Window
  window = window_of sizes region

  abbrev last : Window
  last = last_window codecs window

  abbrev part : CoordinateMap
  part = region_map codecs window

  keeps : KeepsWindow (product sizes) m window last part
  keeps = chain_keeps codecs sizes m region are positive h kept inside

  back : map m.to (window_places window) ≡ rearranged part.to (product region.lengths) 0 (window_places last)
  back = places_back codecs sizes m region are positive h kept inside

  last_count : length (window_places last) ≡ product region.lengths
  last_count = next_count (product sizes) m window last part keeps

  here_count : length (map m.to (window_places window)) ≡ product region.lengths
  here_count = length-map (window_places window) m.to ∙ places_count (product sizes) window (here_is sizes region inside)

  last_apart : (i j : ℕ) → i < j → j < product region.lengths → get_or (window_places last) i 0 ≢ get_or (window_places last) j 0
  last_apart i j l k = places_apart last.sizes last.region.starts last.region.lengths keeps.next_is.inside i j l (omega (arith, ap product keeps.lengths, keeps.part_is.count))

  -- elements that are held in the last window
  held_there : (type : ElementType) (new encoded : Held) → Holds type encoded (encoded_elements codecs window (window_elements type window new)) → elements type (length (window_places last)) encoded ≡ moved_chunk part (elements type (product region.lengths) new)
  held_there type new encoded holds =
      let chunk = moved_chunk part (elements type (product region.lengths) new) in
      let counted : length chunk ≡ length (window_places last) = length-moved part (elements type (product region.lengths) new) ∙ keeps.part_is.count ∙ sym last_count in
      ap (λ n. elements type n encoded) (sym counted) ∙ holds.elements_are

  -- over fill elements, or any others
  updated_there : (type : ElementType) (old : Chunk) (new encoded : Held) → Holds type encoded (encoded_elements codecs window (window_elements type window new)) → with_elements type old (map m.to (window_places window)) new ≡ with_elements type old (window_places last) encoded
  updated_there type old new encoded holds =
      let n : ℕ = product region.lengths in
      let xs : Chunk = elements type n new in
      ap (λ k. update old (map m.to (window_places window)) (elements type k new)) here_count
      ∙ sym (update_rearranged n part.to part.from keeps.part_is.places absent old (map m.to (window_places window)) (window_places last) xs here_count last_count (length-elements type n new)
      (moved_apart sizes m window (chain_map codecs sizes m are positive h) (here_is sizes region inside))
      (λ k l. keeps.places k l ∙ sym (get_or-map m.to (window_places window) k 0 0 (omega (arith, places_count (product sizes) window (here_is sizes region inside))))))
      ∙ ap (update old (window_places last)) (sym (moved_is n part xs keeps.part_is.count))
      ∙ ap (update old (window_places last)) (sym (held_there type new encoded holds))

  -- over the bytes of a value
  module _ (order : Option Endianness) (width components : ℕ) (sign : Bool) (new encoded : Held) (fit : data_fit (fixed width components sign) (product region.lengths) new ≡ Ok tt) (holds : Holds (fixed width components sign) encoded (encoded_elements codecs window (window_elements (fixed width components sign) window new))) where
    abbrev type : ElementType
    type = fixed width components sign

    abbrev turned : List ℕ → List ℕ
    turned = bytes_in_order order width components

    abbrev n : ℕ
    n = product region.lengths

    news : NewPieces width components n sign new
    news = new_pieces width components n sign new fit

    spelled_here : spelling order type (elements type (length (map m.to (window_places window))) new) ≡ concat (map turned news.parts)
    spelled_here = ap (λ k. spelled_chunk order width components (elements type k new)) here_count ∙ ap (spelled_chunk order width components) news.are ∙ spelled_chunk-plain order width components news.parts

    spelled_there : spelling order type (elements type (length (window_places last)) encoded) ≡ concat (rearranged part.from n [] (map turned news.parts))
    spelled_there =
        ap (spelled_chunk order width components) (held_there type new encoded holds ∙ moved_parts region.lengths part (elements type n new) news.parts keeps.part_is news.are news.number)
        ∙ spelled_chunk-plain order width components (rearranged part.from n [] news.parts)
        ∙ ap concat (map-rearranged turned part.from n [] [] news.parts (λ k l. let below = keeps.part_is.places.from_below k l in omega (arith, below, news.number)))

    bytes_there : (value : List ℕ) → with_place_bytes (element_size width components) value (map m.to (window_places window)) (spelling order type (elements type (length (map m.to (window_places window))) new))
        ≡ with_place_bytes (element_size width components) value (window_places last) (spelling order type (elements type (length (window_places last)) encoded))
    bytes_there value =
        ap₂ (λ ps bs. with_place_bytes (element_size width components) value ps bs) back spelled_here
        ∙ pieces-rearranged value region.lengths part (window_places last) (map turned news.parts) keeps.part_is last_count (element_size width components) (length-map news.parts turned ∙ news.number) last_apart (ordered_sized order width components news.parts news.sized)
        ∙ ap (with_place_bytes (element_size width components) value (window_places last)) (sym spelled_there)

  left_of : (order : Option Endianness) (form_sizes : List ℕ) (type : ElementType) (fill : List ℕ) (stored : Option (List ℕ)) (new encoded : Held) → is_ok (bytes_length order (form_of form_sizes type fill)) ≡ true → data_fit type (product region.lengths) new ≡ Ok tt → Holds type encoded (encoded_elements codecs window (window_elements type window new))
      → bytes_left order (form_of form_sizes type fill) stored (map m.to (window_places window)) new ≡ bytes_left order (form_of form_sizes type fill) stored (window_places last) encoded
  left_of order form_sizes type fill None new encoded taken fit holds = ap (spelling order type) (updated_there type (filled_chunk form_sizes type fill) new encoded holds)
  left_of order form_sizes (fixed width components sign) fill (Some value) new encoded taken fit holds = bytes_there order width components sign new encoded fit holds value
  left_of order form_sizes text fill (Some value) new encoded taken fit holds = absurd (cc)
  left_of order form_sizes bytes fill (Some value) new encoded taken fit holds = absurd (cc)
  left_of order form_sizes (optional type) fill (Some value) new encoded taken fit holds = absurd (cc)

  pub region_left : (order : Option Endianness) (form : Form) (stored : Option (List ℕ)) (new encoded : Held) → is_ok (bytes_length order form) ≡ true → data_fit form.type (product region.lengths) new ≡ Ok tt → Holds form.type encoded (encoded_elements codecs window (window_elements form.type window new))
      → bytes_left order form stored (map m.to (window_places window)) new ≡ bytes_left order form stored (window_places last) encoded
  region_left order form stored new encoded taken fit holds = left_of order form.sizes form.type form.fill stored new encoded taken fit holds
