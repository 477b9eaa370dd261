-- What the codecs ask for of their moved chunks lies inside them, at the mapped places.
use Rattle.std.proofs.Common.{◌≡◌, ◌==◌, ◌&&◌, ◌||◌, nat_le, ℕ, zero, suc, ◌+◌, ◌<◌, ◌≤◌, Bool, true, false, List, [], ◌∷◌, ◌++◌, length, get_or, replicate, map, Ok, arith, refl, ap, ap₂, ◌∙◌, sym, inl, inr}
use Rattle.std.specs.List.{flat_map, range_with_len, list_all, list_any}
use Rattle.std.proofs.lemmas.Bool.{cases_Bool, and_parts, and_from, or_parts}
use Rattle.std.proofs.lemmas.List.{append-nil, map-append}
use Rattle.std.proofs.lemmas.List.Folds.{list_all-append}
use Rattle.std.proofs.lemmas.Simd.{map-map}
use Rattle.zarrs_chunk.specs.Answer.{demand}
use Rattle.zarrs_chunk.specs.AnswerLaws.{demand_ok}
use Rattle.zarrs_array_to_array.proofs.AnswerSteps.{step_ok}
use Rattle.zarrs_chunk.specs.ChunkShape.{product}
use Rattle.zarrs_chunk.specs.Region.{Region}
use Rattle.zarrs_chunk.specs.Numbering.{are_tuples_inside}
use Rattle.zarrs_chunk.specs.Selection.{Selection, subset, indices, tuples_of, bounds_of}
use Rattle.zarrs_chunk.specs.Tuples.{row_major, box_tuples, is_box_inside, is_tuple_inside}
use Rattle.zarrs_chunk.specs.declared.codec_error.CodecError.TheVariants.{IncompatibleDimensionality, OutOfBounds}
use Rattle.zarrs_chunk.proofs.BoxTuples.{box_tuples-nothing}
use Rattle.zarrs_chunk.proofs.Inside.{is_tuple_inside-length, row_major-below, is_box_inside-lengths, le_test, from_le_test, lt_test}
use Rattle.zarrs_codec.specs.CoordinateMap.{same_places}
use Rattle.zarrs_array_to_array.specs.SqueezedBoxes.{drops_empty_range, squeeze_asked, squeezed_lengths, squeezed_region}
use Rattle.zarrs_codec.specs.MappedSelection.{IsImage}
use Rattle.zarrs_metadata.specs.Orders.{IsOrder}
use Rattle.zarrs_array_to_array.specs.Orders.{permuted}
use Rattle.zarrs_array_to_array.specs.Squeeze.{above_one, or_one, squeezed, kept_indices, or_zero, squeezed_tuple}
use Rattle.zarrs_array_to_array.specs.Transpose.{transposition}
use Rattle.zarrs_chunk.specs.Indices.{tuple_of_number}
use Rattle.zarrs_array_to_array.proofs.MovedTuples.{kept_inside, kept_number, or_inside}
use Rattle.zarrs_array_to_array.proofs.Orders.{permuted_inside}
use Rattle.zarrs_array_to_array.proofs.Squeezing.{is_one}
use Rattle.zarrs_array_to_array.proofs.Transposition.{transposed_tuple}
use Rattle.zarrs_chunk.proofs.NumberedTuples.{tuple_of_number-inside, row_major-tuple_of_number}
use Rattle.zarrs_codec.specs.SampleLaws.{eq_test}
use Rattle.zarrs_array_to_array.specs.SqueezeCount.{or_axes}

-- ---- the tuples of a selection in bounds

inside_row : (size index : ℕ) (sizes : List ℕ) (tuples : List (List ℕ)) → index < size → list_all (λ tuple. is_tuple_inside sizes tuple) tuples ≡ true → list_all (λ tuple. is_tuple_inside (size ∷ sizes) tuple) (map (λ tuple. index ∷ tuple) tuples) ≡ true
inside_row size index sizes [] l h = refl
inside_row size index sizes (tuple ∷ tuples) l h =
    let parts = and_parts (is_tuple_inside sizes tuple) (list_all (λ tuple. is_tuple_inside sizes tuple) tuples) h in
    and_from _ _ (and_from _ _ (lt_test index size l) parts.0) (inside_row size index sizes tuples l parts.1)

inside_rows : (size : ℕ) (sizes : List ℕ) (tuples : List (List ℕ)) (n start : ℕ) → start + n ≤ size → list_all (λ tuple. is_tuple_inside sizes tuple) tuples ≡ true
    → list_all (λ tuple. is_tuple_inside (size ∷ sizes) tuple) (flat_map (λ index. map (λ tuple. index ∷ tuple) tuples) (range_with_len start n)) ≡ true
inside_rows size sizes tuples zero start l h = refl
inside_rows size sizes tuples (suc n) start l h =
    list_all-append (λ tuple. is_tuple_inside (size ∷ sizes) tuple) (map (λ tuple. start ∷ tuple) tuples) (flat_map (λ index. map (λ tuple. index ∷ tuple) tuples) (range_with_len (start + 1) n))
    ∙ and_from _ _ (inside_row size start sizes tuples (omega arith) h) (inside_rows size sizes tuples n (start + 1) (omega arith) h)

pub box_inside : (sizes starts lengths : List ℕ) → is_box_inside sizes starts lengths ≡ true → list_all (λ tuple. is_tuple_inside sizes tuple) (box_tuples starts lengths) ≡ true
box_inside [] [] [] h = refl
box_inside [] [] (len ∷ lengths) h = absurd (cc)
box_inside [] (start ∷ starts) lengths h = absurd (cc)
box_inside (size ∷ sizes) [] lengths h = absurd (cc)
box_inside (size ∷ sizes) (start ∷ starts) [] h = absurd (cc)
box_inside (size ∷ sizes) (start ∷ starts) (len ∷ lengths) h =
    let parts = and_parts (nat_le (start + len) size) (is_box_inside sizes starts lengths) h in
    inside_rows size sizes (box_tuples starts lengths) len start (from_le_test _ _ parts.0) (box_inside sizes starts lengths parts.1)

pub subset_inside : (region : Region) (sizes : List ℕ) → bounds_of (subset region) sizes ≡ Ok tt → is_box_inside sizes region.starts region.lengths ≡ true
subset_inside region sizes h =
    let step = step_ok (demand (length region.starts == length sizes) IncompatibleDimensionality) (λ _. demand (is_box_inside sizes region.starts region.lengths) OutOfBounds) tt h in
    demand_ok (is_box_inside sizes region.starts region.lengths) OutOfBounds step.2

pub indices_inside : (tuples : List (List ℕ)) (sizes : List ℕ) → bounds_of (indices tuples) sizes ≡ Ok tt → list_all (λ tuple. is_tuple_inside sizes tuple) tuples ≡ true
indices_inside tuples sizes h =
    let step = step_ok (demand (list_all (λ tuple. length tuple == length sizes) tuples) IncompatibleDimensionality) (λ _. demand (list_all (λ tuple. is_tuple_inside sizes tuple) tuples) OutOfBounds) tt h in
    demand_ok (list_all (λ tuple. is_tuple_inside sizes tuple) tuples) OutOfBounds step.2

pub selection_inside : (selection : Selection) (sizes : List ℕ) → bounds_of selection sizes ≡ Ok tt → list_all (λ tuple. is_tuple_inside sizes tuple) (tuples_of selection) ≡ true
selection_inside (subset region) sizes h = box_inside sizes region.starts region.lengths (subset_inside region sizes h)
selection_inside (indices tuples) sizes h = indices_inside tuples sizes h

pub tuple_inside-at : (sizes : List ℕ) (tuples : List (List ℕ)) (i : ℕ) (d : List ℕ) → are_tuples_inside sizes tuples ≡ true → i < length tuples → is_tuple_inside sizes (get_or tuples i d) ≡ true
tuple_inside-at sizes [] i d h l = absurd (omega arith)
tuple_inside-at sizes (tuple ∷ tuples) zero d h l = (and_parts (is_tuple_inside sizes tuple) (are_tuples_inside sizes tuples) h).0
tuple_inside-at sizes (tuple ∷ tuples) (suc i) d h l = tuple_inside-at sizes tuples i d (and_parts (is_tuple_inside sizes tuple) (are_tuples_inside sizes tuples) h).1 (omega arith)

tuples_have_axes : (sizes : List ℕ) (tuples : List (List ℕ)) → list_all (λ tuple. is_tuple_inside sizes tuple) tuples ≡ true → list_all (λ tuple. length tuple == length sizes) tuples ≡ true
tuples_have_axes sizes [] h = refl
tuples_have_axes sizes (tuple ∷ tuples) h =
    let parts = and_parts (is_tuple_inside sizes tuple) (list_all (λ tuple. is_tuple_inside sizes tuple) tuples) h in
    and_from _ _ (eq_test _ _ (is_tuple_inside-length sizes tuple parts.0)) (tuples_have_axes sizes tuples parts.1)

pub indices_bounds : (sizes : List ℕ) (tuples : List (List ℕ)) → list_all (λ tuple. is_tuple_inside sizes tuple) tuples ≡ true → bounds_of (indices tuples) sizes ≡ Ok tt
indices_bounds sizes tuples h = rw (tuples_have_axes sizes tuples h, h) refl

-- ---- tuples that are moved one by one

module _ (sizes encoded : List ℕ) (to : ℕ → ℕ) (f : List ℕ → List ℕ) (goes : (tuple : List ℕ) → is_tuple_inside sizes tuple ≡ true → (is_tuple_inside encoded (f tuple) ≡ true) × (row_major encoded (f tuple) ≡ to (row_major sizes tuple))) where
  each_inside : (tuples : List (List ℕ)) → list_all (λ tuple. is_tuple_inside sizes tuple) tuples ≡ true → list_all (λ tuple. is_tuple_inside encoded tuple) (map f tuples) ≡ true
  each_inside [] h = refl
  each_inside (tuple ∷ tuples) h =
      let parts = and_parts (is_tuple_inside sizes tuple) (list_all (λ tuple. is_tuple_inside sizes tuple) tuples) h in
      and_from _ _ (goes tuple parts.0).0 (each_inside tuples parts.1)

  pub each_number : (tuples : List (List ℕ)) → list_all (λ tuple. is_tuple_inside sizes tuple) tuples ≡ true → map (row_major encoded) (map f tuples) ≡ map to (map (row_major sizes) tuples)
  each_number [] h = refl
  each_number (tuple ∷ tuples) h =
      let parts = and_parts (is_tuple_inside sizes tuple) (list_all (λ tuple. is_tuple_inside sizes tuple) tuples) h in
      ap₂ (λ n ns. n ∷ ns) (goes tuple parts.0).1 (each_number tuples parts.1)

  pub each_bounds : (tuples : List (List ℕ)) → list_all (λ tuple. is_tuple_inside sizes tuple) tuples ≡ true → bounds_of (indices (map f tuples)) encoded ≡ Ok tt
  each_bounds tuples h = indices_bounds encoded (map f tuples) (each_inside tuples h)

-- ---- transposition

pub transposed_image : (order sizes : List ℕ) (selection : Selection) → IsOrder order → length order ≡ length sizes → bounds_of selection sizes ≡ Ok tt → IsImage sizes (transposition order sizes) selection (indices (map (permuted order) (tuples_of selection)))
transposed_image order sizes selection o axes h =
    let inside = selection_inside selection sizes h in
    let goes : (tuple : List ℕ) → is_tuple_inside sizes tuple ≡ true → (is_tuple_inside (permuted order sizes) (permuted order tuple) ≡ true) × (row_major (permuted order sizes) (permuted order tuple) ≡ (transposition order sizes).to (row_major sizes tuple)) =
    λ tuple t. (permuted_inside order sizes tuple o axes t, sym (transposed_tuple order sizes o axes tuple t)) in
    record {
      inside = each_bounds sizes (permuted order sizes) (transposition order sizes).to (permuted order) goes (tuples_of selection) inside;
      places = each_number sizes (permuted order sizes) (transposition order sizes).to (permuted order) goes (tuples_of selection) inside;
    }

-- ---- reshaping

pub reshaped_image : (sizes encoded : List ℕ) (selection : Selection) → product encoded ≡ product sizes → bounds_of selection sizes ≡ Ok tt → IsImage sizes (same_places encoded) selection (indices (map (tuple_of_number encoded) (map (row_major sizes) (tuples_of selection))))
reshaped_image sizes encoded selection same h =
    let inside = selection_inside selection sizes h in
    let f : List ℕ → List ℕ = λ tuple. tuple_of_number encoded (row_major sizes tuple) in
    let together : map (tuple_of_number encoded) (map (row_major sizes) (tuples_of selection)) ≡ map f (tuples_of selection) = map-map (tuple_of_number encoded) (row_major sizes) (tuples_of selection) in
    let goes : (tuple : List ℕ) → is_tuple_inside sizes tuple ≡ true → (is_tuple_inside encoded (f tuple) ≡ true) × (row_major encoded (f tuple) ≡ (same_places encoded).to (row_major sizes tuple)) =
    λ tuple t. let l : row_major sizes tuple < product encoded = omega (arith, row_major-below sizes tuple t, same) in (tuple_of_number-inside encoded (row_major sizes tuple) l, row_major-tuple_of_number encoded (row_major sizes tuple) l) in
    record {
      inside = ap (λ tuples. bounds_of (indices tuples) encoded) together ∙ each_bounds sizes encoded (same_places encoded).to f goes (tuples_of selection) inside;
      places = ap (map (row_major encoded)) together ∙ each_number sizes encoded (same_places encoded).to f goes (tuples_of selection) inside;
    }

-- ---- squeezing

squeezed_goes : (sizes tuple : List ℕ) → is_tuple_inside sizes tuple ≡ true → (is_tuple_inside (squeezed sizes) (squeezed_tuple sizes tuple) ≡ true) × (row_major (squeezed sizes) (squeezed_tuple sizes tuple) ≡ (same_places (squeezed sizes)).to (row_major sizes tuple))
squeezed_goes sizes tuple h =
    let made = or_inside (above_one sizes) (kept_indices sizes tuple) (kept_inside sizes tuple h) in
    (made.0, made.1 ∙ kept_number sizes tuple h)

pub squeezed_image_indices : (sizes : List ℕ) (tuples : List (List ℕ)) → bounds_of (indices tuples) sizes ≡ Ok tt → IsImage sizes (same_places (squeezed sizes)) (indices tuples) (indices (map (squeezed_tuple sizes) tuples))
squeezed_image_indices sizes tuples h =
    let inside = indices_inside tuples sizes h in
    record {
      inside = each_bounds sizes (squeezed sizes) (same_places (squeezed sizes)).to (squeezed_tuple sizes) (squeezed_goes sizes) tuples inside;
      places = each_number sizes (squeezed sizes) (same_places (squeezed sizes)).to (squeezed_tuple sizes) (squeezed_goes sizes) tuples inside;
    }

-- a list without the indices along dropped axes, in each tuple of a row
kept_row : (size index : ℕ) (sizes : List ℕ) (tuples : List (List ℕ)) → (size == 1) ≡ false → map (kept_indices (size ∷ sizes)) (map (λ tuple. index ∷ tuple) tuples) ≡ map (λ tuple. index ∷ tuple) (map (kept_indices sizes) tuples)
kept_row size index sizes [] other = refl
kept_row size index sizes (tuple ∷ tuples) other = ap₂ (λ x xs. x ∷ xs) (rw other refl) (kept_row size index sizes tuples other)

kept_rows : (size : ℕ) (sizes : List ℕ) (tuples : List (List ℕ)) (n start : ℕ) → (size == 1) ≡ false
    → map (kept_indices (size ∷ sizes)) (flat_map (λ index. map (λ tuple. index ∷ tuple) tuples) (range_with_len start n)) ≡ flat_map (λ index. map (λ tuple. index ∷ tuple) (map (kept_indices sizes) tuples)) (range_with_len start n)
kept_rows size sizes tuples zero start other = refl
kept_rows size sizes tuples (suc n) start other =
    map-append (kept_indices (size ∷ sizes)) (map (λ tuple. start ∷ tuple) tuples) (flat_map (λ index. map (λ tuple. index ∷ tuple) tuples) (range_with_len (start + 1) n))
    ∙ ap₂ (λ xs ys. xs ++ ys) (kept_row size start sizes tuples other) (kept_rows size sizes tuples n (start + 1) other)

dropped_row : (size : ℕ) (sizes : List ℕ) (tuples : List (List ℕ)) → (size == 1) ≡ true → map (kept_indices (size ∷ sizes)) (map (λ tuple. 0 ∷ tuple) tuples) ≡ map (kept_indices sizes) tuples
dropped_row size sizes [] one = refl
dropped_row size sizes (tuple ∷ tuples) one = ap₂ (λ x xs. x ∷ xs) (rw one refl) (dropped_row size sizes tuples one)

one_index : (size start len : ℕ) → (size == 1) ≡ true → start + len ≤ size → (size == 1 && len == 0) ≡ false → (start ≡ 0) × (len ≡ 1)
one_index size start len one fits some = let s : size ≡ 1 = is_one size one in let l : 0 < len = above size len one some in (omega arith, omega arith)
  where
    above : (size len : ℕ) → (size == 1) ≡ true → (size == 1 && len == 0) ≡ false → 0 < len
    above size zero one some = absurd (let bad : true ≡ false = (rw one at some) in cc)
    above size (suc len) one some = omega arith

pub kept_box : (sizes starts lengths : List ℕ) → is_box_inside sizes starts lengths ≡ true → drops_empty_range sizes lengths ≡ false → box_tuples (kept_indices sizes starts) (kept_indices sizes lengths) ≡ map (kept_indices sizes) (box_tuples starts lengths)
kept_box [] [] [] h some = refl
kept_box [] [] (len ∷ lengths) h some = absurd (cc)
kept_box [] (start ∷ starts) lengths h some = absurd (cc)
kept_box (size ∷ sizes) [] lengths h some = absurd (cc)
kept_box (size ∷ sizes) (start ∷ starts) [] h some = absurd (cc)
kept_box (size ∷ sizes) (start ∷ starts) (len ∷ lengths) h some =
    let parts = and_parts (nat_le (start + len) size) (is_box_inside sizes starts lengths) h in
    let filled = or_parts (size == 1 && len == 0) (drops_empty_range sizes lengths) some in
    let rest = kept_box sizes starts lengths parts.1 filled.1 in
    let tuples = box_tuples starts lengths in
    elim (cases_Bool (size == 1)) [
      | inl one ↦ (let at = one_index size start len one (from_le_test _ _ parts.0) filled.0 in
          rw one (rest ∙ sym (ap₂ (λ s n. map (kept_indices (size ∷ sizes)) (flat_map (λ index. map (λ tuple. index ∷ tuple) tuples) (range_with_len s n))) at.0 at.1
          ∙ ap (map (kept_indices (size ∷ sizes))) (append-nil (map (λ tuple. 0 ∷ tuple) tuples))
          ∙ dropped_row size sizes tuples one)))
      | inr other ↦ rw other (ap (λ ts. flat_map (λ index. map (λ tuple. index ∷ tuple) ts) (range_with_len start len)) rest ∙ sym (kept_rows size sizes tuples len start other))
    ]

-- where no axis is left there is one index, zero
or_row : (index : ℕ) (tuples : List (List ℕ)) → map or_zero (map (λ tuple. index ∷ tuple) tuples) ≡ map (λ tuple. index ∷ tuple) tuples
or_row index [] = refl
or_row index (tuple ∷ tuples) = ap (λ xs. (index ∷ tuple) ∷ xs) (or_row index tuples)

or_rows : (tuples : List (List ℕ)) (n start : ℕ) → map or_zero (flat_map (λ index. map (λ tuple. index ∷ tuple) tuples) (range_with_len start n)) ≡ flat_map (λ index. map (λ tuple. index ∷ tuple) tuples) (range_with_len start n)
or_rows tuples zero start = refl
or_rows tuples (suc n) start =
    map-append or_zero (map (λ tuple. start ∷ tuple) tuples) (flat_map (λ index. map (λ tuple. index ∷ tuple) tuples) (range_with_len (start + 1) n))
    ∙ ap₂ (λ xs ys. xs ++ ys) (or_row start tuples) (or_rows tuples n (start + 1))

or_box : (starts lengths : List ℕ) → length starts ≡ length lengths → box_tuples (or_zero starts) (or_one lengths) ≡ map or_zero (box_tuples starts lengths)
or_box [] [] e = refl
or_box [] (len ∷ lengths) e = absurd (omega arith)
or_box (start ∷ starts) [] e = absurd (omega arith)
or_box (start ∷ starts) (len ∷ lengths) e = sym (or_rows (box_tuples starts lengths) len start)

pub length-kept : (sizes xs : List ℕ) → length xs ≡ length sizes → length (kept_indices sizes xs) ≡ length (above_one sizes)
length-kept [] [] e = refl
length-kept [] (x ∷ xs) e = absurd (omega arith)
length-kept (size ∷ sizes) [] e = absurd (omega arith)
length-kept (size ∷ sizes) (x ∷ xs) e =
    elim (cases_Bool (size == 1)) [
      | inl one ↦ rw one (length-kept sizes xs (omega arith))
      | inr other ↦ rw other (ap suc (length-kept sizes xs (omega arith)))
    ]

-- an empty range anywhere leaves no tuple
some_empty : (sizes lengths : List ℕ) → drops_empty_range sizes lengths ≡ true → list_any (λ len. len == 0) lengths ≡ true
some_empty [] lengths h = absurd (cc)
some_empty (size ∷ sizes) [] h = absurd (cc)
some_empty (size ∷ sizes) (len ∷ lengths) h =
    elim (cases_Bool (len == 0)) [
      | inl none ↦ rw none refl
      | inr some ↦ rw some (some_empty sizes lengths (later (size == 1) (len == 0) (drops_empty_range sizes lengths) some h))
    ]
  where
    later : (a b c : Bool) → b ≡ false → (a && b || c) ≡ true → c ≡ true
    later true true c e h = absurd (cc)
    later true false c e h = h
    later false b c e h = h

length-zeros : (n : ℕ) → length {A = ℕ} (replicate n 0) ≡ n
length-zeros zero = refl
length-zeros (suc n) = ap suc (length-zeros n)

zeros_empty : (lengths : List ℕ) → list_any (λ len. len == 0) (replicate (length (or_one lengths)) 0) ≡ true
zeros_empty [] = refl
zeros_empty (len ∷ lengths) = refl

pub squeezed_box : (sizes starts lengths : List ℕ) → is_box_inside sizes starts lengths ≡ true → box_tuples (or_zero (kept_indices sizes starts)) (squeezed_lengths sizes lengths) ≡ map (squeezed_tuple sizes) (box_tuples starts lengths)
squeezed_box sizes starts lengths h =
    let axes = is_box_inside-lengths sizes starts lengths h in
    let same : length (kept_indices sizes starts) ≡ length (kept_indices sizes lengths) = length-kept sizes starts axes.0 ∙ sym (length-kept sizes lengths axes.1) in
    elim (cases_Bool (drops_empty_range sizes lengths)) [
      | inl empty ↦ (let none : box_tuples starts lengths ≡ [] = box_tuples-nothing starts lengths (axes.0 ∙ sym axes.1) (some_empty sizes lengths empty) in
          rw (empty, none) (box_tuples-nothing (or_zero (kept_indices sizes starts)) (replicate (length (or_one (kept_indices sizes lengths))) 0) (or_axes (kept_indices sizes starts) (kept_indices sizes lengths) same ∙ sym (length-zeros (length (or_one (kept_indices sizes lengths))))) (zeros_empty (kept_indices sizes lengths))))
      | inr some ↦ rw some (or_box (kept_indices sizes starts) (kept_indices sizes lengths) same ∙ ap (map or_zero) (kept_box sizes starts lengths h some) ∙ map-map or_zero (kept_indices sizes) (box_tuples starts lengths))
    ]

kept_box_inside : (sizes starts lengths : List ℕ) → is_box_inside sizes starts lengths ≡ true → is_box_inside (above_one sizes) (kept_indices sizes starts) (kept_indices sizes lengths) ≡ true
kept_box_inside [] [] [] h = refl
kept_box_inside [] [] (len ∷ lengths) h = absurd (cc)
kept_box_inside [] (start ∷ starts) lengths h = absurd (cc)
kept_box_inside (size ∷ sizes) [] lengths h = absurd (cc)
kept_box_inside (size ∷ sizes) (start ∷ starts) [] h = absurd (cc)
kept_box_inside (size ∷ sizes) (start ∷ starts) (len ∷ lengths) h =
    let parts = and_parts (nat_le (start + len) size) (is_box_inside sizes starts lengths) h in
    elim (cases_Bool (size == 1)) [
      | inl one ↦ rw one (kept_box_inside sizes starts lengths parts.1)
      | inr other ↦ rw other (and_from _ _ parts.0 (kept_box_inside sizes starts lengths parts.1))
    ]

or_box_inside : (sizes starts lengths : List ℕ) → is_box_inside sizes starts lengths ≡ true → is_box_inside (or_one sizes) (or_zero starts) (or_one lengths) ≡ true
or_box_inside [] [] [] h = refl
or_box_inside [] [] (len ∷ lengths) h = absurd (cc)
or_box_inside [] (start ∷ starts) lengths h = absurd (cc)
or_box_inside (size ∷ sizes) [] lengths h = absurd (cc)
or_box_inside (size ∷ sizes) (start ∷ starts) [] h = absurd (cc)
or_box_inside (size ∷ sizes) (start ∷ starts) (len ∷ lengths) h = h

emptied_inside : (sizes starts lengths : List ℕ) → is_box_inside sizes starts lengths ≡ true → is_box_inside sizes starts (replicate (length lengths) 0) ≡ true
emptied_inside [] [] [] h = refl
emptied_inside [] [] (len ∷ lengths) h = absurd (cc)
emptied_inside [] (start ∷ starts) lengths h = absurd (cc)
emptied_inside (size ∷ sizes) [] lengths h = absurd (cc)
emptied_inside (size ∷ sizes) (start ∷ starts) [] h = absurd (cc)
emptied_inside (size ∷ sizes) (start ∷ starts) (len ∷ lengths) h =
    let parts = and_parts (nat_le (start + len) size) (is_box_inside sizes starts lengths) h in
    let l : start + len ≤ size = from_le_test _ _ parts.0 in
    and_from _ _ (le_test (start + 0) size (omega arith)) (emptied_inside sizes starts lengths parts.1)

pub squeezed_box_inside : (sizes starts lengths : List ℕ) → is_box_inside sizes starts lengths ≡ true → is_box_inside (squeezed sizes) (or_zero (kept_indices sizes starts)) (squeezed_lengths sizes lengths) ≡ true
squeezed_box_inside sizes starts lengths h =
    let inside = or_box_inside (above_one sizes) (kept_indices sizes starts) (kept_indices sizes lengths) (kept_box_inside sizes starts lengths h) in
    elim (cases_Bool (drops_empty_range sizes lengths)) [
      | inl empty ↦ rw empty (emptied_inside (squeezed sizes) (or_zero (kept_indices sizes starts)) (or_one (kept_indices sizes lengths)) inside)
      | inr some ↦ rw some inside
    ]

pub squeezed_image_subset : (sizes : List ℕ) (region : Region) → bounds_of (subset region) sizes ≡ Ok tt → IsImage sizes (same_places (squeezed sizes)) (subset region) (subset (squeezed_region sizes region))
squeezed_image_subset sizes region h =
    let box = subset_inside region sizes h in
    let inside = squeezed_box_inside sizes region.starts region.lengths box in
    let axes = is_box_inside-lengths (squeezed sizes) (or_zero (kept_indices sizes region.starts)) (squeezed_lengths sizes region.lengths) inside in
    record {
      inside = rw (eq_test _ _ axes.0, inside) refl;
      places = ap (map (row_major (squeezed sizes))) (squeezed_box sizes region.starts region.lengths box)
          ∙ each_number sizes (squeezed sizes) (same_places (squeezed sizes)).to (squeezed_tuple sizes) (squeezed_goes sizes) (box_tuples region.starts region.lengths) (box_inside sizes region.starts region.lengths box);
    }

pub squeezed_image : (sizes : List ℕ) (selection : Selection) → bounds_of selection sizes ≡ Ok tt → IsImage sizes (same_places (squeezed sizes)) selection (squeeze_asked sizes selection)
squeezed_image sizes (subset region) h = squeezed_image_subset sizes region h
squeezed_image sizes (indices tuples) h = squeezed_image_indices sizes tuples h
