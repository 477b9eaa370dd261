-- What encoded indexers answer.
use Rattle.std.proofs.Common.{◌≡◌, ◌==◌, nat_lt, nat_le, ℕ, zero, suc, ◌+◌, ◌<◌, ◌≤◌, ◌^◌, ◌/◌, true, false, List, [], ◌∷◌, ◌++◌, length, get_or, map, drop, Ok, Err, Result, arith, refl, ap, ap₂, ◌∙◌, sym, inl, inr}
use Rattle.std.specs.List.{All}
use Rattle.std.proofs.lemmas.Bool.{cases_Bool, and_parts, and_from}
use Rattle.std.proofs.lemmas.Bool.Decides.{nat_tests}
use Rattle.std.proofs.lemmas.List.{append_assoc, drop_more}
use Rattle.std.proofs.lemmas.List.Elements.{All-cons}
use Rattle.zarrs_chunk.specs.Answer.{◌>>=◌, demand, checked_u64, seen}
use Rattle.zarrs_array_to_array.proofs.AnswerSteps.{step_ok}
use Rattle.zarrs_chunk.specs.ArraySubset.{ends_fit, subset_of_start_shape}
use Rattle.zarrs_chunk.specs.ChunkShape.{product}
use Rattle.zarrs_chunk.specs.Numbering.{are_of_axes, are_tuples_inside}
use Rattle.zarrs_chunk.specs.Region.{Region}
use Rattle.zarrs_chunk.specs.Selection.{Selection, subset, indices, tuples_of, bounds_of, len_of, places_of}
use Rattle.zarrs_chunk.specs.Tuples.{row_major, box_tuples, is_box_inside, is_tuple_inside}
use Rattle.zarrs_chunk.specs.declared.codec_error.CodecError.{CodecError}
use Rattle.zarrs_chunk.specs.declared.codec_error.CodecError.TheVariants.{ReshapeElements}
use Rattle.zarrs_chunk.proofs.BoxTuples.{length-box_tuples}
use Rattle.zarrs_chunk.proofs.Inside.{is_box_inside-lengths, is_tuple_inside-length}
use Rattle.zarrs_array_to_array.proofs.CheckedTuples.{tuples_inside}
use Rattle.zarrs_array_to_array.specs.ArrayToArrayCodec.{ArrayMapping, IsMapping, transpose, reshape, squeeze, coordinates}
use Rattle.zarrs_array_to_array.specs.Boxes.{EndsFit}
use Rattle.zarrs_codec.specs.CoordinateMap.{CoordinateMap, same_places, IsMapTo}
use Rattle.zarrs_array_to_array.specs.EncodedSelection.{selection_in}
use Rattle.zarrs_array_to_array.specs.SqueezedBoxes.{squeezed_lengths, squeezed_region}
use Rattle.zarrs_codec.specs.MappedSelection.{IsImageBy, image_of}
use Rattle.zarrs_metadata.specs.Orders.{is_order}
use Rattle.zarrs_array_to_array.specs.Orders.{permuted}
use Rattle.zarrs_metadata.specs.Dims.{Dim}
use Rattle.zarrs_array_to_array.specs.Reshape.{reshaped, dims_told, counts_agree, others_of, sizes_with}
use Rattle.zarrs_array_to_array.specs.Squeeze.{above_one, or_one, squeezed, kept_indices, or_zero, squeezed_tuple}
use Rattle.zarrs_chunk.specs.Indices.{tuple_of_number}
use Rattle.zarrs_array_to_array.proofs.ArrayLaws.{array_laws}
use Rattle.zarrs_array_to_array.proofs.Images.{squeezed_box_inside, transposed_image, reshaped_image}
use Rattle.zarrs_metadata.proofs.Orders.{order_parts}
use Rattle.zarrs_array_bytes.proofs.AnswerLemmas.{checked_is}
use Rattle.zarrs_codec.specs.SampleLaws.{eq_test}

-- ---- numbers that fit

-- a box inside sizes that fit ends where 64 bits hold it
pub box_fits : (sizes starts lengths : List ℕ) → is_box_inside sizes starts lengths ≡ true → All (λ size. size < 2 ^ 64) sizes → EndsFit starts lengths
box_fits [] [] [] h fits axis = omega arith
box_fits [] [] (len ∷ lengths) h fits axis = absurd (cc)
box_fits [] (start ∷ starts) lengths h fits axis = absurd (cc)
box_fits (size ∷ sizes) [] lengths h fits axis = absurd (cc)
box_fits (size ∷ sizes) (start ∷ starts) [] h fits axis = absurd (cc)
box_fits (size ∷ sizes) (start ∷ starts) (len ∷ lengths) h fits zero =
    let l : start + len ≤ size = from_le (start + len) size (and_parts (nat_le (start + len) size) (is_box_inside sizes starts lengths) h).0 in
    let s = fits 0 0 (omega arith) in
    omega (arith, l, s)
  where
    from_le : (a b : ℕ) → nat_le a b ≡ true → a ≤ b
    from_le a b h = grind (arith, nat_tests)
box_fits (size ∷ sizes) (start ∷ starts) (len ∷ lengths) h fits (suc axis) =
    box_fits sizes starts lengths (and_parts (nat_le (start + len) size) (is_box_inside sizes starts lengths) h).1 (λ k d l. fits (suc k) d (omega arith)) axis

ends_from : (starts lengths : List ℕ) → EndsFit starts lengths → ends_fit starts lengths ≡ true
ends_from [] lengths fits = refl
ends_from (start ∷ starts) [] fits = refl
ends_from (start ∷ starts) (len ∷ lengths) fits = and_from _ _ (lt_from (start + len) (fits 0)) (ends_from starts lengths (λ axis. fits (suc axis)))
  where
    lt_from : (n : ℕ) → n < 2 ^ 64 → nat_lt n (2 ^ 64) ≡ true
    lt_from n h = grind (arith, nat_tests)

above_one_fits : (sizes : List ℕ) → All (λ size. size < 2 ^ 64) sizes → All (λ size. size < 2 ^ 64) (above_one sizes)
above_one_fits [] h = h
above_one_fits (size ∷ sizes) h =
    let rest = above_one_fits sizes (λ k d l. h (suc k) d (omega arith)) in
    elim (cases_Bool (size == 1)) [
      | inl one ↦ rw one rest
      | inr other ↦ rw other (All-cons (λ n. n < 2 ^ 64) size (above_one sizes) (h 0 0 (omega arith)) rest)
    ]

squeezed_fits : (sizes : List ℕ) → All (λ size. size < 2 ^ 64) (above_one sizes) → All (λ size. size < 2 ^ 64) (squeezed sizes)
squeezed_fits sizes h = go (above_one sizes) h
  where
    go : (kept : List ℕ) → All (λ size. size < 2 ^ 64) kept → All (λ size. size < 2 ^ 64) (or_one kept)
    go [] h = All-cons (λ n. n < 2 ^ 64) 1 [] (omega arith) h
    go (size ∷ kept) h = h

-- ---- squeezing

pub kept_dropped : (sizes xs kept all : List ℕ) (axis : ℕ) → axis < length sizes → axis < length xs → get_or sizes axis 0 ≡ 1 → kept ++ kept_indices (drop axis sizes) (drop axis xs) ≡ all → kept ++ kept_indices (drop (axis + 1) sizes) (drop (axis + 1) xs) ≡ all
kept_dropped sizes xs kept all axis p q one h =
    let test : (get_or sizes axis 0 == 1) ≡ true = eq_from (get_or sizes axis 0) 1 one in
    sym (ap₂ (λ s t. kept ++ kept_indices s t) (drop_more sizes axis 0 p) (drop_more xs axis 0 q) ∙ (rw test refl)) ∙ h
  where
    eq_from : (a b : ℕ) → a ≡ b → (a == b) ≡ true
    eq_from a b h = grind (arith, nat_tests)

pub kept_pushed : (sizes xs kept all : List ℕ) (axis : ℕ) → axis < length sizes → axis < length xs → (get_or sizes axis 0 ≡ 1 → ⊥) → kept ++ kept_indices (drop axis sizes) (drop axis xs) ≡ all → (kept ++ get_or xs axis 0 ∷ []) ++ kept_indices (drop (axis + 1) sizes) (drop (axis + 1) xs) ≡ all
kept_pushed sizes xs kept all axis p q other h =
    let test : (get_or sizes axis 0 == 1) ≡ false = neq_from (get_or sizes axis 0) 1 other in
    append_assoc kept (get_or xs axis 0 ∷ []) (kept_indices (drop (axis + 1) sizes) (drop (axis + 1) xs))
    ∙ sym (ap₂ (λ s t. kept ++ kept_indices s t) (drop_more sizes axis 0 p) (drop_more xs axis 0 q) ∙ (rw test refl)) ∙ h
  where
    neq_from : (a b : ℕ) → (a ≡ b → ⊥) → (a == b) ≡ false
    neq_from a b h = grind (arith, nat_tests)

pub squeezed_made : (sizes : List ℕ) (region : Region) → is_box_inside sizes region.starts region.lengths ≡ true → All (λ size. size < 2 ^ 64) sizes → subset_of_start_shape (squeezed_tuple sizes region.starts) (squeezed_lengths sizes region.lengths) ≡ Ok (squeezed_region sizes region)
squeezed_made sizes region h fits =
    let starts = or_zero (kept_indices sizes region.starts) in
    let lengths = squeezed_lengths sizes region.lengths in
    let inside = squeezed_box_inside sizes region.starts region.lengths h in
    let axes = is_box_inside-lengths (squeezed sizes) starts lengths inside in
    let same : (length starts == length lengths) ≡ true = eq_from (length starts) (length lengths) (axes.0 ∙ sym axes.1) in
    let ends : ends_fit starts lengths ≡ true = ends_from starts lengths (box_fits (squeezed sizes) starts lengths inside (squeezed_fits sizes (above_one_fits sizes fits))) in
    rw (same, ends) refl
  where
    eq_from : (a b : ℕ) → a ≡ b → (a == b) ≡ true
    eq_from a b h = grind (arith, nat_tests)

-- ---- counts

pub box_count : (sizes : List ℕ) (region : Region) (count : ℕ) → is_box_inside sizes region.starts region.lengths ≡ true → len_of (subset region) ≡ Ok count → product region.lengths ≡ count
box_count sizes region count h e =
    let axes = is_box_inside-lengths sizes region.starts region.lengths h in
    sym (length-box_tuples region.starts region.lengths (axes.0 ∙ sym axes.1)) ∙ checked_is (length (box_tuples region.starts region.lengths)) count e

pub reshaped_counted : (dims : List Dim) (sizes encoded : List ℕ) → reshaped dims sizes ≡ Ok encoded → (n : ℕ) × (checked_u64 (product sizes) ≡ Ok n)
reshaped_counted dims sizes encoded h =
    let told = step_ok (dims_told sizes dims) (λ _. checked_u64 (product sizes) >>= λ _. checked_u64 (others_of sizes dims) >>= λ _. demand (counts_agree sizes dims) ReshapeElements >>= λ _. Ok (sizes_with (product sizes / others_of sizes dims) sizes dims)) encoded h in
    let input = step_ok (checked_u64 (product sizes)) (λ _. checked_u64 (others_of sizes dims) >>= λ _. demand (counts_agree sizes dims) ReshapeElements >>= λ _. Ok (sizes_with (product sizes / others_of sizes dims) sizes dims)) encoded told.2 in
    (input.0, input.1)

pub places_known : (dims : List Dim) (sizes encoded : List ℕ) (selection : Selection) → reshaped dims sizes ≡ Ok encoded → bounds_of selection sizes ≡ Ok tt → places_of selection sizes ≡ Ok (map (row_major sizes) (tuples_of selection))
places_known dims sizes encoded selection h inside = rw (inside, (reshaped_counted dims sizes encoded h).1) refl

-- ---- a shape that a codec takes

pub reshaped_seen : (dims : List Dim) (sizes : List ℕ) → seen (λ m. m.encoded) (coordinates (reshape dims) sizes) ≡ reshaped dims sizes
reshaped_seen dims sizes = go (reshaped dims sizes)
  where
    go : (r : Result (List ℕ) CodecError) → seen (λ m. m.encoded) (r >>= λ encoded. Ok (same_places encoded)) ≡ r
    go (Ok encoded) = refl
    go (Err e) = refl

pub map_to : (codec : ArrayMapping) (sizes next : List ℕ) → IsMapping codec → All (λ size. 0 < size) sizes → seen (λ m. m.encoded) (coordinates codec sizes) ≡ Ok next → IsMapTo (coordinates codec sizes) sizes next
map_to codec sizes next is positive h = go (coordinates codec sizes) refl h
  where
    go : (r : Result CoordinateMap CodecError) → coordinates codec sizes ≡ r → seen (λ m. m.encoded) r ≡ Ok next → IsMapTo (coordinates codec sizes) sizes next
    go (Ok m) e h = rw e (cc, (array_laws codec).map_is sizes m is positive e)
    go (Err x) e h = absurd (cc)

-- ---- transposition

pub transposed_image_by : (order sizes : List ℕ) (selection : Selection) → is_order order ≡ true → length order ≡ length sizes → bounds_of selection sizes ≡ Ok tt → IsImageBy (coordinates (transpose order) sizes) sizes selection (indices (map (permuted order) (tuples_of selection)))
transposed_image_by order sizes selection o axes h = rw (eq_test (length order) (length sizes) axes) (transposed_image order sizes selection (order_parts order o) axes h)

pub lists_have_axes : (order sizes : List ℕ) (tuples : List (List ℕ)) → length order ≡ length sizes → bounds_of (indices tuples) sizes ≡ Ok tt → are_of_axes (length order) tuples ≡ true
lists_have_axes order sizes tuples axes h = go tuples (tuples_inside tuples sizes (sym h))
  where
    go : (tuples : List (List ℕ)) → are_tuples_inside sizes tuples ≡ true → are_of_axes (length order) tuples ≡ true
    go [] h = refl
    go (tuple ∷ tuples) h =
        let parts = and_parts (is_tuple_inside sizes tuple) (are_tuples_inside sizes tuples) h in
        and_from _ _ (eq_test (length tuple) (length order) (is_tuple_inside-length sizes tuple parts.0 ∙ sym axes)) (go tuples parts.1)

-- ---- reshaping

pub map_count : (r : Result CoordinateMap CodecError) (sizes next : List ℕ) → IsMapTo r sizes next → product next ≡ product sizes
map_count (Ok m) sizes next h = ap product (sym h.0) ∙ h.1.count
map_count (Err e) sizes next h = absurd h

module _ (dims : List Dim) (sizes encoded places : List ℕ) (selection : Selection) (inside : bounds_of selection sizes ≡ Ok tt) (takes : seen (λ m. m.encoded) (coordinates (reshape dims) sizes) ≡ Ok encoded) (at : places_of selection sizes ≡ Ok places) where
  takes_shape : reshaped dims sizes ≡ Ok encoded
  takes_shape = sym (reshaped_seen dims sizes) ∙ takes

  places_are : places ≡ map (row_major sizes) (tuples_of selection)
  places_are = let known = places_known dims sizes encoded selection takes_shape inside in cc

  pub reshaped_asked : (n : ℕ) → len_of selection ≡ Ok n → image_of (coordinates (reshape dims) sizes) (selection_in (reshape dims) sizes) sizes selection ≡ Ok (indices (map (tuple_of_number encoded) places))
  reshaped_asked n count = rw (inside, takes_shape, count) (ap (λ ps. Ok (indices (map (tuple_of_number encoded) ps))) (sym places_are))

  pub reshaped_image_by : product encoded ≡ product sizes → IsImageBy (coordinates (reshape dims) sizes) sizes selection (indices (map (tuple_of_number encoded) places))
  reshaped_image_by same = rw (takes_shape, places_are) (reshaped_image sizes encoded selection same inside)

pub transposed_to : (order sizes next : List ℕ) → is_order order ≡ true → length order ≡ length sizes → All (λ size. 0 < size) sizes → ◌≡◌ {A = Result (List ℕ) CodecError} (Ok (permuted order sizes)) (Ok next) → IsMapTo (coordinates (transpose order) sizes) sizes next
transposed_to order sizes next o axes positive e = map_to (transpose order) sizes next o positive (rw (eq_test (length order) (length sizes) axes) e)

pub squeezed_to : (sizes next : List ℕ) → All (λ size. 0 < size) sizes → squeezed sizes ≡ next → IsMapTo (coordinates squeeze sizes) sizes next
squeezed_to sizes next positive e = map_to squeeze sizes next tt positive (ap (λ s. Ok s) e)
