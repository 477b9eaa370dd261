-- A selection of a squeezed chunk has as many tuples as the one of the decoded chunk.
use Rattle.std.specs.Prelude.{◌≡◌, ℕ, suc, ◌+◌, ◌*◌, ◌==◌, ◌&&◌, ◌||◌, ◌≤◌, nat_le, Bool, true, false, List, [], ◌∷◌, length, replicate, Ok, refl}
use Rattle.std.proofs.Common.{sym, ap, ◌∙◌, arith, inl, inr}
use Rattle.std.proofs.lemmas.Bool.{false≢true, cases_Bool}
use Rattle.std.proofs.lemmas.Bool.Decides.{nat_tests}
use Rattle.std.proofs.lemmas.List.{length-map, length-replicate}
use Rattle.zarrs_chunk.specs.Answer.{◌>>=◌, demand}
use Rattle.zarrs_chunk.specs.declared.codec_error.CodecError.TheVariants.{IncompatibleDimensionality, OutOfBounds}
use Rattle.zarrs_chunk.specs.ChunkShape.{product}
use Rattle.zarrs_chunk.specs.Region.{Region}
use Rattle.zarrs_chunk.specs.Selection.{Selection, subset, indices, tuples_of, bounds_of}
use Rattle.zarrs_chunk.specs.Tuples.{is_box_inside, box_tuples}
use Rattle.zarrs_chunk.proofs.BoxTuples.{length-box_tuples}
use Rattle.zarrs_array_to_array.specs.SqueezedBoxes.{drops_empty_range, squeeze_asked, squeezed_lengths}
use Rattle.zarrs_array_to_array.specs.Squeeze.{kept_indices, or_one, or_zero, squeezed_tuple}
use Rattle.zarrs_chunk.proofs.Products.{is_zero}
use Rattle.zarrs_array_bytes.specs.SameBytesLaws.{both_true}

-- ---- boxes without their axes of size one

one_left : (size start len : ℕ) → (size == 1) ≡ true → start + len ≤ size → (len == 0) ≡ false → len ≡ 1
one_left size start len one h some = grind (arith, nat_tests)

neither : (a b c : Bool) → (a && b) || c ≡ false → a ≡ true → (b ≡ false) × (c ≡ false)
neither true false false h e = (refl, refl)
neither true false true h e = cc
neither true true c h e = cc
neither false b c h e = cc

rest_false : (a b c : Bool) → (a && b) || c ≡ false → c ≡ false
rest_false a b false h = refl
rest_false true true true h = h
rest_false true false true h = h
rest_false false b true h = h

inside_first : (start len size : ℕ) → nat_le (start + len) size ≡ true → start + len ≤ size
inside_first start len size h = grind (arith, nat_tests)

kept_product : (sizes starts lengths : List ℕ) → is_box_inside sizes starts lengths ≡ true → drops_empty_range sizes lengths ≡ false → product (kept_indices sizes lengths) ≡ product lengths
kept_product [] [] [] h some = refl
kept_product [] [] (len ∷ lengths) h some = absurd (false≢true h)
kept_product [] (start ∷ starts) lengths h some = absurd (false≢true h)
kept_product (size ∷ sizes) [] lengths h some = absurd (false≢true h)
kept_product (size ∷ sizes) (start ∷ starts) [] h some = absurd (false≢true h)
kept_product (size ∷ sizes) (start ∷ starts) (len ∷ lengths) h some =
    let inside = both_true (nat_le (start + len) size) (is_box_inside sizes starts lengths) h in
    let rest : product (kept_indices sizes lengths) ≡ product lengths = kept_product sizes starts lengths inside.1 (rest_false (size == 1) (len == 0) (drops_empty_range sizes lengths) some) in
    elim (cases_Bool (size == 1)) [
      | inl one ↦
          let is : len ≡ 1 = one_left size start len one (inside_first start len size inside.0) (neither (size == 1) (len == 0) (drops_empty_range sizes lengths) some one).0 in
          rw one (rest ∙ (let e : product lengths ≡ 1 * product lengths = omega arith in e) ∙ ap (λ n. n * product lengths) (sym is))
      | inr other ↦ rw other (ap (λ n. len * n) rest)
    ]

emptied_product : (sizes lengths : List ℕ) → drops_empty_range sizes lengths ≡ true → product lengths ≡ 0
emptied_product [] lengths h = absurd (false≢true h)
emptied_product (size ∷ sizes) [] h = absurd (false≢true h)
emptied_product (size ∷ sizes) (len ∷ lengths) h =
    elim (cases_Bool (size == 1 && len == 0)) [
      | inl empty ↦ ap (λ n. n * product lengths) (is_zero len (both_true (size == 1) (len == 0) empty).1) ∙ omega arith
      | inr some ↦ ap (λ n. len * n) (emptied_product sizes lengths (rw some at h)) ∙ omega arith
    ]

product-nothing : (n : ℕ) → product (replicate (suc n) 0) ≡ 0
product-nothing n = omega arith

pub product-or_one : (xs : List ℕ) → product (or_one xs) ≡ product xs
product-or_one [] = refl
product-or_one (x ∷ xs) = refl

some_lengths : (xs : List ℕ) → product (replicate (length (or_one xs)) 0) ≡ 0
some_lengths [] = product-nothing 0
some_lengths (x ∷ xs) = product-nothing (length xs)

squeezed_product : (sizes starts lengths : List ℕ) → is_box_inside sizes starts lengths ≡ true → product (squeezed_lengths sizes lengths) ≡ product lengths
squeezed_product sizes starts lengths h =
    elim (cases_Bool (drops_empty_range sizes lengths)) [
      | inl empty ↦ rw empty (some_lengths (kept_indices sizes lengths) ∙ sym (emptied_product sizes lengths empty))
      | inr some ↦ rw some (product-or_one (kept_indices sizes lengths) ∙ kept_product sizes starts lengths h some)
    ]

-- ---- one range an axis

box_axes : (sizes starts lengths : List ℕ) → is_box_inside sizes starts lengths ≡ true → length starts ≡ length lengths
box_axes [] [] [] h = refl
box_axes [] [] (len ∷ lengths) h = absurd (false≢true h)
box_axes [] (start ∷ starts) lengths h = absurd (false≢true h)
box_axes (size ∷ sizes) [] lengths h = absurd (false≢true h)
box_axes (size ∷ sizes) (start ∷ starts) [] h = absurd (false≢true h)
box_axes (size ∷ sizes) (start ∷ starts) (len ∷ lengths) h = ap suc (box_axes sizes starts lengths (both_true (nat_le (start + len) size) (is_box_inside sizes starts lengths) h).1)

kept_axes : (sizes xs ys : List ℕ) → length xs ≡ length ys → length (kept_indices sizes xs) ≡ length (kept_indices sizes ys)
kept_axes [] xs ys h = refl
kept_axes (size ∷ sizes) [] [] h = refl
kept_axes (size ∷ sizes) [] (y ∷ ys) h = absurd (omega arith)
kept_axes (size ∷ sizes) (x ∷ xs) [] h = absurd (omega arith)
kept_axes (size ∷ sizes) (x ∷ xs) (y ∷ ys) h =
    let rest : length (kept_indices sizes xs) ≡ length (kept_indices sizes ys) = kept_axes sizes xs ys (omega arith) in
    elim (cases_Bool (size == 1)) [ inl one ↦ rw one rest | inr other ↦ rw other (ap suc rest) ]

pub or_axes : (xs ys : List ℕ) → length xs ≡ length ys → length (or_zero xs) ≡ length (or_one ys)
or_axes [] [] h = refl
or_axes [] (y ∷ ys) h = absurd (omega arith)
or_axes (x ∷ xs) [] h = absurd (omega arith)
or_axes (x ∷ xs) (y ∷ ys) h = h

squeezed_axes : (sizes starts lengths : List ℕ) → length starts ≡ length lengths → length (or_zero (kept_indices sizes starts)) ≡ length (squeezed_lengths sizes lengths)
squeezed_axes sizes starts lengths h =
    let axes : length (or_zero (kept_indices sizes starts)) ≡ length (or_one (kept_indices sizes lengths)) = or_axes (kept_indices sizes starts) (kept_indices sizes lengths) (kept_axes sizes starts lengths h) in
    elim (cases_Bool (drops_empty_range sizes lengths)) [
      | inl empty ↦ rw empty (axes ∙ sym (length-replicate (length (or_one (kept_indices sizes lengths))) (let z : ℕ = 0 in z)))
      | inr some ↦ rw some axes
    ]

squeezed_count : (sizes starts lengths : List ℕ) → is_box_inside sizes starts lengths ≡ true → length (box_tuples (or_zero (kept_indices sizes starts)) (squeezed_lengths sizes lengths)) ≡ length (box_tuples starts lengths)
squeezed_count sizes starts lengths h =
    let axes : length starts ≡ length lengths = box_axes sizes starts lengths h in
    length-box_tuples (or_zero (kept_indices sizes starts)) (squeezed_lengths sizes lengths) (squeezed_axes sizes starts lengths axes)
    ∙ squeezed_product sizes starts lengths h ∙ sym (length-box_tuples starts lengths axes)

-- ---- selections

box_inside : (sizes : List ℕ) (region : Region) → bounds_of (subset region) sizes ≡ Ok tt → is_box_inside sizes region.starts region.lengths ≡ true
box_inside sizes region h =
    by_tests (length region.starts == length sizes) (is_box_inside sizes region.starts region.lengths) h
  where
    by_tests : (a b : Bool) → (demand a IncompatibleDimensionality >>= λ _. demand b OutOfBounds) ≡ Ok tt → b ≡ true
    by_tests true true e = refl
    by_tests true false e = cc
    by_tests false b e = cc

pub squeeze_asks_as_many : (sizes : List ℕ) (selection : Selection) → bounds_of selection sizes ≡ Ok tt → length (tuples_of (squeeze_asked sizes selection)) ≡ length (tuples_of selection)
squeeze_asks_as_many sizes (subset region) h = squeezed_count sizes region.starts region.lengths (box_inside sizes region h)
squeeze_asks_as_many sizes (indices tuples) h = length-map tuples (squeezed_tuple sizes)
