-- Boxes with their axes in another order.
use Rattle.std.proofs.Common.{◌≡◌, ◌==◌, ◌^◌, ◌<◌, ◌+◌, ℕ, suc, true, false, List, [], ◌∷◌, length, get_or, Result, Ok, arith, refl, ap, ◌∙◌, sym, inl, inr}
use Rattle.std.specs.Prelude.{is_ok}
use Rattle.std.proofs.lemmas.Bool.{and_from, eq-eqb, eqb-true, lt-ltb, cases_Bool}
use Rattle.zarrs_chunk.specs.ArraySubset.{ends_fit, subset_of_start_shape}
use Rattle.zarrs_chunk.specs.Region.{Region}
use Rattle.zarrs_chunk.specs.Tuples.{is_box_inside}
use Rattle.zarrs_chunk.specs.declared.codec_error.CodecError.{CodecError}
use Rattle.zarrs_chunk.proofs.Inside.{is_box_inside-lengths}
use Rattle.zarrs_metadata.specs.Orders.{is_order}
use Rattle.zarrs_metadata.proofs.Orders.{order_parts}
use Rattle.zarrs_array_to_array.specs.ArrayToArrayCodec.{transpose, coordinates}
use Rattle.zarrs_array_to_array.specs.Orders.{permuted}
use Rattle.zarrs_array_to_array.specs.TransposeMeaning.{permuted_region}
use Rattle.zarrs_array_to_array.proofs.Orders.{length-permuted}

ends_of : (starts lengths order : List ℕ) → ((axis : ℕ) → axis < length starts → get_or starts axis 0 + get_or lengths axis 0 < 2 ^ 64) → ((i : ℕ) → i < length order → get_or order i 0 < length starts) → ends_fit (permuted order starts) (permuted order lengths) ≡ true
ends_of starts lengths [] fit below = refl
ends_of starts lengths (axis ∷ order) fit below =
    and_from _ _ (lt-ltb (get_or starts axis 0 + get_or lengths axis 0) (2 ^ 64) (fit axis (below 0 (omega arith)))) (ends_of starts lengths order fit (λ i l. below (suc i) (omega arith)))

pub permuted_made : (order : List ℕ) (region : Region) (xs ys : List ℕ) (r : Result Region CodecError) → is_order order ≡ true → length order ≡ length region.starts → ((axis : ℕ) → axis < length region.starts → get_or region.starts axis 0 + get_or region.lengths axis 0 < 2 ^ 64)
    → xs ≡ permuted order region.starts → ys ≡ permuted order region.lengths → r ≡ subset_of_start_shape xs ys → r ≡ Ok (permuted_region order region)
permuted_made order region xs ys r h e fit x y is =
    let o = order_parts order h in
    let same : length (permuted order region.starts) ≡ length (permuted order region.lengths) = length-permuted order region.starts ∙ sym (length-permuted order region.lengths) in
    let ends : ends_fit (permuted order region.starts) (permuted order region.lengths) ≡ true = ends_of region.starts region.lengths order fit (λ i l. let b = o.below i l in omega arith) in
    let made : subset_of_start_shape (permuted order region.starts) (permuted order region.lengths) ≡ Ok (permuted_region order region) = rw (eq-eqb (length (permuted order region.starts)) (length (permuted order region.lengths)) same, ends) refl in
    is ∙ ap (λ s. subset_of_start_shape s ys) x ∙ ap (subset_of_start_shape (permuted order region.starts)) y ∙ made

pub order_axes : (order sizes : List ℕ) → is_ok (coordinates (transpose order) sizes) ≡ true → length order ≡ length sizes
order_axes order sizes h =
    elim (cases_Bool (length order == length sizes)) [
      | inl same ↦ eqb-true (length order) (length sizes) same
      | inr other ↦ absurd (let bad : false ≡ true = rw other at h in cc)
    ]

-- an order of as many axes as the chunk has as many as the region has
pub order_starts : (order sizes : List ℕ) (region : Region) → is_ok (coordinates (transpose order) sizes) ≡ true → is_box_inside sizes region.starts region.lengths ≡ true → length order ≡ length region.starts
order_starts order sizes region h inside = order_axes order sizes h ∙ sym (is_box_inside-lengths sizes region.starts region.lengths inside).0
