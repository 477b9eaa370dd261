-- Boxes of regions without elements.
use Rattle.std.proofs.Common.{◌≡◌, ◌∙◌, ℕ, ◌+◌, ◌≤◌, ◌==◌, Bool, true, false, Ok, Some, None, if◌then◌else◌, List, [], ◌∷◌, map, length, arith, refl, ap, sym}
use Rattle.std.specs.List.{list_any}
use Rattle.std.proofs.Math.Nat.{mul-le-mul}
use Rattle.std.proofs.lemmas.Bool.{and_parts}
use Rattle.std.proofs.lemmas.List.{nil_from_length}
use Rattle.zarrs_chunk.specs.Answer.{demand}
use Rattle.zarrs_chunk.specs.ChunkShape.{product, shape_of}
use Rattle.zarrs_chunk.specs.Region.{Region}
use Rattle.zarrs_chunk.specs.Runs.{joined_runs}
use Rattle.zarrs_chunk.specs.Selection.{subset, bounds_of, places_of}
use Rattle.zarrs_chunk.specs.Tuples.{row_major, is_box_inside, box_tuples}
use Rattle.zarrs_chunk.specs.declared.codec_error.CodecError.TheVariants.{IncompatibleDimensionality, OutOfBounds}
use Rattle.zarrs_chunk.proofs.BoxTuples.{length-box_tuples}
use Rattle.zarrs_chunk.proofs.Inside.{from_le_test, is_box_inside-lengths}
use Rattle.zarrs_chunk.proofs.Products.{product_zero}
use Rattle.zarrs_array_bytes.proofs.ValidLemmas.{both_ok, demand_ok}

-- a box has no more elements than what it lies in
pub product_inside : (sizes starts lengths : List ℕ) → is_box_inside sizes starts lengths ≡ true → product lengths ≤ product sizes
product_inside [] [] [] h = omega arith
product_inside [] [] (len ∷ lengths) h = absurd (cc)
product_inside [] (start ∷ starts) lengths h = absurd (cc)
product_inside (size ∷ sizes) [] lengths h = absurd (cc)
product_inside (size ∷ sizes) (start ∷ starts) [] h = absurd (cc)
product_inside (size ∷ sizes) (start ∷ starts) (len ∷ lengths) h =
    let both = and_parts _ _ h in
    let end = from_le_test (start + len) size both.0 in
    let short : len ≤ size = omega (arith, end) in
    mul-le-mul short (product_inside sizes starts lengths both.1)

-- sizes that are no shape have no elements
without_zero : (test : Bool) (sizes : List ℕ) (n : ℕ) → (if test then None else Some sizes) ≡ None → (test ≡ true → n ≡ 0) → n ≡ 0
without_zero true sizes n e h = h refl
without_zero false sizes n e h = absurd (cc)

no_elements : (sizes : List ℕ) → shape_of sizes ≡ None → product sizes ≡ 0
no_elements sizes none = without_zero (list_any (λ size. size == 0) sizes) sizes (product sizes) none (product_zero sizes)

-- in sizes with a zero a box has no places
pub no_places : (sizes : List ℕ) (box : Region) {given : List ℕ} {runs : List (ℕ × ℕ)} → given ≡ sizes → shape_of given ≡ None
    → bounds_of (subset box) sizes ≡ Ok tt → runs ≡ [] → places_of (subset box) sizes ≡ Ok (joined_runs runs)
no_places sizes box {given} {runs} g none bounds r =
    let total = no_elements sizes (ap shape_of (sym g) ∙ none) in
    let within = both_ok (demand (length box.starts == length sizes) IncompatibleDimensionality)
    (demand (is_box_inside sizes box.starts box.lengths) OutOfBounds) bounds in
    let inside = demand_ok (is_box_inside sizes box.starts box.lengths) OutOfBounds within.1 in
    let axes = is_box_inside-lengths sizes box.starts box.lengths inside in
    let fewer = product_inside sizes box.starts box.lengths inside in
    let count = length-box_tuples box.starts box.lengths (axes.0 ∙ sym axes.1) in
    let none_left : length (box_tuples box.starts box.lengths) ≡ 0 = omega (arith, count, fewer, total) in
    rw (bounds, total, r) (ap (λ (ts : List (List ℕ)). Ok (map (row_major sizes) ts)) (nil_from_length (box_tuples box.starts box.lengths) none_left))
