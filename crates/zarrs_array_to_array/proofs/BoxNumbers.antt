-- The tuples of a box, counted.
use Rattle.std.proofs.Common.{◌≡◌, ℕ, zero, suc, ◌<◌, ◌≤◌, nat_lt, true, Some, get_or, List, [], ◌∷◌, length, map, arith, ap, ◌∙◌}
use Rattle.std.specs.List.{All, range_with_len}
use Rattle.std.proofs.lemmas.Bool.{and_parts}
use Rattle.std.proofs.lemmas.List.{nil_from_length}
use Rattle.std.proofs.lemmas.List.Elements.{All-cons}
use Rattle.std.proofs.lemmas.Simd.{map-map}
use Rattle.zarrs_chunk.specs.ChunkShape.{product, shape_of}
use Rattle.zarrs_chunk.specs.Tuples.{box_tuples, is_tuple_inside}
use Rattle.zarrs_chunk.proofs.BoxTuples.{length-box_tuples}
use Rattle.zarrs_chunk.proofs.Inside.{is_tuple_inside-at}
use Rattle.zarrs_chunk.specs.Indices.{box_tuple, tuple_of_number}
use Rattle.zarrs_array_to_array.specs.Boxes.{EndsFit}
use Rattle.zarrs_array_to_array.specs.Orders.{permuted}
use Rattle.zarrs_array_to_array.proofs.Transposition.{shape_of-positive}
use Rattle.zarrs_chunk.proofs.NumberedTuples.{factor_positive, tuple_of_number-inside, box_tuples-numbered}

inside_at_most : (sizes tuple : List ℕ) → is_tuple_inside sizes tuple ≡ true → (axis : ℕ) → get_or tuple axis 0 ≤ get_or sizes axis 0
inside_at_most [] [] h axis = omega arith
inside_at_most [] (index ∷ tuple) h axis = absurd (cc)
inside_at_most (size ∷ sizes) [] h axis = absurd (cc)
inside_at_most (size ∷ sizes) (index ∷ tuple) h zero = let l = is_tuple_inside-at (size ∷ sizes) (index ∷ tuple) 0 h (omega arith) in omega (arith, l)
inside_at_most (size ∷ sizes) (index ∷ tuple) h (suc axis) = inside_at_most sizes tuple (and_parts (nat_lt index size) (is_tuple_inside sizes tuple) h).1 axis

-- an index of a tuple inside a box fits behind its start where the box's length does
pub index_fits : (starts lengths : List ℕ) (number : ℕ) → number < product lengths → EndsFit starts lengths → EndsFit starts (tuple_of_number lengths number)
index_fits starts lengths number l fits = λ axis. let most = inside_at_most lengths (tuple_of_number lengths number) (tuple_of_number-inside lengths number l) axis in omega (arith, fits axis, most)

pub box_ordered : (order starts lengths : List ℕ) (count : ℕ) → length starts ≡ length lengths → product lengths ≡ count → map (permuted order) (box_tuples starts lengths) ≡ map (λ number. permuted order (box_tuple starts lengths number)) (range_with_len 0 count)
box_ordered order starts lengths count e c =
    ap (map (permuted order)) (box_tuples-numbered starts lengths e)
    ∙ map-map (permuted order) (box_tuple starts lengths) (range_with_len 0 (product lengths))
    ∙ ap (λ n. map (λ number. permuted order (box_tuple starts lengths number)) (range_with_len 0 n)) c

pub box_empty : (order starts lengths : List ℕ) → length starts ≡ length lengths → product lengths ≡ 0 → map (permuted order) (box_tuples starts lengths) ≡ []
box_empty order starts lengths e c = ap (map (permuted order)) (nil_from_length (box_tuples starts lengths) (length-box_tuples starts lengths e ∙ c))

pub factors_positive : (sizes : List ℕ) → 0 < product sizes → All (λ size. 0 < size) sizes
factors_positive [] h = λ k d l. absurd (omega arith)
factors_positive (zero ∷ sizes) h = absurd (omega arith)
factors_positive (suc size ∷ sizes) h = All-cons (λ n. 0 < n) (suc size) sizes (omega arith) (factors_positive sizes (factor_positive 0 (suc size) (product sizes) h))

pub shape_of-filled : (sizes : List ℕ) (count : ℕ) → product sizes ≡ count → (count ≡ 0 → ⊥) → shape_of sizes ≡ Some sizes
shape_of-filled sizes count e some = let p : 0 < product sizes = omega arith in shape_of-positive sizes (factors_positive sizes p)
