-- The inner chunk of a number: where it begins, and the places of its elements.
use Rattle.std.proofs.Common.{◌≡◌, ℕ, Bool, false, Option, Some, None, zero, suc, ◌≤◌, if◌then◌else◌, subst, ◌+◌, ◌*◌, ◌/◌, ◌%◌, ◌<◌, ◌^◌, ◌++◌, nat_eq, nat_lt, true, get_or, List, [], ◌∷◌, length, drop, map, Ok, arith, refl, ap, sym, ◌∙◌}
use Rattle.std.specs.List.{All, range_with_len}
use Rattle.std.proofs.lemmas.Bool.{and_from, eq-eqb, eqb-true}
use Rattle.std.proofs.lemmas.List.{append_assoc, drop_more}
use Rattle.std.proofs.lemmas.List.Elements.{All-head, All-tail}
use Rattle.std.proofs.lemmas.Simd.{map-map}
use Rattle.zarrs_array_to_array.proofs.AnswerSteps.{some_is}
use Rattle.zarrs_chain_meaning.proofs.InnerChunks.{part_within}
use Rattle.zarrs_chain_meaning.specs.sharding.InnerChunks.{is_divided, grid, inner_chunk_places}
use Rattle.zarrs_grid.specs.ChunkTuples.{quotients, tuple_in_array}
use Rattle.zarrs_chain_meaning.specs.sharding.ShardSteps.{divided, inner_start, inner_region}
use Rattle.zarrs_chunk.proofs.Inside.{is_box_inside-lengths, le_test, lt_test, from_lt_test}
use Rattle.zarrs_chunk.proofs.NumberedTuples.{box_tuples-numbered, tuple_of_number-row_major}
use Rattle.zarrs_chunk.specs.ArraySubset.{ends_fit, subset_of_start_shape}
use Rattle.zarrs_chunk.specs.ChunkShape.{product}
use Rattle.zarrs_chunk.specs.Indices.{tuple_of_number, indices_behind, box_tuple, IsTupleOfNumber}
use Rattle.zarrs_chunk.specs.Selection.{subset, places_of}
use Rattle.zarrs_chunk.specs.Tuples.{row_major, is_tuple_inside, box_tuples, is_box_inside}
use Rattle.zarrs_codec.proofs.Fences.{second_true, first_true}

-- ---- axis by axis

pub start_at : (shape numbers : List ℕ) (axis : ℕ) → axis < length shape → axis < length numbers → inner_start (drop axis shape) (drop axis numbers) ≡ get_or numbers axis 0 * get_or shape axis 0 ∷ inner_start (drop (axis + 1) shape) (drop (axis + 1) numbers)
start_at shape numbers axis l h = λ i. inner_start (drop_more shape axis 0 l i) (drop_more numbers axis 0 h i)

-- one number more of a list
pub one_more : (done : List ℕ) (n : ℕ) (rest others all : List ℕ) → others ≡ n ∷ rest → done ++ others ≡ all → (done ++ n ∷ []) ++ rest ≡ all
one_more done n rest others all e h = append_assoc done (n ∷ []) rest ∙ ap (λ (xs : List ℕ). done ++ xs) (sym e) ∙ h

by_test : (test : Bool) (xs ys : List ℕ) → ◌≡◌ {A = Option (List ℕ)} (Some xs) (if test then Some ys else None) → (test ≡ true) × (xs ≡ ys)
by_test true xs ys e = (refl, some_is xs ys e)
by_test false xs ys e = absurd cc

-- numbers that were found are how often each part goes into its size
pub divided_is : (shape sizes xs : List ℕ) → ◌≡◌ {A = Option (List ℕ)} (Some xs) (divided shape sizes) → (is_divided shape sizes ≡ true) × (xs ≡ quotients shape sizes)
divided_is shape sizes xs e = by_test (is_divided shape sizes) xs (quotients shape sizes) e

pub not_none : (xs : List ℕ) → ◌≡◌ {A = Option (List ℕ)} None (Some xs) → ⊥
not_none xs e = cc

-- a tuple that was found by its number is that of the number
pub tuple_found : (sizes : List ℕ) (number : ℕ) (found : Option (List ℕ)) (tuple : List ℕ) → IsTupleOfNumber sizes number found → found ≡ Some tuple → (is_tuple_inside sizes tuple ≡ true) × (tuple ≡ tuple_of_number sizes number)
tuple_found sizes number found tuple h e =
    let p = subst (IsTupleOfNumber sizes number) e h in
    (p.0, sym (tuple_of_number-row_major sizes tuple p.0) ∙ ap (tuple_of_number sizes) p.1)

-- ---- the box of an inner chunk

pub start_within : (shape sizes numbers : List ℕ) → is_divided shape sizes ≡ true → is_tuple_inside (quotients shape sizes) numbers ≡ true → is_box_inside sizes (inner_start shape numbers) shape ≡ true
start_within [] [] [] d h = refl
start_within [] [] (number ∷ numbers) d h = absurd cc
start_within [] (size ∷ sizes) numbers d h = absurd cc
start_within (part ∷ shape) [] numbers d h = absurd cc
start_within (part ∷ shape) (size ∷ sizes) [] d h = absurd cc
start_within (part ∷ shape) (size ∷ sizes) (number ∷ numbers) d h =
    let even = eqb-true (size % part) 0 (first_true (nat_eq (size % part) 0) (is_divided shape sizes) d) in
    let below = from_lt_test number (size / part) (first_true (nat_lt number (size / part)) (is_tuple_inside (quotients shape sizes) numbers) h) in
    and_from _ _ (le_test _ _ (part_within number size part even below))
    (start_within shape sizes numbers (second_true (nat_eq (size % part) 0) (is_divided shape sizes) d) (second_true (nat_lt number (size / part)) (is_tuple_inside (quotients shape sizes) numbers) h))

pub numbers_long : (shape sizes numbers : List ℕ) → is_divided shape sizes ≡ true → is_tuple_inside (quotients shape sizes) numbers ≡ true → length numbers ≡ length shape
numbers_long [] [] [] d h = refl
numbers_long [] [] (number ∷ numbers) d h = absurd cc
numbers_long [] (size ∷ sizes) numbers d h = absurd cc
numbers_long (part ∷ shape) [] numbers d h = absurd cc
numbers_long (part ∷ shape) (size ∷ sizes) [] d h = absurd cc
numbers_long (part ∷ shape) (size ∷ sizes) (number ∷ numbers) d h =
    ap suc (numbers_long shape sizes numbers (second_true (nat_eq (size % part) 0) (is_divided shape sizes) d) (second_true (nat_lt number (size / part)) (is_tuple_inside (quotients shape sizes) numbers) h))

pub number_within : (shape sizes numbers : List ℕ) (axis : ℕ) → is_divided shape sizes ≡ true → is_tuple_inside (quotients shape sizes) numbers ≡ true → axis < length shape → get_or numbers axis 0 * get_or shape axis 0 + get_or shape axis 0 ≤ get_or sizes axis 0
number_within [] sizes numbers axis d h l = absurd (omega (arith, l))
number_within (part ∷ shape) [] numbers axis d h l = absurd cc
number_within (part ∷ shape) (size ∷ sizes) [] axis d h l = absurd cc
number_within (part ∷ shape) (size ∷ sizes) (number ∷ numbers) zero d h l =
    part_within number size part (eqb-true (size % part) 0 (first_true (nat_eq (size % part) 0) (is_divided shape sizes) d)) (from_lt_test number (size / part) (first_true (nat_lt number (size / part)) (is_tuple_inside (quotients shape sizes) numbers) h))
number_within (part ∷ shape) (size ∷ sizes) (number ∷ numbers) (suc axis) d h l =
    number_within shape sizes numbers axis (second_true (nat_eq (size % part) 0) (is_divided shape sizes) d) (second_true (nat_lt number (size / part)) (is_tuple_inside (quotients shape sizes) numbers) h) (omega (arith, l))

start_fits : (shape sizes numbers : List ℕ) → is_divided shape sizes ≡ true → is_tuple_inside (quotients shape sizes) numbers ≡ true → All (λ size. size < 2 ^ 64) sizes → ends_fit (inner_start shape numbers) shape ≡ true
start_fits [] [] [] d h small = refl
start_fits [] [] (number ∷ numbers) d h small = absurd cc
start_fits [] (size ∷ sizes) numbers d h small = absurd cc
start_fits (part ∷ shape) [] numbers d h small = absurd cc
start_fits (part ∷ shape) (size ∷ sizes) [] d h small = absurd cc
start_fits (part ∷ shape) (size ∷ sizes) (number ∷ numbers) d h small =
    let even = eqb-true (size % part) 0 (first_true (nat_eq (size % part) 0) (is_divided shape sizes) d) in
    let below = from_lt_test number (size / part) (first_true (nat_lt number (size / part)) (is_tuple_inside (quotients shape sizes) numbers) h) in
    let within = part_within number size part even below in
    let one : size < 2 ^ 64 = All-head (λ size. size < 2 ^ 64) size sizes small in
    and_from _ _ (lt_test (number * part + part) (2 ^ 64) (omega (arith, within, one)))
    (start_fits shape sizes numbers (second_true (nat_eq (size % part) 0) (is_divided shape sizes) d) (second_true (nat_lt number (size / part)) (is_tuple_inside (quotients shape sizes) numbers) h) (All-tail (λ size. size < 2 ^ 64) size sizes small))

pub start_long : (shape sizes numbers : List ℕ) → is_divided shape sizes ≡ true → is_tuple_inside (quotients shape sizes) numbers ≡ true → length (inner_start shape numbers) ≡ length shape
start_long shape sizes numbers d h =
    let long = is_box_inside-lengths sizes (inner_start shape numbers) shape (start_within shape sizes numbers d h) in
    long.0 ∙ sym long.1

pub region_made : (shape sizes numbers : List ℕ) → is_divided shape sizes ≡ true → is_tuple_inside (quotients shape sizes) numbers ≡ true → All (λ size. size < 2 ^ 64) sizes → subset_of_start_shape (inner_start shape numbers) shape ≡ Ok (inner_region shape numbers)
region_made shape sizes numbers d h small =
    rw (eq-eqb (length (inner_start shape numbers)) (length shape) (start_long shape sizes numbers d h), start_fits shape sizes numbers d h small) refl

-- ---- places

tuple_behind : (shape numbers tuple : List ℕ) → tuple_in_array shape numbers tuple ≡ indices_behind (inner_start shape numbers) tuple
tuple_behind [] numbers tuple = refl
tuple_behind (part ∷ shape) [] tuple = refl
tuple_behind (part ∷ shape) (number ∷ numbers) [] = refl
tuple_behind (part ∷ shape) (number ∷ numbers) (index ∷ tuple) = λ i. (number * part + index) ∷ tuple_behind shape numbers tuple i

region_places : (shape sizes : List ℕ) (number : ℕ) → length (inner_start shape (tuple_of_number (grid shape sizes) number)) ≡ length shape
    → map (row_major sizes) (box_tuples (inner_start shape (tuple_of_number (grid shape sizes) number)) shape) ≡ inner_chunk_places shape sizes number
region_places shape sizes number e =
    let numbers = tuple_of_number (grid shape sizes) number in
    let start = inner_start shape numbers in
    ap (map (row_major sizes)) (box_tuples-numbered start shape e)
    ∙ map-map (row_major sizes) (box_tuple start shape) (range_with_len 0 (product shape))
    ∙ (λ i. map (λ inside. row_major sizes (sym (tuple_behind shape numbers (tuple_of_number shape inside)) i)) (range_with_len 0 (product shape)))

-- the places that the box selects are those of the inner chunk
pub places_found : (shape sizes : List ℕ) (number : ℕ) → is_divided shape sizes ≡ true → is_tuple_inside (grid shape sizes) (tuple_of_number (grid shape sizes) number) ≡ true → product sizes < 2 ^ 64
    → places_of (subset (inner_region shape (tuple_of_number (grid shape sizes) number))) sizes ≡ Ok (inner_chunk_places shape sizes number)
places_found shape sizes number d h small =
    let numbers = tuple_of_number (grid shape sizes) number in
    let within = start_within shape sizes numbers d h in
    let long = is_box_inside-lengths sizes (inner_start shape numbers) shape within in
    rw (eq-eqb (length (inner_start shape numbers)) (length sizes) long.0, within, lt_test (product sizes) (2 ^ 64) small)
    (ap (λ (places : List ℕ). Ok places) (region_places shape sizes number (long.0 ∙ sym long.1)))
