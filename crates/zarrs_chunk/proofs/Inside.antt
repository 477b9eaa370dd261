-- Boxes and tuples that lie inside the sizes of a chunk, axis by axis.
use Rattle.std.proofs.Common.{◌≡◌, ℕ, zero, suc, ◌+◌, ◌*◌, ◌<◌, ◌≤◌, ◌∙◌, true, false, List, [], ◌∷◌, length, get_or, drop, replicate, nat_le, nat_lt, arith, refl, ap}
use Rattle.std.proofs.lemmas.Bool.{and_parts, and_from, false_from_ne_true}
use Rattle.std.proofs.lemmas.Bool.Decides.{nat_tests}
use Rattle.std.specs.List.{All}
use Rattle.std.proofs.lemmas.List.{drop_more, drop_all, get_or_default}
use Rattle.std.proofs.Math.Nat.{mul-le-mul_left, mul-le-mul_right}
use Rattle.zarrs_chunk.specs.ChunkShape.{product}
use Rattle.zarrs_chunk.specs.Levels.{number_behind}
use Rattle.zarrs_chunk.specs.Tuples.{row_major, is_box_inside, is_tuple_inside}
use Rattle.zarrs_chunk.proofs.Products.{product_positive-drop}

pub le_test : (a b : ℕ) → a ≤ b → nat_le a b ≡ true
le_test a b h = grind (arith, nat_tests)

pub from_le_test : (a b : ℕ) → nat_le a b ≡ true → a ≤ b
from_le_test a b h = grind (arith, nat_tests)

pub lt_test : (a b : ℕ) → a < b → nat_lt a b ≡ true
lt_test a b h = grind (arith, nat_tests)

pub from_lt_test : (a b : ℕ) → nat_lt a b ≡ true → a < b
from_lt_test a b h = grind (arith, nat_tests)

-- ---- boxes

pub is_box_inside-all : (sizes starts lengths : List ℕ) → length starts ≡ length sizes → length lengths ≡ length sizes → ((k : ℕ) → k < length sizes → get_or starts k 0 + get_or lengths k 0 ≤ get_or sizes k 0) → is_box_inside sizes starts lengths ≡ true
is_box_inside-all [] [] [] e f h = refl
is_box_inside-all [] [] (len ∷ lengths) e f h = absurd (omega arith)
is_box_inside-all [] (start ∷ starts) lengths e f h = absurd (omega arith)
is_box_inside-all (size ∷ sizes) [] lengths e f h = absurd (omega arith)
is_box_inside-all (size ∷ sizes) (start ∷ starts) [] e f h = absurd (omega arith)
is_box_inside-all (size ∷ sizes) (start ∷ starts) (len ∷ lengths) e f h =
    and_from _ _ (le_test _ _ (h 0 (omega arith))) (is_box_inside-all sizes starts lengths (omega arith) (omega arith) (λ k l. h (suc k) (omega arith)))

-- the whole box is inside
pub is_box_inside-whole : (sizes : List ℕ) → is_box_inside sizes (replicate (length sizes) 0) sizes ≡ true
is_box_inside-whole [] = refl
is_box_inside-whole (size ∷ sizes) = and_from _ _ (le_test (0 + size) size (omega arith)) (is_box_inside-whole sizes)

pub is_box_inside-at : (sizes starts lengths : List ℕ) (axis : ℕ) → is_box_inside sizes starts lengths ≡ true → axis < length sizes → get_or starts axis 0 + get_or lengths axis 0 ≤ get_or sizes axis 0
is_box_inside-at [] starts lengths axis h l = absurd (omega arith)
is_box_inside-at (size ∷ sizes) [] lengths axis h l = absurd (cc)
is_box_inside-at (size ∷ sizes) (start ∷ starts) [] axis h l = absurd (cc)
is_box_inside-at (size ∷ sizes) (start ∷ starts) (len ∷ lengths) zero h l = from_le_test _ _ (and_parts _ _ h).0
is_box_inside-at (size ∷ sizes) (start ∷ starts) (len ∷ lengths) (suc axis) h l =
    is_box_inside-at sizes starts lengths axis (and_parts _ _ h).1 (omega arith)

pub is_box_inside-not : (sizes starts lengths : List ℕ) (axis : ℕ) → axis < length sizes → get_or sizes axis 0 < get_or starts axis 0 + get_or lengths axis 0 → is_box_inside sizes starts lengths ≡ false
is_box_inside-not sizes starts lengths axis l h =
    false_from_ne_true _ (λ e. let b = is_box_inside-at sizes starts lengths axis e l in omega arith)

pub is_box_inside-lengths : (sizes starts lengths : List ℕ) → is_box_inside sizes starts lengths ≡ true → (length starts ≡ length sizes) × (length lengths ≡ length sizes)
is_box_inside-lengths [] [] [] h = (refl, refl)
is_box_inside-lengths [] [] (len ∷ lengths) h = absurd (cc)
is_box_inside-lengths [] (start ∷ starts) lengths h = absurd (cc)
is_box_inside-lengths (size ∷ sizes) [] lengths h = absurd (cc)
is_box_inside-lengths (size ∷ sizes) (start ∷ starts) [] h = absurd (cc)
is_box_inside-lengths (size ∷ sizes) (start ∷ starts) (len ∷ lengths) h =
    let rest = is_box_inside-lengths sizes starts lengths (and_parts _ _ h).1 in
    (ap suc rest.0, ap suc rest.1)

-- ---- tuples

pub is_tuple_inside-length : (sizes tuple : List ℕ) → is_tuple_inside sizes tuple ≡ true → length tuple ≡ length sizes
is_tuple_inside-length [] [] h = refl
is_tuple_inside-length [] (index ∷ tuple) h = absurd (cc)
is_tuple_inside-length (size ∷ sizes) [] h = absurd (cc)
is_tuple_inside-length (size ∷ sizes) (index ∷ tuple) h = ap suc (is_tuple_inside-length sizes tuple (and_parts _ _ h).1)

pub is_tuple_inside-all : (sizes tuple : List ℕ) → length tuple ≡ length sizes → ((k : ℕ) → k < length sizes → get_or tuple k 0 < get_or sizes k 0) → is_tuple_inside sizes tuple ≡ true
is_tuple_inside-all [] [] e h = refl
is_tuple_inside-all [] (index ∷ tuple) e h = absurd (omega arith)
is_tuple_inside-all (size ∷ sizes) [] e h = absurd (omega arith)
is_tuple_inside-all (size ∷ sizes) (index ∷ tuple) e h =
    and_from _ _ (lt_test _ _ (h 0 (omega arith))) (is_tuple_inside-all sizes tuple (omega arith) (λ k l. h (suc k) (omega arith)))

pub is_tuple_inside-at : (sizes tuple : List ℕ) (axis : ℕ) → is_tuple_inside sizes tuple ≡ true → axis < length sizes → get_or tuple axis 0 < get_or sizes axis 0
is_tuple_inside-at [] tuple axis h l = absurd (omega arith)
is_tuple_inside-at (size ∷ sizes) [] axis h l = absurd (cc)
is_tuple_inside-at (size ∷ sizes) (index ∷ tuple) zero h l = from_lt_test _ _ (and_parts _ _ h).0
is_tuple_inside-at (size ∷ sizes) (index ∷ tuple) (suc axis) h l = is_tuple_inside-at sizes tuple axis (and_parts _ _ h).1 (omega arith)

pub is_tuple_inside-not : (sizes tuple : List ℕ) (axis : ℕ) → axis < length sizes → get_or sizes axis 0 ≤ get_or tuple axis 0 → is_tuple_inside sizes tuple ≡ false
is_tuple_inside-not sizes tuple axis l h =
    false_from_ne_true _ (λ e. let b = is_tuple_inside-at sizes tuple axis e l in omega arith)

pub is_tuple_inside-axes : (sizes tuple : List ℕ) → ¬ (length tuple ≡ length sizes) → is_tuple_inside sizes tuple ≡ false
is_tuple_inside-axes sizes tuple h = false_from_ne_true _ (λ e. h (is_tuple_inside-length sizes tuple e))

-- the number of a tuple inside is below the number of elements
pub row_major-below : (sizes tuple : List ℕ) → is_tuple_inside sizes tuple ≡ true → row_major sizes tuple < product sizes
row_major-below [] [] h = omega arith
row_major-below [] (index ∷ tuple) h = absurd (cc)
row_major-below (size ∷ sizes) [] h = absurd (cc)
row_major-below (size ∷ sizes) (index ∷ tuple) h =
    let parts = and_parts (nat_lt index size) (is_tuple_inside sizes tuple) h in
    let rest : row_major sizes tuple < product sizes = row_major-below sizes tuple parts.1 in
    let first : index < size = from_lt_test index size parts.0 in
    let next : index + 1 ≤ size = omega arith in
    omega (arith, mul-le-mul_right (product sizes) next)

-- one axis more behind a number
pub number_behind-more : (sizes tuple : List ℕ) (number axis : ℕ) → axis < length sizes → axis < length tuple → number_behind (number * get_or sizes axis 0 + get_or tuple axis 0) (drop (axis + 1) sizes) (drop (axis + 1) tuple) ≡ number_behind number (drop axis sizes) (drop axis tuple)
number_behind-more sizes tuple number axis p q = rw (drop_more sizes axis 0 p, drop_more tuple axis 0 q) (omega arith)

-- behind all axes a number is what it is
pub number_behind-end : (sizes tuple : List ℕ) (number axis : ℕ) → length sizes ≤ axis → number_behind number (drop axis sizes) (drop axis tuple) ≡ number
number_behind-end sizes tuple number axis h = ap (λ ns. number_behind number ns (drop axis tuple)) (drop_all axis sizes h) ∙ omega arith

-- a number is no more than what it makes with the axes behind it, none of which is empty
pub number_behind-le : (sizes tuple : List ℕ) (number : ℕ) → 0 < product sizes → number ≤ number_behind number sizes tuple
number_behind-le sizes tuple number h =
    let q : 1 ≤ product sizes = omega arith in
    omega (arith, mul-le-mul_left number q)

sizes_positive : (sizes tuple : List ℕ) → is_tuple_inside sizes tuple ≡ true → All (λ size. 0 < size) sizes
sizes_positive sizes tuple h = λ k d l. let b = is_tuple_inside-at sizes tuple k h l in omega (arith, get_or_default sizes k d 0 l)

-- the same within the sizes of a tuple that lies inside
pub number_behind-drop-le : (sizes tuple : List ℕ) (number axis : ℕ) → is_tuple_inside sizes tuple ≡ true → number ≤ number_behind number (drop axis sizes) (drop axis tuple)
number_behind-drop-le sizes tuple number axis h =
    number_behind-le (drop axis sizes) (drop axis tuple) number (product_positive-drop sizes axis (sizes_positive sizes tuple h))
