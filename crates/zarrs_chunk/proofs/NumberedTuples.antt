-- Tuples by their numbers.
use Rattle.std.proofs.Common.{◌≡◌, ℕ, zero, suc, ◌+◌, ◌*◌, ◌/◌, ◌%◌, ◌<◌, true, get_or, List, [], ◌∷◌, ◌++◌, length, map, arith, refl, ap, ap₂, ◌∙◌, sym}
use Rattle.std.specs.List.{flat_map, range_with_len}
use Rattle.std.proofs.lemmas.Bool.{and_from}
use Rattle.std.proofs.lemmas.Nat.{div_below, mod_below, div-add-mod', div-mul-add, mod-mul-add}
use Rattle.std.proofs.lemmas.Simd.{map-map}
use Rattle.zarrs_chunk.specs.ChunkShape.{product}
use Rattle.zarrs_chunk.specs.Indices.{tuple_of_number, indices_behind, box_tuple}
use Rattle.zarrs_chunk.specs.Tuples.{row_major, box_tuples, is_tuple_inside}
use Rattle.zarrs_chunk.proofs.Inside.{row_major-below, lt_test}
use Rattle.zarrs_chunk.proofs.NumberLaws.{same_tuple}

pub factor_positive : (n size total : ℕ) → n < size * total → 0 < total
factor_positive n size zero h = absurd (omega arith)
factor_positive n size (suc total) h = omega arith

pub tuple_of_number-inside : (sizes : List ℕ) (number : ℕ) → number < product sizes → is_tuple_inside sizes (tuple_of_number sizes number) ≡ true
tuple_of_number-inside [] number h = refl
tuple_of_number-inside (size ∷ sizes) number h =
    let some : 0 < product sizes = factor_positive number size (product sizes) h in
    and_from _ _ (lt_test _ _ (div_below number (product sizes) size some h)) (tuple_of_number-inside sizes (number % product sizes) (mod_below number (product sizes) some))

pub row_major-tuple_of_number : (sizes : List ℕ) (number : ℕ) → number < product sizes → row_major sizes (tuple_of_number sizes number) ≡ number
row_major-tuple_of_number [] number h = omega arith
row_major-tuple_of_number (size ∷ sizes) number h =
    let some : 0 < product sizes = factor_positive number size (product sizes) h in
    ap (λ rest. number / product sizes * product sizes + rest) (row_major-tuple_of_number sizes (number % product sizes) (mod_below number (product sizes) some))
    ∙ div-add-mod' number (product sizes)

pub tuple_of_number-row_major : (sizes tuple : List ℕ) → is_tuple_inside sizes tuple ≡ true → tuple_of_number sizes (row_major sizes tuple) ≡ tuple
tuple_of_number-row_major sizes tuple h =
    let below = row_major-below sizes tuple h in
    same_tuple sizes (tuple_of_number sizes (row_major sizes tuple)) tuple (tuple_of_number-inside sizes (row_major sizes tuple) below) h (row_major-tuple_of_number sizes (row_major sizes tuple) below)

-- ---- the tuples of a box

-- numbers that are counted row by row are counted
pub map_rows : {A : Type 0} (f : ℕ → A) (g : ℕ → ℕ → A) (total from n : ℕ) → ((index rest : ℕ) → rest < total → f (index * total + rest) ≡ g index rest)
    → map f (range_with_len (from * total) (n * total)) ≡ flat_map (λ index. map (g index) (range_with_len 0 total)) (range_with_len from n)
map_rows f g total from zero h = (let z : 0 * total ≡ 0 = omega arith in ap (λ m. map f (range_with_len (from * total) m)) z)
map_rows f g total from (suc n) h =
    let count : suc n * total ≡ total + n * total = omega arith in
    let next : from * total + total ≡ (from + 1) * total = omega arith in
    let start : from * total ≡ from * total + 0 = omega arith in
    ap (λ m. map f (range_with_len (from * total) m)) count
    ∙ split (from * total) total (n * total)
    ∙ ap₂ (λ xs ys. xs ++ ys) (ap (λ m. map f (range_with_len m total)) start ∙ one_row total 0 (λ rest l. h from rest (omega arith))) (ap (λ m. map f (range_with_len m (n * total))) next ∙ map_rows f g total (from + 1) n h)
  where
    split : (a m k : ℕ) → map f (range_with_len a (m + k)) ≡ map f (range_with_len a m) ++ map f (range_with_len (a + m) k)
    split a zero k = let e : 0 + k ≡ k = omega arith in let s : a ≡ a + 0 = omega arith in ap (λ m. map f (range_with_len a m)) e ∙ ap (λ m. map f (range_with_len m k)) s
    split a (suc m) k =
        let e : suc m + k ≡ suc (m + k) = omega arith in
        let s : a + 1 + m ≡ a + suc m = omega arith in
        ap (λ x. map f (range_with_len a x)) e ∙ ap (λ xs. f a ∷ xs) (split (a + 1) m k ∙ ap (λ x. map f (range_with_len (a + 1) m) ++ map f (range_with_len x k)) s)

    one_row : (m at : ℕ) → ((rest : ℕ) → rest < at + m → f (from * total + rest) ≡ g from rest) → map f (range_with_len (from * total + at) m) ≡ map (g from) (range_with_len at m)
    one_row zero at each = refl
    one_row (suc m) at each =
        let s : from * total + at + 1 ≡ from * total + (at + 1) = omega arith in
        ap₂ (λ x xs. x ∷ xs) (each at (omega arith)) (ap (λ x. map f (range_with_len x m)) s ∙ one_row m (at + 1) (λ rest l. each rest (omega arith)))

shifted : {A : Type 0} (f : ℕ → List A) (start from n : ℕ) → flat_map f (range_with_len (start + from) n) ≡ flat_map (λ index. f (start + index)) (range_with_len from n)
shifted f start from zero = refl
shifted f start from (suc n) =
    let e : start + from + 1 ≡ start + (from + 1) = omega arith in
    ap (λ xs. f (start + from) ++ xs) (ap (λ m. flat_map f (range_with_len m n)) e ∙ shifted f start (from + 1) n)

tuple_in_row : (start len index rest : ℕ) (starts lengths : List ℕ) → rest < product lengths → box_tuple (start ∷ starts) (len ∷ lengths) (index * product lengths + rest) ≡ (start + index) ∷ box_tuple starts lengths rest
tuple_in_row start len index rest starts lengths l =
    ap₂ (λ i r. (start + i) ∷ indices_behind starts (tuple_of_number lengths r)) (div-mul-add index (product lengths) rest l) (mod-mul-add index (product lengths) rest l)

pub box_tuples-numbered : (starts lengths : List ℕ) → length starts ≡ length lengths → box_tuples starts lengths ≡ map (box_tuple starts lengths) (range_with_len 0 (product lengths))
box_tuples-numbered [] [] e = refl
box_tuples-numbered [] (len ∷ lengths) e = absurd (omega arith)
box_tuples-numbered (start ∷ starts) [] e = absurd (omega arith)
box_tuples-numbered (start ∷ starts) (len ∷ lengths) e =
    let counted : List ℕ = range_with_len 0 (product lengths) in
    let zero_is : 0 * product lengths ≡ 0 = omega arith in
    let same : start + 0 ≡ start = omega arith in
    ap (λ tuples. flat_map (λ index. map (λ tuple. index ∷ tuple) tuples) (range_with_len start len)) (box_tuples-numbered starts lengths (omega arith))
    ∙ (λ i. flat_map (λ index. map-map (λ tuple. index ∷ tuple) (box_tuple starts lengths) counted i) (range_with_len start len))
    ∙ ap (λ s. flat_map (λ index. map (λ rest. index ∷ box_tuple starts lengths rest) counted) (range_with_len s len)) (sym same)
    ∙ shifted (λ index. map (λ rest. index ∷ box_tuple starts lengths rest) counted) start 0 len
    ∙ sym (map_rows (box_tuple (start ∷ starts) (len ∷ lengths)) (λ index rest. (start + index) ∷ box_tuple starts lengths rest) (product lengths) 0 len (λ index rest l. tuple_in_row start len index rest starts lengths l))
    ∙ ap (λ m. map (box_tuple (start ∷ starts) (len ∷ lengths)) (range_with_len m (len * product lengths))) zero_is

pub index_behind : (starts tuple : List ℕ) (axis : ℕ) → axis < length starts → length tuple ≡ length starts → get_or (indices_behind starts tuple) axis 0 ≡ get_or starts axis 0 + get_or tuple axis 0
index_behind [] tuple axis l e = absurd (omega arith)
index_behind (start ∷ starts) [] axis l e = absurd (omega arith)
index_behind (start ∷ starts) (index ∷ tuple) zero l e = refl
index_behind (start ∷ starts) (index ∷ tuple) (suc axis) l e = index_behind starts tuple axis (omega arith) (omega arith)

pub tuple_of_number_is : (sizes tuple : List ℕ) (number : ℕ) → is_tuple_inside sizes tuple ≡ true → row_major sizes tuple ≡ number → tuple_of_number sizes number ≡ tuple
tuple_of_number_is sizes tuple number h e = ap (tuple_of_number sizes) (sym e) ∙ tuple_of_number-row_major sizes tuple h

pub length-tuple_of_number : (sizes : List ℕ) (number : ℕ) → length (tuple_of_number sizes number) ≡ length sizes
length-tuple_of_number [] number = refl
length-tuple_of_number (size ∷ sizes) number = ap suc (length-tuple_of_number sizes (number % product sizes))
