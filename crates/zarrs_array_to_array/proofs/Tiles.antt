-- Tiles of elements, turned in vectors of sixteen bytes.
use Rattle.std.proofs.Common.{◌≡◌, ℕ, zero, suc, ◌+◌, ◌*◌, ◌<◌, ◌≤◌, List, [], ◌∷◌, ◌++◌, length, map, get_or, take, drop, slice_index_or, arith, refl, ap, ap₂, ◌∙◌, sym, subst, append_assoc, drop-drop, length-append}
use Rattle.std.specs.List.{flat_map, range_with_len}
use Rattle.std.proofs.lemmas.List.{drop_more, take-append-le, drop-append-le, drop_at, drop_all, length-drop, map-append}
use Rattle.std.proofs.lemmas.List.FromFn.{get_or-range_with_len, length-range_with_len, length-map-range_with_len}
use Rattle.std.proofs.Math.Nat.{mul-le-mul_right}
use Rattle.zarrs_chunk.proofs.Consecutive.{range-append}
use Rattle.zarrs_array_bytes.proofs.ElementLemmas.{piece_at}
use Rattle.zarrs_array_to_array.specs.Axes.{stretch}
use Rattle.zarrs_array_to_array.proofs.BlockRows.{stretch_is}
use Rattle.zarrs_array_to_array.proofs.RowGroups.{length-stretch}
use Rattle.zarrs_array_to_array.specs.Tiles.{AreVectors, interleaved, column, columns}

-- ---- the lanes of a vector

-- so many items from an index on
abbrev pub lanes : List ℕ → ℕ → ℕ → List ℕ
lanes items from zero = []
lanes items from (suc n) = slice_index_or items from 0 ∷ lanes items (from + 1) n

lanes_are : (items : List ℕ) (from n : ℕ) → from + n ≤ length items → lanes items from n ≡ take n (drop from items)
lanes_are items from zero h = refl
lanes_are items from (suc n) h =
    ap (λ xs. slice_index_or items from 0 ∷ xs) (lanes_are items (from + 1) n (omega (arith, h)))
    ∙ sym (ap (take (suc n)) (drop_more items from 0 (omega (arith, h))))

-- they are the first vector's, or those of the second behind it
lanes_of_one : (one other : List ℕ) (from n : ℕ) → length one ≡ 16 → from + n ≤ 16 → lanes (one ++ other) from n ≡ take n (drop from one)
lanes_of_one one other from n e h =
    lanes_are (one ++ other) from n (omega (arith, length-append one other, e, h))
    ∙ ap (take n) (drop-append-le from one other (omega (arith, e, h)))
    ∙ take-append-le n (drop from one) other (omega (arith, length-drop from one, e, h))

lanes_of_other : (one other : List ℕ) (from n : ℕ) → length one ≡ 16 → from + n ≤ length other → lanes (one ++ other) (16 + from) n ≡ take n (drop from other)
lanes_of_other one other from n e h =
    lanes_are (one ++ other) (16 + from) n (omega (arith, length-append one other, e, h))
    ∙ ap (take n) (sym (drop-drop from 16 (one ++ other)) ∙ ap (drop from) (drop_at one other 16 e))

-- the lanes that are elements of one vector and of another, in turn
pub lanes_interleaved : (size from n : ℕ) (one other : List ℕ) → length one ≡ 16 → length other ≡ 16 → (from + n) * size ≤ 16
    → flat_map (λ k. lanes (one ++ other) (k * size) size ++ lanes (one ++ other) (16 + k * size) size) (range_with_len from n) ≡ interleaved size from n one other
lanes_interleaved size from zero one other e e' h = refl
lanes_interleaved size from (suc n) one other e e' h =
    let spread : (from + suc n) * size ≡ from * size + size + n * size = grind arith in
    let next : from + 1 + n ≡ from + suc n = omega arith in
    ap₂ (λ xs ys. xs ++ ys)
    (ap₂ (λ xs ys. xs ++ ys)
    (lanes_of_one one other (from * size) size e (omega (arith, spread, h)) ∙ sym (stretch_is size size one from))
    (lanes_of_other one other (from * size) size e (omega (arith, spread, h, e')) ∙ sym (stretch_is size size other from)))
    (lanes_interleaved size (from + 1) n one other e e' (rw next h))

-- ---- columns, by those of rows in turn

-- an index of a range is below its end
below_end : (from n k size : ℕ) → k < n → (from + n) * size ≤ 16 → (from + k) * size + size ≤ 16
below_end from n k size l h =
    let spread : (from + k + 1) * size ≡ (from + k) * size + size = grind arith in
    omega (arith, spread, mul-le-mul_right {m = from + k + 1} {n = from + n} size (omega arith), h)

-- an element of two rows in turn is one of the first, and that of the second behind it
pair_at : (size from n k : ℕ) (one other : List ℕ) → length one ≡ 16 → length other ≡ 16 → (from + n) * size ≤ 16 → k < n
    → stretch (size + size) (size + size) (interleaved size from n one other) k ≡ stretch size size one (from + k) ++ stretch size size other (from + k)
pair_at size from n k one other e e' h l =
    let f : ℕ → List ℕ = λ i. stretch size size one i ++ stretch size size other i in
    let count : length (range_with_len from n) ≡ n = length-range_with_len from n in
    let each : (i : ℕ) → i < length (range_with_len from n) → length (f (get_or (range_with_len from n) i 0)) ≡ size + size =
    λ i m.
    let here : get_or (range_with_len from n) i 0 ≡ from + i = get_or-range_with_len from n i 0 (omega (arith, m, count)) in
    let within : (from + i) * size + size ≤ 16 = below_end from n i size (omega (arith, m, count)) h in
    ap (λ j. length (f j)) here ∙ length-append (stretch size size one (from + i)) (stretch size size other (from + i))
    ∙ ap₂ (λ a b. a + b) (length-stretch size size one (from + i) (omega (arith, within, e))) (length-stretch size size other (from + i) (omega (arith, within, e'))) in
    stretch_is (size + size) (size + size) (flat_map f (range_with_len from n)) k
    ∙ piece_at f (size + size) (range_with_len from n) k 0 each (omega (arith, l, count))
    ∙ ap f (get_or-range_with_len from n k 0 l)

-- two rows of each two, in turn
abbrev pub pairs : ℕ → ℕ → ℕ → List (List ℕ) → List (List ℕ)
pairs size from n [] = []
pairs size from n (one ∷ []) = []
pairs size from n (one ∷ (other ∷ rows)) = interleaved size from n one other ∷ pairs size from n rows

-- a column of these is a column of the rows
column_of_pairs : (size from n k m : ℕ) (rows : List (List ℕ)) → length rows ≡ m + m → AreVectors rows → (from + n) * size ≤ 16 → k < n
    → column (size + size) (pairs size from n rows) k ≡ column size rows (from + k)
column_of_pairs size from n k m [] e each h l = refl
column_of_pairs size from n k m (one ∷ []) e each h l = absurd (omega (arith, e))
column_of_pairs size from n k zero (one ∷ (other ∷ rows)) e each h l = absurd (omega (arith, e))
column_of_pairs size from n k (suc m) (one ∷ (other ∷ rows)) e each h l =
    ap₂ (λ xs ys. xs ++ ys) (pair_at size from n k one other (each 0 (omega arith)) (each 1 (omega arith)) h l)
    (column_of_pairs size from n k m rows (omega (arith, e)) (λ i b. each (suc (suc i)) (omega (arith, b))) h l)
    ∙ append_assoc (stretch size size one (from + k)) (stretch size size other (from + k)) (column size rows (from + k))

map_same : (f g : ℕ → List ℕ) (a b n : ℕ) → ((k : ℕ) → k < n → f (a + k) ≡ g (b + k)) → map f (range_with_len a n) ≡ map g (range_with_len b n)
map_same f g a b zero h = refl
map_same f g a b (suc n) h =
    let x : a ≡ a + 0 = omega arith in
    let y : b + 0 ≡ b = omega arith in
    ap₂ (λ x xs. x ∷ xs) (ap f x ∙ h 0 (omega arith) ∙ ap g y)
    (map_same f g (a + 1) (b + 1) n
    (λ k l.
    let p : a + 1 + k ≡ a + suc k = omega arith in
    let q : b + suc k ≡ b + 1 + k = omega arith in
    ap f p ∙ h (suc k) (omega arith) ∙ ap g q))

-- rows in turn are vectors as the rows are
length_interleaved : (size from n : ℕ) (one other : List ℕ) → length one ≡ 16 → length other ≡ 16 → (from + n) * size ≤ 16 → length (interleaved size from n one other) ≡ n * (size + size)
length_interleaved size from zero one other e e' h = omega arith
length_interleaved size from (suc n) one other e e' h =
    let next : from + 1 + n ≡ from + suc n = omega arith in
    let whole : (from + 1 + n) * size ≤ 16 = rw next h in
    let here : (from + 0) * size + size ≤ 16 = below_end from (suc n) 0 size (omega arith) h in
    let first : from + 0 ≡ from = omega arith in
    let within : from * size + size ≤ 16 = subst (λ m. m * size + size ≤ 16) first here in
    let more : suc n * (size + size) ≡ size + size + n * (size + size) = omega arith in
    length-append (stretch size size one from ++ stretch size size other from) (interleaved size (from + 1) n one other)
    ∙ ap₂ (λ a b. a + b)
    (length-append (stretch size size one from) (stretch size size other from)
    ∙ ap₂ (λ a b. a + b) (length-stretch size size one from (omega (arith, within, e))) (length-stretch size size other from (omega (arith, within, e'))))
    (length_interleaved size (from + 1) n one other e e' whole)
    ∙ sym more

pairs_are_whole : (size from n m : ℕ) (rows : List (List ℕ)) → length rows ≡ m + m → AreVectors rows → (from + n) * size ≤ 16 → n * (size + size) ≡ 16 → AreVectors (pairs size from n rows)
pairs_are_whole size from n m [] e whole h s i l = absurd (omega arith)
pairs_are_whole size from n m (one ∷ []) e whole h s i l = absurd (omega arith)
pairs_are_whole size from n zero (one ∷ (other ∷ rows)) e whole h s i l = absurd (omega (arith, e))
pairs_are_whole size from n (suc m) (one ∷ (other ∷ rows)) e whole h s zero l = length_interleaved size from n one other (whole 0 (omega arith)) (whole 1 (omega arith)) h ∙ s
pairs_are_whole size from n (suc m) (one ∷ (other ∷ rows)) e whole h s (suc i) l =
    pairs_are_whole size from n m rows (omega (arith, e)) (λ k b. whole (suc (suc k)) (omega (arith, b))) h s i (omega (arith, l))

-- the columns of rows are those of their pairs
columns_of_pairs : (size n m : ℕ) (rows : List (List ℕ)) → length rows ≡ m + m → AreVectors rows → (n + n) * size ≤ 16
    → columns (size + size) n (pairs size 0 n rows) ++ columns (size + size) n (pairs size n n rows) ≡ columns size (n + n) rows
columns_of_pairs size n m rows e each h =
    let f : ℕ → List ℕ = column size rows in
    let half : (0 + n) * size ≤ 16 = omega (arith, mul-le-mul_right {m = 0 + n} {n = n + n} size (omega arith), h) in
    ap₂ (λ xs ys. xs ++ ys)
    (map_same (column (size + size) (pairs size 0 n rows)) f 0 0 n (λ k l. let z : 0 + k ≡ k = omega arith in ap (column (size + size) (pairs size 0 n rows)) z ∙ column_of_pairs size 0 n k m rows e each half l))
    (map_same (column (size + size) (pairs size n n rows)) f 0 n n (λ k l. let z : 0 + k ≡ k = omega arith in ap (column (size + size) (pairs size n n rows)) z ∙ column_of_pairs size n n k m rows e each h l))
    ∙ sym (map-append f (range_with_len 0 n) (range_with_len n n))
    ∙ sym (ap (map f) (range-append 0 n n) ∙ (let z : 0 + n ≡ n = omega arith in ap (λ a. map f (range_with_len 0 n ++ range_with_len a n)) z))

-- a list by its items
listed : (rows : List (List ℕ)) (from n : ℕ) → length rows ≡ from + n → map (λ k. get_or rows k []) (range_with_len from n) ≡ drop from rows
listed rows from zero e = sym (drop_all from rows (omega (arith, e)))
listed rows from (suc n) e =
    ap (λ xs. get_or rows from [] ∷ xs) (listed rows (from + 1) n (omega (arith, e)))
    ∙ sym (drop_more rows from [] (omega (arith, e)))

pub all_listed : (rows : List (List ℕ)) (n : ℕ) → length rows ≡ n → map (λ k. get_or rows k []) (range_with_len 0 n) ≡ rows
all_listed rows n e = listed rows 0 n (omega (arith, e))

-- the rows in turn that a tile is turned by
pub whole_pairs : (size from n m : ℕ) (rows lows : List (List ℕ)) → length rows ≡ m + m → AreVectors rows → (from + n) * size ≤ 16 → n * (size + size) ≡ 16
    → lows ≡ pairs size from n (map (λ k. get_or rows k []) (range_with_len 0 (m + m))) → AreVectors lows
whole_pairs size from n m rows lows e whole h s is =
    subst AreVectors (sym (is ∙ ap (pairs size from n) (all_listed rows (m + m) e))) (pairs_are_whole size from n m rows e whole h s)

-- a tile turned, by the tiles of its pairs
pub turned : (size n m : ℕ) (rows lows highs front back : List (List ℕ)) → length rows ≡ m + m → AreVectors rows → (n + n) * size ≤ 16
    → lows ≡ pairs size 0 n (map (λ k. get_or rows k []) (range_with_len 0 (m + m))) → highs ≡ pairs size n n (map (λ k. get_or rows k []) (range_with_len 0 (m + m)))
    → front ≡ columns (size + size) n lows → back ≡ columns (size + size) n highs
    → map (λ k. get_or front k []) (range_with_len 0 n) ++ map (λ k. get_or back k []) (range_with_len 0 n) ≡ columns size (n + n) rows
turned size n m rows lows highs front back e each h low high is is' =
    let whole = all_listed rows (m + m) e in
    let counted : (items : List (List ℕ)) → length (columns (size + size) n items) ≡ n = λ items. length-map-range_with_len (column (size + size) items) 0 n in
    ap₂ (λ xs ys. xs ++ ys) (all_listed front n (ap length is ∙ counted lows)) (all_listed back n (ap length is' ∙ counted highs))
    ∙ ap₂ (λ xs ys. xs ++ ys)
    (is ∙ ap (columns (size + size) n) (low ∙ ap (pairs size 0 n) whole))
    (is' ∙ ap (columns (size + size) n) (high ∙ ap (pairs size n n) whole))
    ∙ columns_of_pairs size n m rows e each h
