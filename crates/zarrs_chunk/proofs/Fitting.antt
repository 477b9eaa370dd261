-- Why the numbers of a box inside the sizes stay below the number of elements.
use Rattle.std.proofs.Common.{◌≡◌, ℕ, zero, suc, ◌+◌, ◌*◌, ◌<◌, ◌≤◌, true, List, [], ◌∷◌, ◌++◌, length, get_or, drop, arith}
use Rattle.std.specs.List.{All, range_with_len}
use Rattle.std.proofs.lemmas.List.FromFn.{length-range_with_len, get_or-range_with_len}
use Rattle.std.proofs.Math.Nat.{mul-le-mul_left, mul-le-mul_right}
use Rattle.zarrs_chunk.specs.ChunkShape.{product}
use Rattle.zarrs_chunk.specs.Levels.{IsFitting, rows_behind}
use Rattle.zarrs_chunk.specs.Tuples.{is_box_inside}
use Rattle.zarrs_chunk.proofs.Inside.{is_box_inside-at}
use Rattle.zarrs_chunk.proofs.Products.{product_drop, product_positive-drop}

IsFitting-append : (total rest : ℕ) (xs ys : List ℕ) → IsFitting total rest xs → IsFitting total rest ys → IsFitting total rest (xs ++ ys)
IsFitting-append total rest [] ys p q = q
IsFitting-append total rest (x ∷ xs) ys p q = λ k.
    elim k as (λ j. j < length ((x ∷ xs) ++ ys) → (get_or ((x ∷ xs) ++ ys) j 0 + 1) * rest ≤ total) [
      | zero ↦ (λ h. p 0 (omega arith))
      | suc j ↦ (λ h. IsFitting-append total rest xs ys (λ i l. p (suc i) (omega arith)) q j (omega arith))
    ]

IsFitting-range : (total rest : ℕ) (len b size top : ℕ) → (top + 1) * (size * rest) ≤ total → b + len ≤ top * size + size → IsFitting total rest (range_with_len b len)
IsFitting-range total rest len b size top room fits = λ k h.
    let l : k < len = omega (arith, length-range_with_len b len) in
    rw (get_or-range_with_len b len k 0 l) (let m : b + k + 1 ≤ top * size + size = omega arith in omega (arith, mul-le-mul_right rest m))

IsFitting-next : (total rest size start len : ℕ) (fronts : List ℕ) → start + len ≤ size → IsFitting total (size * rest) fronts → IsFitting total rest (rows_behind size start len fronts)
IsFitting-next total rest size start len [] h p = λ k l. absurd (omega arith)
IsFitting-next total rest size start len (front ∷ fronts) h p =
    IsFitting-append total rest (range_with_len (front * size + start) len) (rows_behind size start len fronts)
    (IsFitting-range total rest len (front * size + start) size front (p 0 (omega arith)) (omega (arith, h)))
    (IsFitting-next total rest size start len fronts h (λ k l. p (suc k) (omega arith)))

-- the row of one number ends below the total, where behind it there is room for a whole axis and the axes after it
pub room_below : (place size rest start len total : ℕ) → 0 < rest → start + len ≤ size → (place + 1) * (size * rest) ≤ total → place * size + start + len ≤ total
room_below place size rest start len total pos h room =
    let m : place * size + start + len ≤ (place + 1) * size = omega arith in
    let n : 1 ≤ rest = pos in
    omega (arith, mul-le-mul_left ((place + 1) * size) n)

-- one number of that row has room for the axes after it
pub room_next : (place size rest index total : ℕ) → index < size → (place + 1) * (size * rest) ≤ total → (place * size + index + 1) * rest ≤ total
room_next place size rest index total h room =
    let m : place * size + index + 1 ≤ (place + 1) * size = omega arith in
    omega (arith, mul-le-mul_right rest m)

-- a row behind a front that fits ends within the elements
pub row_fits : (sizes starts lengths fronts : List ℕ) (axis k : ℕ) → axis < length sizes → is_box_inside sizes starts lengths ≡ true → All (λ size. 0 < size) sizes → IsFitting (product sizes) (product (drop axis sizes)) fronts → k < length fronts → get_or fronts k 0 * get_or sizes axis 0 + get_or starts axis 0 + get_or lengths axis 0 ≤ product sizes
row_fits sizes starts lengths fronts axis k h inside positive fitting l =
    room_below (get_or fronts k 0) (get_or sizes axis 0) (product (drop (axis + 1) sizes)) (get_or starts axis 0) (get_or lengths axis 0) (product sizes)
    (product_positive-drop sizes (axis + 1) positive)
    (is_box_inside-at sizes starts lengths axis inside h)
    (rw (← product_drop sizes axis h) (fitting k l))

-- the fronts over one axis more fit too
pub IsFitting-more : (sizes starts lengths fronts : List ℕ) (axis : ℕ) → axis < length sizes → is_box_inside sizes starts lengths ≡ true → IsFitting (product sizes) (product (drop axis sizes)) fronts → IsFitting (product sizes) (product (drop (axis + 1) sizes)) (rows_behind (get_or sizes axis 0) (get_or starts axis 0) (get_or lengths axis 0) fronts)
IsFitting-more sizes starts lengths fronts axis h inside fitting =
    IsFitting-next (product sizes) (product (drop (axis + 1) sizes)) (get_or sizes axis 0) (get_or starts axis 0) (get_or lengths axis 0) fronts
    (is_box_inside-at sizes starts lengths axis inside h)
    (λ k l. rw (← product_drop sizes axis h) (fitting k l))

pub IsFitting-start : (sizes : List ℕ) → IsFitting (product sizes) (product sizes) (0 ∷ [])
IsFitting-start sizes = λ k.
    elim k as (λ j. j < 1 → (get_or (0 ∷ []) j 0 + 1) * product sizes ≤ product sizes) [ zero ↦ (λ l. omega arith) | suc j ↦ (λ l. absurd (omega arith)) ]
