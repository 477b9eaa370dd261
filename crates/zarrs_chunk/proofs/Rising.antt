-- Numbers that rise within bounds, and the places of a box, which do.
use Rattle.std.proofs.Common.{◌≡◌, ℕ, add-one, zero, suc, ◌+◌, ◌*◌, ◌<◌, ◌≤◌, true, List, [], ◌∷◌, ◌++◌, length, get_or, map, replicate, arith, refl, ap, ◌∙◌}
use Rattle.std.specs.List.{All, flat_map, range_with_len}
use Rattle.std.specs.List.Sorted.{IsStrictlyIncreasing}
use Rattle.std.proofs.lemmas.Bool.{and_parts}
use Rattle.std.proofs.lemmas.List.{map-append, length-map, length-replicate}
use Rattle.std.proofs.Math.Nat.{mul-le-mul_right}
use Rattle.zarrs_chunk.specs.ChunkShape.{product}
use Rattle.zarrs_chunk.specs.Tuples.{row_major, box_tuples, is_box_inside}
use Rattle.zarrs_chunk.proofs.BoxTuples.{length-box_tuples}
use Rattle.zarrs_chunk.proofs.Inside.{is_box_inside-whole, is_box_inside-at}

-- each number is at least `low`, below `high`, and below the next
abbrev pub Rises : ℕ → ℕ → List ℕ → Type 0
Rises low high [] = low ≤ high
Rises low high (x ∷ xs) = (low ≤ x) × (x < high) × Rises (x + 1) high xs

Rises-bounds : (low high : ℕ) (xs : List ℕ) → Rises low high xs → low ≤ high
Rises-bounds low high [] r = r
Rises-bounds low high (x ∷ xs) r = omega arith

Rises-wider : (lower low high higher : ℕ) (xs : List ℕ) → lower ≤ low → high ≤ higher → Rises low high xs → Rises lower higher xs
Rises-wider lower low high higher [] p q r = omega arith
Rises-wider lower low high higher (x ∷ xs) p q r =
    (omega arith, omega arith, Rises-wider (x + 1) (x + 1) high higher xs (omega arith) q r.2)

Rises-append : (low middle high : ℕ) (xs ys : List ℕ) → Rises low middle xs → Rises middle high ys → Rises low high (xs ++ ys)
Rises-append low middle high [] ys p q = Rises-wider low middle high high ys p (omega arith) q
Rises-append low middle high (x ∷ xs) ys p q =
    let b = Rises-bounds middle high ys q in
    (p.0, omega arith, Rises-append (x + 1) middle high xs ys p.2 q)

-- behind one number more at the front, the numbers rise from that row's first on
Rises-row : (size index low high : ℕ) (sizes : List ℕ) (tuples : List (List ℕ)) → Rises low high (map (row_major sizes) tuples) → Rises (index * product sizes + low) (index * product sizes + high) (map (row_major (size ∷ sizes)) (map (λ tuple. index ∷ tuple) tuples))
Rises-row size index low high sizes [] r = omega arith
Rises-row size index low high sizes (tuple ∷ tuples) r = (
  omega arith,
  omega arith,
  Rises-wider (index * product sizes + row_major sizes tuple + 1) (index * product sizes + (row_major sizes tuple + 1)) (index * product sizes + high) (index * product sizes + high) (map (row_major (size ∷ sizes)) (map (λ tuple. index ∷ tuple) tuples)) (omega arith) (omega arith)
      (Rises-row size index (row_major sizes tuple + 1) high sizes tuples r.2),
)

-- row behind row
Rises-rows : (size len start : ℕ) (sizes : List ℕ) (tuples : List (List ℕ)) → Rises 0 (product sizes) (map (row_major sizes) tuples) → Rises (start * product sizes) ((start + len) * product sizes) (map (row_major (size ∷ sizes)) (flat_map (λ index. map (λ tuple. index ∷ tuple) tuples) (range_with_len start len)))
Rises-rows size zero start sizes tuples r = omega arith
Rises-rows size (suc len) start sizes tuples r =
    let rest = flat_map (λ index. map (λ tuple. index ∷ tuple) tuples) (range_with_len (start + 1) len) in
    rw (map-append (row_major (size ∷ sizes)) (map (λ tuple. start ∷ tuple) tuples) rest)
    (Rises-append (start * product sizes) ((start + 1) * product sizes) ((start + suc len) * product sizes)
    (map (row_major (size ∷ sizes)) (map (λ tuple. start ∷ tuple) tuples)) (map (row_major (size ∷ sizes)) rest)
    (Rises-wider (start * product sizes) (start * product sizes + 0) (start * product sizes + product sizes) ((start + 1) * product sizes) (map (row_major (size ∷ sizes)) (map (λ tuple. start ∷ tuple) tuples)) (omega arith) (omega arith)
    (Rises-row size start 0 (product sizes) sizes tuples r))
    (Rises-wider ((start + 1) * product sizes) ((start + 1) * product sizes) ((start + 1 + len) * product sizes) ((start + suc len) * product sizes) (map (row_major (size ∷ sizes)) rest) (omega arith) (omega arith)
    (Rises-rows size len (start + 1) sizes tuples r)))

-- the places of a box inside the sizes
pub Rises-box : (sizes starts lengths : List ℕ) → is_box_inside sizes starts lengths ≡ true → Rises 0 (product sizes) (map (row_major sizes) (box_tuples starts lengths))
Rises-box [] [] [] h = (omega arith, omega arith, omega arith)
Rises-box [] [] (len ∷ lengths) h = absurd (cc)
Rises-box [] (start ∷ starts) lengths h = absurd (cc)
Rises-box (size ∷ sizes) [] lengths h = absurd (cc)
Rises-box (size ∷ sizes) (start ∷ starts) [] h = absurd (cc)
Rises-box (size ∷ sizes) (start ∷ starts) (len ∷ lengths) h =
    let within : start + len ≤ size = is_box_inside-at (size ∷ sizes) (start ∷ starts) (len ∷ lengths) 0 h (omega arith) in
    Rises-wider 0 (start * product sizes) ((start + len) * product sizes) (size * product sizes)
    (map (row_major (size ∷ sizes)) (box_tuples (start ∷ starts) (len ∷ lengths)))
    (omega arith)
    (mul-le-mul_right (product sizes) within)
    (Rises-rows size len start sizes (box_tuples starts lengths) (Rises-box sizes starts lengths (and_parts _ _ h).1))

-- ---- what rising says

pub Rises-below : (low high : ℕ) (xs : List ℕ) → Rises low high xs → All (λ x. x < high) xs
Rises-below low high [] r = λ k d l. absurd (omega arith)
Rises-below low high (x ∷ xs) r = λ k d.
    elim k as (λ j. j < length (x ∷ xs) → get_or (x ∷ xs) j d < high) [
      | zero ↦ (λ l. r.1)
      | suc j ↦ (λ l. Rises-below (x + 1) high xs r.2 j d (omega arith))
    ]

pub Rises-increasing : (low high : ℕ) (xs : List ℕ) → Rises low high xs → IsStrictlyIncreasing xs
Rises-increasing low high [] r = λ k l. absurd (omega arith)
Rises-increasing low high (x ∷ []) r = λ k l. absurd (omega arith)
Rises-increasing low high (x ∷ y ∷ xs) r = λ k.
    elim k as (λ j. j + 1 < length (x ∷ y ∷ xs) → get_or (x ∷ y ∷ xs) j 0 < get_or (x ∷ y ∷ xs) (j + 1) 0) [
      | zero ↦ (λ l. omega arith)
      | suc j ↦ (λ l. rw add-one (rw add-one at (Rises-increasing (x + 1) high (y ∷ xs) r.2 j (omega arith))))
    ]

pub Rises-room : (low high : ℕ) (xs : List ℕ) → Rises low high xs → low + length xs ≤ high
Rises-room low high [] r = omega arith
Rises-room low high (x ∷ xs) r = let rest = Rises-room (x + 1) high xs r.2 in omega arith

-- with no room left, each number is the next one
Rises-full : (low high : ℕ) (xs : List ℕ) → Rises low high xs → low + length xs ≡ high → xs ≡ range_with_len low (length xs)
Rises-full low high [] r e = refl
Rises-full low high (x ∷ xs) r e =
    let rest = Rises-room (x + 1) high xs r.2 in
    let same : x ≡ low = omega arith in
    ap (λ n. n ∷ xs) same
    ∙ ap (λ ns. low ∷ ns) (Rises-full (low + 1) high xs (Rises-wider (low + 1) (x + 1) high high xs (omega arith) (omega arith) r.2) (omega arith))

-- the places of the whole chunk
pub whole_places : (sizes : List ℕ) → map (row_major sizes) (box_tuples (replicate (length sizes) 0) sizes) ≡ range_with_len 0 (product sizes)
whole_places sizes =
    let places = map (row_major sizes) (box_tuples (replicate (length sizes) 0) sizes) in
    let all : length places ≡ product sizes = length-map (box_tuples (replicate (length sizes) 0) sizes) (row_major sizes) ∙ length-box_tuples (replicate (length sizes) 0) sizes (length-replicate (length sizes) 0) in
    Rises-full 0 (product sizes) places (Rises-box sizes (replicate (length sizes) 0) sizes (is_box_inside-whole sizes)) (omega arith)
    ∙ ap (range_with_len 0) all
