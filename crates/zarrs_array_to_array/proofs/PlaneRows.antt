-- The elements of a chunk's planes, row by row.
use Rattle.std.proofs.Common.{◌≡◌, ℕ, zero, suc, ◌+◌, ◌-◌, ◌*◌, ◌<◌, ◌≤◌, List, [], ◌∷◌, ◌++◌, map, arith, refl, ap, ap₂, ◌∙◌, sym, append_assoc}
use Rattle.std.specs.List.{flat_map, range_with_len}
use Rattle.std.proofs.lemmas.List.{append-nil}
use Rattle.std.proofs.lemmas.List.Concat.{flat_map-append}
use Rattle.std.proofs.Math.Nat.{mul-le-mul_right, mul-le-mul_left}
use Rattle.zarrs_array_bytes.specs.Elements.{piece}
use Rattle.zarrs_array_bytes.proofs.RunLemmas.{pieces_of_run}
use Rattle.zarrs_array_to_array.specs.Strides.{row, next_rows}
use Rattle.zarrs_array_to_array.specs.Axes.{stretch}
use Rattle.zarrs_array_to_array.proofs.Rows.{row_more}

-- ---- one index more

pub flat_map-row_more : (f : ℕ → List ℕ) (front step n : ℕ) → flat_map f (row front step (n + 1)) ≡ flat_map f (row front step n) ++ f (front + n * step)
flat_map-row_more f front step n =
    ap (flat_map f) (row_more front step n) ∙ flat_map-append f (row front step n) ((front + n * step) ∷ [])
    ∙ ap (λ xs. flat_map f (row front step n) ++ xs) (append-nil (f (front + n * step)))

-- one row more of a plane
pub more_of_plane : (out : List ℕ) (f : ℕ → List ℕ) (s m front step n : ℕ)
    → (out ++ flat_map f (next_rows s m (row front step n))) ++ flat_map f (row (front + n * step) s m) ≡ out ++ flat_map f (next_rows s m (row front step (n + 1)))
more_of_plane out f s m front step n =
    append_assoc out (flat_map f (next_rows s m (row front step n))) (flat_map f (row (front + n * step) s m))
    ∙ ap (λ xs. out ++ xs)
    (sym (flat_map-append f (next_rows s m (row front step n)) (row (front + n * step) s m)) ∙ ap (flat_map f) (sym (flat_map-row_more (λ at. row at s m) front step n)))

-- ---- neighbours

pub counted : (front at n : ℕ) → map (λ index. front + index * 1) (range_with_len at n) ≡ range_with_len (front + at) n
counted front at zero = refl
counted front at (suc n) =
    let e : front + (at + 1) ≡ front + at + 1 = omega arith in
    let f : front + at * 1 ≡ front + at = omega arith in
    ap₂ (λ x xs. x ∷ xs) f (counted front (at + 1) n ∙ ap (λ m. range_with_len m n) e)

-- a row of neighbours is a run
pub row_is_run : (front n : ℕ) → row front 1 n ≡ range_with_len front n
row_is_run front n = let e : front + 0 ≡ front = omega arith in counted front 0 n ∙ ap (λ m. range_with_len m n) e

-- their bytes stand one behind another
pub stretches_are_runs : (size n : ℕ) (items places : List ℕ) → flat_map (stretch (n * size) size items) places ≡ flat_map (piece size items) (next_rows 1 n places)
stretches_are_runs size n items [] = refl
stretches_are_runs size n items (place ∷ places) =
    ap₂ (λ xs ys. xs ++ ys) (sym (ap (flat_map (piece size items)) (row_is_run place n) ∙ pieces_of_run size items place n)) (stretches_are_runs size n items places)
    ∙ sym (flat_map-append (piece size items) (row place 1 n) (next_rows 1 n places))

-- ---- what lies within

-- an index steps no further than the last one
pub steps_below : (k n step : ℕ) → k < n → k * step ≤ (n - 1) * step
steps_below k n step l = mul-le-mul_right {m = k} {n = n - 1} step (omega arith)

-- elements before others end before them
pub bytes_below : (m n size limit : ℕ) → m ≤ n → n * size ≤ limit → m * size ≤ limit
bytes_below m n size limit l h = omega (arith, mul-le-mul_right {m = m} {n = n} size l, h)

-- a place is no more than the bytes before it
pub places_are_bytes : (m size : ℕ) → 0 < size → m ≤ m * size
places_are_bytes m size l = omega (arith, mul-le-mul_left {m = 1} {n = size} m l)
