-- The elements of a block that was copied row by row, column by column.
use Rattle.std.proofs.Common.{◌≡◌, ℕ, zero, suc, ◌+◌, ◌-◌, ◌*◌, ◌/◌, ◌<◌, ◌≤◌, List, [], ◌∷◌, ◌++◌, length, get_or, map, take, drop, arith, refl, ap, ap₂, ◌∙◌, sym, drop-drop, append_assoc}
use Rattle.std.specs.List.{flat_map, range_with_len}
use Rattle.std.proofs.lemmas.List.Concat.{flat_map-append}
use Rattle.std.proofs.lemmas.Nat.{div-mul-add}
use Rattle.std.proofs.Math.Nat.{mul-le-mul_right}
use Rattle.zarrs_array_bytes.specs.Elements.{piece}
use Rattle.zarrs_array_bytes.proofs.RunLemmas.{piece_is}
use Rattle.zarrs_array_bytes.proofs.ElementLemmas.{piece_at, length_between}
use Rattle.zarrs_array_to_array.specs.declared.transpose.axis.Axis.{Axis}
use Rattle.zarrs_array_to_array.specs.Strides.{row, next_rows}
use Rattle.zarrs_array_to_array.specs.Axes.{behind, reach, stretch}
use Rattle.zarrs_array_to_array.proofs.AxisRows.{behind-append, behind-nil, behind-moved, behind_below}
use Rattle.zarrs_chunk.proofs.Consecutive.{range-append}
use Rattle.zarrs_array_to_array.proofs.PlaneRows.{row_is_run}
use Rattle.zarrs_array_bytes.proofs.Pieces.{take-drop-take}

-- more neighbouring columns
pub more_columns : (out : List ℕ) (f : ℕ → List ℕ) (axes : List Axis) (front done n : ℕ)
    → (out ++ flat_map f (behind axes (row front 1 done))) ++ flat_map f (behind axes (row (front + done) 1 n)) ≡ out ++ flat_map f (behind axes (row front 1 (done + n)))
more_columns out f axes front done n =
    append_assoc out (flat_map f (behind axes (row front 1 done))) (flat_map f (behind axes (row (front + done) 1 n)))
    ∙ ap (λ xs. out ++ xs)
    (sym (flat_map-append f (behind axes (row front 1 done)) (behind axes (row (front + done) 1 n)))
    ∙ ap (flat_map f)
    (sym (behind-append axes (row front 1 done) (row (front + done) 1 n))
    ∙ ap (behind axes) (ap₂ (λ xs ys. xs ++ ys) (row_is_run front done) (row_is_run (front + done) n) ∙ sym (range-append front done n) ∙ sym (row_is_run front (done + n)))))

-- ---- a column, and columns

same_column : (f g : ℕ → List ℕ) (a s b from : ℕ) (places : List ℕ) → ((k : ℕ) → k < length places → f (a + (from + k) * s) ≡ g (b + get_or places k 0))
    → flat_map f (map (λ index. a + index * s) (range_with_len from (length places))) ≡ flat_map g (map (λ place. b + place) places)
same_column f g a s b from [] h = refl
same_column f g a s b from (place ∷ places) h =
    let e : from ≡ from + 0 = omega arith in
    ap₂ (λ xs ys. xs ++ ys) (ap (λ n. f (a + n * s)) e ∙ h 0 (omega arith))
    (same_column f g a s b (from + 1) places
    (λ k l.
    let n : from + 1 + k ≡ from + suc k = omega arith in
    ap (λ m. f (a + m * s)) n ∙ h (suc k) (omega arith)))

module _ (f g : ℕ → List ℕ) (axes : List Axis) (front s : ℕ) where
  same_columns : (at w : ℕ) → ((x k : ℕ) → x < at + w → k < length (behind axes (front ∷ [])) → f (0 + x * 1 + k * s) ≡ g (x * 1 + get_or (behind axes (front ∷ [])) k 0))
      → flat_map f (next_rows s (length (behind axes (front ∷ []))) (map (λ index. 0 + index * 1) (range_with_len at w))) ≡ flat_map g (behind axes (map (λ index. front + index * 1) (range_with_len at w)))
  same_columns at zero h = sym (ap (flat_map g) (behind-nil axes))
  same_columns at (suc w) h =
      let others : List ℕ = map (λ index. 0 + index * 1) (range_with_len (at + 1) w) in
      let nexts : List ℕ = map (λ index. front + index * 1) (range_with_len (at + 1) w) in
      let turned : front + at * 1 ≡ at * 1 + front = omega arith in
      let here : behind axes ((front + at * 1) ∷ []) ≡ map (λ number. at * 1 + number) (behind axes (front ∷ [])) = ap (λ n. behind axes (n ∷ [])) turned ∙ behind-moved (at * 1) axes (front ∷ []) in
      flat_map-append f (row (0 + at * 1) s (length (behind axes (front ∷ [])))) (next_rows s (length (behind axes (front ∷ []))) others)
      ∙ ap₂ (λ xs ys. xs ++ ys)
      (same_column f g (0 + at * 1) s (at * 1) 0 (behind axes (front ∷ []))
      (λ k l.
      let n : 0 + k ≡ k = omega arith in
      ap (λ m. f (0 + at * 1 + m * s)) n ∙ h at k (omega arith) l) ∙ ap (flat_map g) (sym here))
      (same_columns (at + 1) w (λ x k l m. h x k (omega arith) m))
      ∙ sym (flat_map-append g (behind axes ((front + at * 1) ∷ [])) (behind axes nexts))
      ∙ ap (flat_map g) (sym (behind-append axes ((front + at * 1) ∷ []) nexts))

-- ---- an element of a block

pub stretch_is : (len size : ℕ) (items : List ℕ) (place : ℕ) → stretch len size items place ≡ take len (drop (place * size) items)
stretch_is len size items place = let e : place * size + len - place * size ≡ len = omega arith in ap (λ n. take n (drop (place * size) items)) e

-- where an element of a block stands in it
in_block : (x k width size : ℕ) → (0 + x * 1 + k * width) * size ≡ k * (width * size) + x * size
in_block x k width size = grind arith

-- where it stands in the chunk
in_chunk : (place x size : ℕ) → place * size + x * size ≡ (x * 1 + place) * size
in_chunk place x size = grind arith

-- a part ends where the next one begins
pub fits_in_row : (x width size : ℕ) → x < width → x * size + size ≤ width * size
fits_in_row x width size l =
    let e : (x + 1) * size ≡ x * size + size = omega arith in
    omega (arith, mul-le-mul_right {m = x + 1} {n = width} size (omega arith))

module _ (size width : ℕ) (items places : List ℕ) (inside : (j : ℕ) → j < length places → get_or places j 0 * size + width * size ≤ length items) where
  each_stretch : (j : ℕ) → j < length places → length (stretch (width * size) size items (get_or places j 0)) ≡ width * size
  each_stretch j l =
      omega (arith, length_between (get_or places j 0 * size) (get_or places j 0 * size + width * size) items (omega arith) (inside j l))

  element_of_block : (x k : ℕ) → x < width → k < length places → piece size (flat_map (stretch (width * size) size items) places) (0 + x * 1 + k * width) ≡ piece size items (x * 1 + get_or places k 0)
  element_of_block x k below l =
      let len : ℕ = width * size in
      let place : ℕ = get_or places k 0 in
      let block : List ℕ = flat_map (stretch len size items) places in
      let here : take len (drop (k * len) block) ≡ take len (drop (place * size) items) =
      piece_at (stretch len size items) len places k 0 each_stretch l ∙ stretch_is len size items place in
      piece_is size (0 + x * 1 + k * width) block
      ∙ ap (λ n. take size (drop n block)) (in_block x k width size)
      ∙ ap (take size) (sym (drop-drop (x * size) (k * len) block))
      ∙ sym (take-drop-take size (x * size) len (drop (k * len) block) (fits_in_row x width size below))
      ∙ ap (λ xs. take size (drop (x * size) xs)) here
      ∙ take-drop-take size (x * size) len (drop (place * size) items) (fits_in_row x width size below)
      ∙ ap (take size) (drop-drop (x * size) (place * size) items)
      ∙ ap (λ n. take size (drop n items)) (in_chunk place x size)
      ∙ sym (piece_is size (x * 1 + place) items)

-- the columns of a block that was copied row by row
pub block_turned : (size front width : ℕ) (axes : List Axis) (items : List ℕ) → ((j : ℕ) → j < length (behind axes (front ∷ [])) → get_or (behind axes (front ∷ [])) j 0 * size + width * size ≤ length items)
    → flat_map (piece size (flat_map (stretch (width * size) size items) (behind axes (front ∷ [])))) (next_rows width (length (behind axes (front ∷ []))) (row 0 1 width)) ≡ flat_map (piece size items) (behind axes (row front 1 width))
block_turned size front width axes items inside =
    let found : List ℕ = behind axes (front ∷ []) in
    same_columns (piece size (flat_map (stretch (width * size) size items) found)) (piece size items) axes front width 0 width
    (λ x k l m. element_of_block size width items found inside x k (omega arith) m)

-- ---- what lies within

-- each row of a block does
pub rows_within : (size width front limit : ℕ) (axes : List Axis) → (front + reach axes) * size + width * size ≤ limit → (j : ℕ) → j < length (behind axes (front ∷ [])) → get_or (behind axes (front ∷ [])) j 0 * size + width * size ≤ limit
rows_within size width front limit axes inside j l =
    omega (arith, inside, mul-le-mul_right {m = get_or (behind axes (front ∷ [])) j 0} {n = front + reach axes} size (behind_below axes front j l))

-- so many pieces of one length are counted by their bytes
pub pieces_counted : (bytes pieces len : ℕ) → 0 < len → bytes ≡ pieces * len → bytes / len ≡ pieces
pieces_counted bytes pieces len l e =
    let z : pieces * len ≡ pieces * len + 0 = omega arith in
    ap (λ n. n / len) (e ∙ z) ∙ div-mul-add pieces len 0 l
