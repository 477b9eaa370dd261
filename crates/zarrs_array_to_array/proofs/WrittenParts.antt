-- Parts of a slice, written one behind another.
use Rattle.std.proofs.Common.{◌≡◌, ℕ, zero, suc, ◌+◌, ◌-◌, ◌*◌, ◌/◌, ◌<◌, ◌≤◌, List, [], ◌∷◌, ◌++◌, length, get_or, take, drop, Option, Some, None, arith, refl, ap, ap₂, ◌∙◌, sym, length-append}
use Rattle.std.specs.List.{flat_map, range_with_len}
use Rattle.std.proofs.lemmas.List.{append-nil, drop_all, length-drop, length-map, length-take-le}
use Rattle.std.proofs.Math.Nat.{mul-le-mul_right, mul-div_cancel}
use Rattle.zarrs_array_bytes.specs.Elements.{piece}
use Rattle.zarrs_array_bytes.specs.Turned.{WholeComponents, turned_bytes}
use Rattle.zarrs_array_bytes.proofs.ElementLemmas.{length-flat_map_sized}
use Rattle.zarrs_array_bytes.proofs.ReversedPieces.{length-reversed_pieces}
use Rattle.zarrs_array_bytes.proofs.TurnedParts.{turned_bytes-append, turned_bytes-whole}
use Rattle.zarrs_array_to_array.specs.declared.transpose.axis.Axis.{Axis}
use Rattle.zarrs_array_to_array.specs.Axes.{behind, reach, stretch, tuples}
use Rattle.zarrs_array_to_array.specs.Strides.{row, next_rows}
use Rattle.zarrs_array_to_array.proofs.AxisRows.{behind-nil, behind_below, more_behind}
use Rattle.zarrs_array_to_array.proofs.PlaneRows.{more_of_plane}
use Rattle.zarrs_array_to_array.proofs.BlockRows.{more_columns}
use Rattle.zarrs_array_to_array.proofs.RowGroups.{length-row, length-stretch, put_next}

-- ---- how many tuples there are

length-steps : (front step from n : ℕ) → length (row front step n) ≡ n
length-steps front step from n = length-map (range_with_len 0 n) (λ index. front + index * step) ∙ counted 0 n
  where
    counted : (at n : ℕ) → length (range_with_len at n) ≡ n
    counted at zero = refl
    counted at (suc n) = ap suc (counted (at + 1) n)

length-next_rows : (step size : ℕ) (fronts : List ℕ) → length (next_rows step size fronts) ≡ length fronts * size
length-next_rows step size [] = omega arith
length-next_rows step size (front ∷ fronts) =
    omega (arith, length-append (row front step size) (next_rows step size fronts), length-steps front step 0 size, length-next_rows step size fronts)

pub length-behind : (axes : List Axis) (fronts : List ℕ) → length (behind axes fronts) ≡ length fronts * tuples axes
length-behind [] fronts = omega arith
length-behind (axis ∷ axes) fronts =
    let spread : length fronts * axis.size * tuples axes ≡ length fronts * (axis.size * tuples axes) = grind arith in
    length-behind axes (next_rows axis.step axis.size fronts)
    ∙ ap (λ n. n * tuples axes) (length-next_rows axis.step axis.size fronts) ∙ spread

-- they are counted by their places
pub counted_tuples : (axes : List Axis) (places : List ℕ) → behind axes (0 ∷ []) ≡ places → tuples axes ≡ length places
counted_tuples axes places is =
    let one : 1 * tuples axes ≡ tuples axes = omega arith in
    sym (sym (ap length is) ∙ length-behind axes (0 ∷ []) ∙ one)

-- those over the first axis and over the others
pub tuples_split : (axes : List Axis) (d : Axis) → 1 ≤ length axes → tuples axes ≡ (get_or axes 0 d).size * tuples (drop 1 axes)
tuples_split [] d l = absurd (omega arith)
tuples_split (axis ∷ axes) d l = refl

-- those over two axes
pub tuples_of_two : (axes : List Axis) (d : Axis) → length axes ≡ 2 → tuples axes ≡ (get_or axes 0 d).size * (get_or axes 1 d).size
tuples_of_two [] d e = absurd (omega arith)
tuples_of_two (first ∷ []) d e = absurd (omega arith)
tuples_of_two (first ∷ second ∷ []) d e = ap (λ n. first.size * n) (omega arith)
tuples_of_two (first ∷ second ∷ third ∷ axes) d e = absurd (omega arith)

-- and their places
pub behind_first : (axes : List Axis) (d : Axis) (front : ℕ) → 1 ≤ length axes → behind axes (front ∷ []) ≡ behind (drop 1 axes) (row front (get_or axes 0 d).step (get_or axes 0 d).size)
behind_first [] d front l = absurd (omega arith)
behind_first (axis ∷ axes) d front l = ap (behind axes) (append-nil (row front axis.step axis.size))

-- the bytes of one index of the first axis
pub part_of : (len first rest size : ℕ) → 0 < first → len ≡ first * rest * size → len / first ≡ rest * size
part_of len first rest size l e =
    let turned : len ≡ rest * size * first = e ∙ grind arith in
    ap (λ n. n / first) turned ∙ mul-div_cancel (rest * size) l

-- ---- how many bytes stand at their places

-- those at the tuples behind a front
pub length-stretches : (len size : ℕ) (items : List ℕ) (axes : List Axis) (front : ℕ) → (front + reach axes) * size + len ≤ length items → length (flat_map (stretch len size items) (behind axes (front ∷ []))) ≡ tuples axes * len
length-stretches len size items axes front inside =
    let places : List ℕ = behind axes (front ∷ []) in
    let one : 1 * tuples axes ≡ tuples axes = omega arith in
    length-flat_map_sized (stretch len size items) len places 0
    (λ j l. length-stretch len size items (get_or places j 0) (omega (arith, inside, mul-le-mul_right {m = get_or places j 0} {n = front + reach axes} size (behind_below axes front j l))))
    ∙ ap (λ n. n * len) (length-behind axes (front ∷ []) ∙ one)

-- those at the tuples behind each front of a row
pub length-fronts : (each : ℕ) (f : ℕ → List ℕ) (axes : List Axis) (front step n : ℕ) → ((i : ℕ) → i < n → length (flat_map f (behind axes ((front + i * step) ∷ []))) ≡ each) → length (flat_map f (behind axes (row front step n))) ≡ n * each
length-fronts each f axes front step zero h = ap (λ xs. length (flat_map f xs)) (behind-nil axes) ∙ omega arith
length-fronts each f axes front step (suc n) h =
    let e : suc n ≡ n + 1 = omega arith in
    let spread : n * each + each ≡ suc n * each = omega arith in
    ap (λ m. length (flat_map f (behind axes (row front step m)))) e
    ∙ ap length (sym (more_behind [] f axes front step n))
    ∙ length-append (flat_map f (behind axes (row front step n))) (flat_map f (behind axes ((front + n * step) ∷ [])))
    ∙ ap₂ (λ a b. a + b) (length-fronts each f axes front step n (λ i l. h i (omega arith))) (h n (omega arith))
    ∙ spread

-- those of the rows of a plane
pub length-plane : (size : ℕ) (items : List ℕ) (s m front step n : ℕ) → ((r k : ℕ) → r < n → k < m → (front + r * step + k * s) * size + size ≤ length items) → length (flat_map (piece size items) (next_rows s m (row front step n))) ≡ n * (m * size)
length-plane size items s m front step zero h = omega arith
length-plane size items s m front step (suc n) h =
    let f : ℕ → List ℕ = piece size items in
    let e : suc n ≡ n + 1 = omega arith in
    let spread : n * (m * size) + m * size ≡ suc n * (m * size) = omega arith in
    ap (λ k. length (flat_map f (next_rows s m (row front step k)))) e
    ∙ ap length (sym (more_of_plane [] f s m front step n))
    ∙ length-append (flat_map f (next_rows s m (row front step n))) (flat_map f (row (front + n * step) s m))
    ∙ ap₂ (λ a b. a + b) (length-plane size items s m front step n (λ r k l b. h r k (omega arith) b)) (length-row size size items (front + n * step) s m (λ k l. h n k (omega arith) l))
    ∙ spread

-- ---- components turned round

-- whole elements have as many bytes when their components are turned round
pub length-turned : (turn : Option ℕ) (size n : ℕ) (items : List ℕ) → WholeComponents size turn → length items ≡ n * size → length (turned_bytes turn items) ≡ length items
length-turned None size n items w e = refl
length-turned (Some t) size n items w e =
    let whole : length items ≡ n * (size / t) * t = e ∙ ap (λ k. n * k) (sym w.1) ∙ grind arith in
    ap length (turned_bytes-whole t (n * (size / t)) items w.0 whole)
    ∙ length-reversed_pieces t (n * (size / t)) items (omega (arith, whole)) ∙ sym whole

-- and are turned round each on its own
pub turned_joined : (turn : Option ℕ) (size n : ℕ) (front rest : List ℕ) → WholeComponents size turn → length front ≡ n * size → turned_bytes turn (front ++ rest) ≡ turned_bytes turn front ++ turned_bytes turn rest
turned_joined None size n front rest w e = refl
turned_joined (Some t) size n front rest w e =
    let whole : length front ≡ n * (size / t) * t = e ∙ ap (λ k. n * k) (sym w.1) ∙ grind arith in
    turned_bytes-append t (n * (size / t)) front rest w.0 whole

-- nothing is turned round
pub turned_none : (turn : Option ℕ) (size : ℕ) → WholeComponents size turn → turned_bytes turn [] ≡ []
turned_none None size w = refl
turned_none (Some t) size w = let none : 0 ≡ 0 * t = omega arith in turned_bytes-whole t 0 [] w.0 none

-- ---- parts of a slice

pub length-part : (n at : ℕ) (items : List ℕ) → at + n ≤ length items → length (take n (drop at items)) ≡ n
length-part n at items l = length-take-le n (drop at items) (omega (arith, length-drop at items, l))

-- nothing stands behind the last one
pub all_parts : (done items init : List ℕ) (n : ℕ) → items ≡ done ++ drop n init → length init ≤ n → items ≡ done
all_parts done items init n is l = is ∙ ap (λ xs. done ++ xs) (drop_all n init l) ∙ append-nil done

-- ---- one part more

-- behind one index more of the first axis
pub index_more : (turn : Option ℕ) (size m : ℕ) (f : ℕ → List ℕ) (axes : List Axis) (front step i part k : ℕ) (init items new : List ℕ) → WholeComponents size turn → part ≡ m * size
    → items ≡ turned_bytes turn (flat_map f (behind axes (row front step i))) ++ drop (i * part) init → length (flat_map f (behind axes (row front step i))) ≡ i * part
    → k ≡ part → new ≡ turned_bytes turn (flat_map f (behind axes ((front + i * step) ∷ [])))
    → take (i * part) items ++ (new ++ drop k (drop (i * part) items)) ≡ turned_bytes turn (flat_map f (behind axes (row front step (i + 1)))) ++ drop ((i + 1) * part) init
index_more turn size m f axes front step i part k init items new w e is counted n same =
    let done : List ℕ = flat_map f (behind axes (row front step i)) in
    let next : List ℕ = flat_map f (behind axes ((front + i * step) ∷ [])) in
    let whole : length done ≡ i * m * size = counted ∙ ap (λ p. i * p) e ∙ grind arith in
    let more : i * part + part ≡ (i + 1) * part = omega arith in
    put_next (turned_bytes turn done) init items (turned_bytes turn next) new (i * part) k part (length-turned turn size (i * m) done w whole ∙ counted) is n same
    ∙ ap₂ (λ xs p. xs ++ drop p init) (sym (turned_joined turn size (i * m) done next w whole) ∙ ap (turned_bytes turn) (more_behind [] f axes front step i)) more

-- more neighbouring columns
pub columns_more : (turn : Option ℕ) (size m : ℕ) (f : ℕ → List ℕ) (axes : List Axis) (front done n column k : ℕ) (init items new : List ℕ) → WholeComponents size turn → column ≡ m * size
    → items ≡ turned_bytes turn (flat_map f (behind axes (row front 1 done))) ++ drop (done * column) init → length (flat_map f (behind axes (row front 1 done))) ≡ done * column
    → k ≡ n * column → new ≡ turned_bytes turn (flat_map f (behind axes (row (front + done) 1 n)))
    → take (done * column) items ++ (new ++ drop k (drop (done * column) items)) ≡ turned_bytes turn (flat_map f (behind axes (row front 1 (done + n)))) ++ drop ((done + n) * column) init
columns_more turn size m f axes front done n column k init items new w e is counted same is_new =
    let before : List ℕ = flat_map f (behind axes (row front 1 done)) in
    let next : List ℕ = flat_map f (behind axes (row (front + done) 1 n)) in
    let whole : length before ≡ done * m * size = counted ∙ ap (λ p. done * p) e ∙ grind arith in
    let more : done * column + n * column ≡ (done + n) * column = grind arith in
    put_next (turned_bytes turn before) init items (turned_bytes turn next) new (done * column) k (n * column) (length-turned turn size (done * m) before w whole ∙ counted) is same is_new
    ∙ ap₂ (λ xs p. xs ++ drop p init) (sym (turned_joined turn size (done * m) before next w whole) ∙ ap (turned_bytes turn) (more_columns [] f axes front done n)) more
