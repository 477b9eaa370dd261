-- The places of a chunk's elements, axis by axis.
use Rattle.std.proofs.Common.{◌≡◌, ℕ, zero, suc, ◌+◌, ◌-◌, ◌*◌, ◌<◌, ◌≤◌, List, [], ◌∷◌, ◌++◌, length, get_or, map, take, drop, set, arith, refl, ap, ap₂, ◌∙◌, sym, append_assoc, subst}
use Rattle.std.specs.List.{flat_map, range_with_len}
use Rattle.std.proofs.lemmas.List.{map_more, take_more, take_more_set}
use Rattle.std.proofs.lemmas.List.Concat.{flat_map-append}
use Rattle.zarrs_array_to_array.specs.declared.transpose.axis.Axis.{Axis}
use Rattle.zarrs_array_to_array.specs.Orders.{permuted}
use Rattle.zarrs_array_to_array.specs.Strides.{row, next_rows, stepped, last_tuple, all_behind, IsRoomy}
use Rattle.zarrs_array_to_array.specs.Axes.{behind, reach, axes_of}
use Rattle.zarrs_array_to_array.proofs.Rows.{row_more, next_rows-moved}
use Rattle.zarrs_array_to_array.proofs.Steps.{IsRoomy-rows}

-- ---- one axis more

pub behind-more : (axes : List Axis) (axis : Axis) (fronts : List ℕ) → behind (axes ++ axis ∷ []) fronts ≡ next_rows axis.step axis.size (behind axes fronts)
behind-more [] axis fronts = refl
behind-more (first ∷ axes) axis fronts = behind-more axes axis (next_rows first.step first.size fronts)

pub reach-more : (axes : List Axis) (axis : Axis) → reach (axes ++ axis ∷ []) ≡ reach axes + (axis.size - 1) * axis.step
reach-more [] axis = omega arith
reach-more (first ∷ axes) axis = omega (arith, reach-more axes axis)

-- ---- behind several fronts

pub behind-append : (axes : List Axis) (xs ys : List ℕ) → behind axes (xs ++ ys) ≡ behind axes xs ++ behind axes ys
behind-append [] xs ys = refl
behind-append (axis ∷ axes) xs ys =
    ap (behind axes) (flat_map-append (λ front. row front axis.step axis.size) xs ys) ∙ behind-append axes (next_rows axis.step axis.size xs) (next_rows axis.step axis.size ys)

pub behind-nil : (axes : List Axis) → behind axes [] ≡ []
behind-nil [] = refl
behind-nil (axis ∷ axes) = behind-nil axes

-- behind fronts that are moved on
pub behind-moved : (by : ℕ) (axes : List Axis) (fronts : List ℕ) → behind axes (map (λ number. by + number) fronts) ≡ map (λ number. by + number) (behind axes fronts)
behind-moved by [] fronts = refl
behind-moved by (axis ∷ axes) fronts =
    ap (behind axes) (next_rows-moved by axis.step axis.size fronts) ∙ behind-moved by axes (next_rows axis.step axis.size fronts)

-- fronts that leave room for the last tuple leave room for all
behind_roomy : (limit : ℕ) (axes : List Axis) (fronts : List ℕ) → IsRoomy limit (reach axes) fronts → IsRoomy limit 0 (behind axes fronts)
behind_roomy limit [] fronts h = h
behind_roomy limit (axis ∷ axes) fronts h = behind_roomy limit axes (next_rows axis.step axis.size fronts) (IsRoomy-rows limit (reach axes) axis.step axis.size fronts h)

-- no place is further than the last one
pub behind_below : (axes : List Axis) (front k : ℕ) → k < length (behind axes (front ∷ [])) → get_or (behind axes (front ∷ [])) k 0 ≤ front + reach axes
behind_below axes front k l =
    let room = behind_roomy (front + reach axes + 1) axes (front ∷ []) (only (front + reach axes + 1) (reach axes) front (omega arith)) in
    omega (arith, room k l)
  where
    only : (limit behind front : ℕ) → front + behind < limit → IsRoomy limit behind (front ∷ [])
    only limit behind front h zero l = h
    only limit behind front h (suc k) l = absurd (omega arith)

-- the first axis and those behind it
pub reach_split : (axes : List Axis) (d : Axis) → 1 ≤ length axes → reach axes ≡ ((get_or axes 0 d).size - 1) * (get_or axes 0 d).step + reach (drop 1 axes)
reach_split [] d l = absurd (omega arith)
reach_split (axis ∷ axes) d l = refl

-- behind one index more of the first axis
pub more_behind : (out : List ℕ) (f : ℕ → List ℕ) (axes : List Axis) (front step n : ℕ)
    → (out ++ flat_map f (behind axes (row front step n))) ++ flat_map f (behind axes ((front + n * step) ∷ [])) ≡ out ++ flat_map f (behind axes (row front step (n + 1)))
more_behind out f axes front step n =
    append_assoc out (flat_map f (behind axes (row front step n))) (flat_map f (behind axes ((front + n * step) ∷ [])))
    ∙ ap (λ xs. out ++ xs)
    (sym (flat_map-append f (behind axes (row front step n)) (behind axes ((front + n * step) ∷ [])))
    ∙ ap (flat_map f) (sym (behind-append axes (row front step n) ((front + n * step) ∷ [])) ∙ ap (behind axes) (sym (row_more front step n))))

-- ---- an axis of a single index, and two axes as one

pub single_index : (step : ℕ) (fronts : List ℕ) → next_rows step 1 fronts ≡ fronts
single_index step [] = refl
single_index step (front ∷ fronts) = let e : front + 0 * step ≡ front = omega arith in ap₂ (λ x xs. x ∷ xs) e (single_index step fronts)

-- a row moved on
row_from : (front step size from n : ℕ) → map (λ index. front + index * step) (range_with_len (from + size) n) ≡ map (λ index. front + size * step + index * step) (range_with_len from n)
row_from front step size from zero = refl
row_from front step size from (suc n) =
    let e : front + (from + size) * step ≡ front + size * step + from * step = omega arith in
    let f : from + size + 1 ≡ from + 1 + size = omega arith in
    ap₂ (λ x xs. x ∷ xs) e (ap (λ m. map (λ index. front + index * step) (range_with_len m n)) f ∙ row_from front step size (from + 1) n)

row_split : (front step m n from : ℕ) → map (λ index. front + index * step) (range_with_len from (m + n)) ≡ map (λ index. front + index * step) (range_with_len from m) ++ map (λ index. front + index * step) (range_with_len (from + m) n)
row_split front step zero n from =
    let e : 0 + n ≡ n = omega arith in
    let f : from ≡ from + 0 = omega arith in
    ap₂ (λ a k. map (λ index. front + index * step) (range_with_len a k)) f e
row_split front step (suc m) n from =
    let e : suc m + n ≡ suc (m + n) = omega arith in
    let f : from + 1 + m ≡ from + suc m = omega arith in
    ap (λ k. map (λ index. front + index * step) (range_with_len from k)) e
    ∙ ap (λ xs. (front + from * step) ∷ xs) (row_split front step m n (from + 1) ∙ ap (λ a. map (λ index. front + index * step) (range_with_len (from + 1) m) ++ map (λ index. front + index * step) (range_with_len a n)) f)

rows_joined : (front step size from n : ℕ) → next_rows step size (map (λ index. front + index * (size * step)) (range_with_len from n)) ≡ map (λ index. front + index * step) (range_with_len (from * size) (n * size))
rows_joined front step size from zero = (let z : 0 * size ≡ 0 = omega arith in ap (λ m. map (λ index. front + index * step) (range_with_len (from * size) m)) (sym z))
rows_joined front step size from (suc n) =
    let count : size + n * size ≡ suc n * size = omega arith in
    let next : (from + 1) * size ≡ from * size + size = omega arith in
    let here : front + from * (size * step) ≡ front + (from * size) * step = grind arith in
    let zero_is : 0 + from * size ≡ from * size = omega arith in
    ap₂ (λ xs ys. xs ++ ys)
    (ap (λ a. row a step size) here ∙ sym (row_from front step (from * size) 0 size) ∙ ap (λ a. map (λ index. front + index * step) (range_with_len a size)) zero_is)
    (rows_joined front step size (from + 1) n ∙ ap (λ a. map (λ index. front + index * step) (range_with_len a (n * size))) next)
    ∙ sym (row_split front step size (n * size) (from * size))
    ∙ ap (λ m. map (λ index. front + index * step) (range_with_len (from * size) m)) count

one_joined : (front step size n : ℕ) → next_rows step size (row front (size * step) n) ≡ row front step (n * size)
one_joined front step size n =
    let z : 0 * size ≡ 0 = omega arith in
    rows_joined front step size 0 n ∙ ap (λ a. map (λ index. front + index * step) (range_with_len a (n * size))) z

pub joined_rows : (step size n : ℕ) (fronts : List ℕ) → next_rows step size (next_rows (size * step) n fronts) ≡ next_rows step (n * size) fronts
joined_rows step size n [] = refl
joined_rows step size n (front ∷ fronts) =
    flat_map-append (λ at. row at step size) (row front (size * step) n) (next_rows (size * step) n fronts)
    ∙ ap₂ (λ xs ys. xs ++ ys) (one_joined front step size n) (joined_rows step size n fronts)

pub joined_reach : (step size n : ℕ) → (n * size - 1) * step ≤ (n - 1) * (size * step) + (size - 1) * step
joined_reach step size zero =
    let z : 0 * size - 1 ≡ 0 = omega arith in
    rw z (omega arith)
joined_reach step zero (suc n) =
    let z : suc n * 0 - 1 ≡ 0 = omega arith in
    rw z (omega arith)
joined_reach step (suc size) (suc n) =
    let a : suc n * suc size - 1 ≡ n * suc size + size = omega arith in
    let b : suc n - 1 ≡ n = omega arith in
    let d : suc size - 1 ≡ size = omega arith in
    let e : (n * suc size + size) * step ≡ n * (suc size * step) + size * step = grind arith in
    rw (a, b, d) (omega (arith, e))

-- behind two axes as one
pub behind-joined : (axes : List Axis) (first second both : Axis) → first.step ≡ second.size * second.step → both.size ≡ first.size * second.size → both.step ≡ second.step
    → behind (axes ++ both ∷ []) (0 ∷ []) ≡ next_rows second.step second.size (behind (axes ++ first ∷ []) (0 ∷ []))
behind-joined axes first second both adjoining size step =
    let places : List ℕ = behind axes (0 ∷ []) in
    behind-more axes both (0 ∷ [])
    ∙ ap₂ (λ (step size : ℕ). next_rows step size places) step size
    ∙ sym (joined_rows second.step second.size first.size places)
    ∙ ap (λ (step : ℕ). next_rows second.step second.size (next_rows step first.size places)) (sym adjoining)
    ∙ ap (next_rows second.step second.size) (sym (behind-more axes first (0 ∷ [])))

pub reach-joined : (axes : List Axis) (first second both : Axis) → first.step ≡ second.size * second.step → both.size ≡ first.size * second.size → both.step ≡ second.step
    → reach (axes ++ both ∷ []) ≤ reach (axes ++ first ∷ []) + (second.size - 1) * second.step
reach-joined axes first second both adjoining size step =
    let near : (both.size - 1) * both.step ≤ (first.size - 1) * first.step + (second.size - 1) * second.step =
    rw (size, step, adjoining) (joined_reach second.step second.size first.size) in
    omega (arith, near, reach-more axes both, reach-more axes first)

-- the last one of the first so many axes
pub last_taken : (axes : List Axis) (count : ℕ) (d : Axis) → 1 ≤ count → count ≤ length axes → take count axes ≡ take (count - 1) axes ++ get_or axes (count - 1) d ∷ []
last_taken axes count d l m =
    let last : count - 1 + 1 ≡ count = omega arith in
    subst (λ n. take n axes ≡ take (count - 1) axes ++ get_or axes (count - 1) d ∷ []) last (take_more axes (count - 1) d (omega arith))

-- the same, where another is written in its place
pub last_written : (axes : List Axis) (count : ℕ) (axis : Axis) → 1 ≤ count → count ≤ length axes → take count (set axes (count - 1) axis) ≡ take (count - 1) axes ++ axis ∷ []
last_written axes count axis l m =
    let last : count - 1 + 1 ≡ count = omega arith in
    subst (λ n. take n (set axes (count - 1) axis) ≡ take (count - 1) axes ++ axis ∷ []) last (take_more_set axes (count - 1) axis (omega arith))

-- the first two, where both are written
pub first_written : (axes : List Axis) (axis : Axis) → 2 ≤ length axes → take 2 (set (set axes 0 axis) 1 axis) ≡ axis ∷ axis ∷ []
first_written [] axis l = absurd (omega arith)
first_written (first ∷ []) axis l = absurd (omega arith)
first_written (first ∷ second ∷ axes) axis l = refl

-- ---- axes in an order

pub behind-axes_of : (sizes steps order fronts : List ℕ) → behind (axes_of sizes steps order) fronts ≡ all_behind (permuted order sizes) (permuted order steps) fronts
behind-axes_of sizes steps [] fronts = refl
behind-axes_of sizes steps (axis ∷ order) fronts = behind-axes_of sizes steps order (next_rows (get_or steps axis 0) (get_or sizes axis 0) fronts)

pub reach-axes_of : (sizes steps order : List ℕ) → reach (axes_of sizes steps order) ≡ stepped (permuted order steps) (last_tuple (permuted order sizes))
reach-axes_of sizes steps [] = refl
reach-axes_of sizes steps (axis ∷ order) = ap (λ n. (get_or sizes axis 0 - 1) * get_or steps axis 0 + n) (reach-axes_of sizes steps order)

pub axes_of-more : (sizes steps order : List ℕ) (i : ℕ) → i < length order → axes_of sizes steps (take (i + 1) order) ≡ axes_of sizes steps (take i order) ++ record { size = get_or sizes (get_or order i 0) 0; step = get_or steps (get_or order i 0) 0 } ∷ []
axes_of-more sizes steps order i l = map_more (λ axis. record { size = get_or sizes axis 0; step = get_or steps axis 0 }) order i 0 l
