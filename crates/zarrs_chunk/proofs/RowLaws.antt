-- Rows as runs.
use Rattle.std.proofs.Common.{◌≡◌, ℕ, ◌+◌, ◌*◌, ◌-◌, ◌<◌, ◌≤◌, ◌^◌, true, List, [], ◌∷◌, ◌++◌, length, get_or, map, drop, arith, refl, ap, ◌∙◌, sym, subst}
use Rattle.std.specs.List.{All, range_with_len}
use Rattle.std.proofs.lemmas.List.{map-append, append_assoc, get_or_default}
use Rattle.std.proofs.lemmas.List.Elements.{All-map}
use Rattle.std.proofs.Math.Nat.{mul-le-mul_right, mul-le-mul_left}
use Rattle.zarrs_chunk.specs.ChunkShape.{product}
use Rattle.zarrs_chunk.specs.Levels.{rows_behind, AreFronts, FrontsFit, AreWhole, LastIsPartial}
use Rattle.zarrs_chunk.specs.Rows.{row_at, AreBoxRuns}
use Rattle.zarrs_chunk.specs.Runs.{joined_runs, AreFilled, EndWithin}
use Rattle.zarrs_chunk.specs.Tuples.{is_box_inside}
use Rattle.zarrs_chunk.specs.declared.rows.Row.{Row}
use Rattle.zarrs_chunk.proofs.Apart.{rows_apart}
use Rattle.zarrs_chunk.proofs.BoxTuples.{numbers_behind-more, numbers_behind-start}
use Rattle.zarrs_chunk.proofs.Consecutive.{range-append}
use Rattle.zarrs_chunk.proofs.Fitting.{IsFitting-more, IsFitting-start}
use Rattle.zarrs_chunk.proofs.Inside.{is_box_inside-at, is_box_inside-lengths}
use Rattle.zarrs_chunk.proofs.Products.{product_positive-drop, product_drop}
use Rattle.zarrs_chunk.proofs.WholeAxes.{positive_whole, spread_rows, rows_before_whole, whole_row_fits, product_drop-le}

-- a row more
pub rows_more : (row : Row) (runs : List (ℕ × ℕ)) (first count : ℕ) → (runs ++ map (row_at row) (range_with_len first count)) ++ row_at row (first + count) ∷ [] ≡ runs ++ map (row_at row) (range_with_len first (count + 1))
rows_more row runs first count =
    append_assoc runs (map (row_at row) (range_with_len first count)) (row_at row (first + count) ∷ [])
    ∙ ap (λ xs. runs ++ xs) (sym (ap (map (row_at row)) (range-append first count 1) ∙ map-append (row_at row) (range_with_len first count) ((first + count) ∷ [])))

-- fronts with room for rows are fewer
pub few_fronts : (n step : ℕ) → 0 < step → n * step < 2 ^ 64 → n < 2 ^ 64
few_fronts n step h room = let one : 1 ≤ step = h in omega (arith, mul-le-mul_left n one, room)

-- rows as runs
abbrev pub row_runs_of : ℕ → ℕ → ℕ → ℕ → List ℕ → List (ℕ × ℕ)
row_runs_of size start len whole fronts = map (λ front. ((front * size + start) * whole, len * whole)) fronts

row_places : (size start len whole : ℕ) (fronts : List ℕ) → joined_runs (row_runs_of size start len whole fronts) ≡ spread_rows size start len whole fronts
row_places size start len whole [] = refl
row_places size start len whole (front ∷ fronts) = ap (λ ns. range_with_len ((front * size + start) * whole) (len * whole) ++ ns) (row_places size start len whole fronts)

rows_filled : (size start len whole : ℕ) (fronts : List ℕ) → 0 < len * whole → AreFilled (row_runs_of size start len whole fronts)
rows_filled size start len whole fronts h = All-map (λ (run : ℕ × ℕ). 0 < run.1) (λ front. ((front * size + start) * whole, len * whole)) fronts (λ k d l. h)

rows_below : (size start len whole total : ℕ) (fronts : List ℕ) → ((k : ℕ) → k < length fronts → (get_or fronts k 0 * size + start) * whole + len * whole ≤ total) → EndWithin total (row_runs_of size start len whole fronts)
rows_below size start len whole total fronts h =
    All-map (λ (run : ℕ × ℕ). run.0 + run.1 ≤ total) (λ front. ((front * size + start) * whole, len * whole)) fronts
    (λ k d l. subst (λ front. (front * size + start) * whole + len * whole ≤ total) (get_or_default fronts k 0 d l) (h k l))

pub rows_are : (step first len size start whole : ℕ) (fronts : List ℕ) → step ≡ size * whole → first ≡ start * whole → map (row_at (record { step = step; start = first; len = len * whole })) fronts ≡ row_runs_of size start len whole fronts
rows_are step first len size start whole [] e f = refl
rows_are step first len size start whole (front ∷ fronts) e f =
    let at : front * step + first ≡ (front * size + start) * whole = ap (λ n. front * n + first) e ∙ ap (λ n. front * (size * whole) + n) f ∙ distribute front size start whole in
    ap (λ n. (n, len * whole) ∷ map (row_at (record { step = step; start = first; len = len * whole })) fronts) at
    ∙ ap (λ rs. ((front * size + start) * whole, len * whole) ∷ rs) (rows_are step first len size start whole fronts e f)
  where
    distribute : (front size start whole : ℕ) → front * (size * whole) + start * whole ≡ (front * size + start) * whole
    distribute front size start whole = omega arith

-- the one front over no axes
pub zero_are : (sizes starts lengths : List ℕ) (axes : ℕ) → axes ≡ 0 → AreFronts axes sizes starts lengths (0 ∷ [])
zero_are sizes starts lengths axes e = subst (λ n. AreFronts n sizes starts lengths (0 ∷ [])) (sym e) (numbers_behind-start sizes starts lengths)

pub zero_fit : (sizes : List ℕ) (axes : ℕ) → axes ≡ 0 → FrontsFit axes sizes (0 ∷ [])
zero_fit sizes axes e = subst (λ n. FrontsFit n sizes (0 ∷ [])) (sym e) (IsFitting-start sizes)

-- ---- those of a box that covers the axes from `outer` on whole, and not the one before them

module _ (sizes starts lengths : List ℕ) (inside : is_box_inside sizes starts lengths ≡ true) (positive : All (λ size. 0 < size) sizes) (filled : All (λ len. 0 < len) lengths) (outer : ℕ) (some : 0 < outer) (fits : outer ≤ length sizes)
    (whole : AreWhole outer (length sizes) sizes starts lengths) (partial : LastIsPartial outer sizes lengths) where
  abbrev pub rest : ℕ
  rest = product (drop outer sizes)

  both : (length starts ≡ length sizes) × (length lengths ≡ length sizes)
  both = is_box_inside-lengths sizes starts lengths inside

  some_rest : 0 < rest
  some_rest = product_positive-drop sizes outer positive

  pub step_is : get_or sizes (outer - 1) 0 * rest ≡ product (drop (outer - 1) sizes)
  step_is = let one : (outer - 1) + 1 ≡ outer = omega arith in ap (λ n. get_or sizes (outer - 1) 0 * product (drop n sizes)) (sym one) ∙ sym (product_drop sizes (outer - 1) (omega arith))

  pub step_fits : get_or sizes (outer - 1) 0 * rest ≤ product sizes
  step_fits = omega (arith, step_is, product_drop-le sizes (outer - 1) positive)

  pub step_positive : 0 < get_or sizes (outer - 1) 0 * rest
  step_positive = omega (arith, step_is, product_positive-drop sizes (outer - 1) positive)

  within : get_or starts (outer - 1) 0 + get_or lengths (outer - 1) 0 ≤ get_or sizes (outer - 1) 0
  within = is_box_inside-at sizes starts lengths (outer - 1) inside (omega arith)

  pub start_fits : get_or starts (outer - 1) 0 * rest ≤ get_or sizes (outer - 1) 0 * rest
  start_fits = mul-le-mul_right rest (let m : get_or starts (outer - 1) 0 ≤ get_or sizes (outer - 1) 0 = omega (arith, within) in m)

  pub len_fits : get_or lengths (outer - 1) 0 * rest ≤ get_or sizes (outer - 1) 0 * rest
  len_fits = mul-le-mul_right rest (let m : get_or lengths (outer - 1) 0 ≤ get_or sizes (outer - 1) 0 = omega (arith, within) in m)

  pub are_box_runs : (fronts : List ℕ) → AreFronts (outer - 1) sizes starts lengths fronts → FrontsFit (outer - 1) sizes fronts → AreBoxRuns sizes starts lengths (row_runs_of (get_or sizes (outer - 1) 0) (get_or starts (outer - 1) 0) (get_or lengths (outer - 1) 0) rest fronts)
  are_box_runs fronts are fit =
      let size = get_or sizes (outer - 1) 0 in
      let start = get_or starts (outer - 1) 0 in
      let len = get_or lengths (outer - 1) 0 in
      let one : outer ≡ (outer - 1) + 1 = omega arith in
      let some_len : 0 < len = filled (outer - 1) 0 (omega (arith, both.1)) in
      record {
        places = row_places size start len rest fronts ∙ sym (rows_before_whole sizes starts lengths fronts (outer - 1) outer one fits both.0 both.1 whole) ∙ are;
        filled = rows_filled size start len rest fronts (positive_whole len rest some_len some_rest);
        below = rows_below size start len rest (product sizes) fronts (λ k l. whole_row_fits sizes starts lengths fronts (outer - 1) outer k one (omega arith) inside fit l);
        apart = rows_apart size start len rest fronts some_len (partial some) some_rest;
      }

  pub made_runs : (n : ℕ) (fronts : List ℕ) (runs : List (ℕ × ℕ)) → n ≡ rest → AreFronts (outer - 1) sizes starts lengths fronts → FrontsFit (outer - 1) sizes fronts
      → runs ≡ map (row_at (record { step = get_or sizes (outer - 1) 0 * n; start = get_or starts (outer - 1) 0 * n; len = get_or lengths (outer - 1) 0 * n })) fronts → AreBoxRuns sizes starts lengths runs
  made_runs n fronts runs e are fit is =
      let size = get_or sizes (outer - 1) 0 in
      let start = get_or starts (outer - 1) 0 in
      let len = get_or lengths (outer - 1) 0 in
      let row : ℕ → Row = λ m. record { step = size * m; start = start * m; len = len * m } in
      subst (AreBoxRuns sizes starts lengths) (sym (is ∙ ap (λ m. map (row_at (row m)) fronts) e ∙ rows_are (size * rest) (start * rest) len size start rest fronts refl refl)) (are_box_runs fronts are fit)

  -- the fronts over one axis more
  pub next_are : (before : ℕ) (fronts : List ℕ) → (outer - 1) ≡ before + 1 → AreFronts before sizes starts lengths fronts → AreFronts (outer - 1) sizes starts lengths (rows_behind (get_or sizes before 0) (get_or starts before 0) (get_or lengths before 0) fronts)
  next_are before fronts e are =
      subst (λ n. AreFronts n sizes starts lengths (rows_behind (get_or sizes before 0) (get_or starts before 0) (get_or lengths before 0) fronts)) (sym e)
      (sym (numbers_behind-more sizes starts lengths fronts before (omega arith) (omega (arith, both.0)) (omega (arith, both.1))) ∙ are)

  pub next_fit : (before : ℕ) (fronts : List ℕ) → (outer - 1) ≡ before + 1 → FrontsFit before sizes fronts → FrontsFit (outer - 1) sizes (rows_behind (get_or sizes before 0) (get_or starts before 0) (get_or lengths before 0) fronts)
  next_fit before fronts e fit =
      subst (λ n. FrontsFit n sizes (rows_behind (get_or sizes before 0) (get_or starts before 0) (get_or lengths before 0) fronts)) (sym e)
      (IsFitting-more sizes starts lengths fronts before (omega arith) inside fit)

  -- 64 bits count what ends with the last row behind a front
  pub rows_room : (n before k : ℕ) (fronts : List ℕ) → n ≡ rest → (outer - 1) ≡ before + 1 → FrontsFit before sizes fronts → product sizes < 2 ^ 64 → k < length fronts → (get_or fronts k 0 * get_or sizes before 0 + get_or starts before 0 + get_or lengths before 0) * (get_or sizes (outer - 1) 0 * n) < 2 ^ 64
  rows_room n before k fronts is e fit small l =
      let front = get_or fronts k 0 in
      let size = get_or sizes before 0 in
      let behind = product (drop (outer - 1) sizes) in
      let inner = is_box_inside-at sizes starts lengths before inside (omega arith) in
      let m : front * size + get_or starts before 0 + get_or lengths before 0 ≤ (front + 1) * size = omega (arith, inner) in
      let split : product (drop before sizes) ≡ size * behind = product_drop sizes before (omega arith) ∙ ap (λ a. size * product (drop a sizes)) (sym e) in
      let all : (front + 1) * (size * behind) ≤ product sizes = subst (λ p. (front + 1) * p ≤ product sizes) split (fit k l) in
      let same : (front + 1) * size * behind ≡ (front + 1) * (size * behind) = omega arith in
      let few : (front * size + get_or starts before 0 + get_or lengths before 0) * behind < 2 ^ 64 = omega (arith, mul-le-mul_right behind m, same, all, small) in
      subst (λ p. (front * size + get_or starts before 0 + get_or lengths before 0) * p < 2 ^ 64) (sym (ap (λ a. get_or sizes (outer - 1) 0 * a) is ∙ step_is)) few
