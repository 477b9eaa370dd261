-- Rows of a region, behind fronts that are made axis by axis.
use Rattle.std.proofs.Common.{◌≡◌, ◌==◌, Bool, ℕ, zero, suc, ◌+◌, ◌*◌, ◌-◌, ◌<◌, ◌≤◌, ◌^◌, true, false, List, [], ◌∷◌, ◌++◌, length, get_or, map, take, drop, arith, refl, ap, ◌∙◌, sym, subst}
use Rattle.std.specs.Prelude.{min, nat_le}
use Rattle.std.specs.List.{All, flat_map, range_with_len}
use Rattle.std.proofs.lemmas.List.{append-nil, map-append, append_assoc, length-append, length-map, length-take, drop_all, take_more, take_rest, take-map, drop-map, take-append-drop}
use Rattle.std.proofs.Math.Nat.{mul-le-mul_right, mul_assoc}
use Rattle.std.proofs.lemmas.List.Concat.{flat_map-append}
use Rattle.zarrs_chunk.specs.ChunkShape.{product}
use Rattle.zarrs_chunk.specs.Levels.{number_behind, numbers_behind, rows_behind, IsFitting, AreFronts, FrontsFit, AreWhole, LastIsPartial}
use Rattle.zarrs_chunk.specs.Tuples.{box_tuples, is_box_inside}
use Rattle.zarrs_chunk.proofs.BoxTuples.{numbers_behind-next, numbers_behind-start, numbers_behind-end}
use Rattle.zarrs_chunk.proofs.Fitting.{IsFitting-more, IsFitting-start, room_below, room_next}
use Rattle.zarrs_chunk.proofs.Inside.{is_box_inside-at, is_box_inside-lengths}
use Rattle.zarrs_chunk.proofs.Products.{product_positive, product_positive-drop, product_drop}
use Rattle.zarrs_chunk.proofs.WholeAxes.{positive_whole, product_drop-le, all_whole, one_filled}
use Rattle.zarrs_chunk.proofs.Apart.{AreApart-one}
use Rattle.zarrs_chunk.proofs.Consecutive.{range-append}
use Rattle.std.proofs.lemmas.Bool.{and_from, and_parts, eqb-true, leb-true, leb-false, le-leb, lt-leb}
use Rattle.std.proofs.lemmas.List.Elements.{All-map, All-tail, All-take, All-push}
use Rattle.zarrs_array_to_array.specs.Orders.{permuted}
use Rattle.zarrs_array_bytes.proofs.UpdateSteps.{range_more}
use Rattle.zarrs_array_to_array.proofs.Orders.{length-permuted, permuted_at}
use Rattle.zarrs_array_regions.specs.OrderedRuns.{fronts_over, AreAxes, HasRoom}
use Rattle.zarrs_chunk.specs.declared.rows.Row.{Row}
use Rattle.zarrs_chunk.specs.Rows.{row_at, AreBoxRuns}
use Rattle.zarrs_chunk.proofs.RowLaws.{row_runs_of, rows_are, are_box_runs}

-- the first of some axes and the others
pub axes_split : (order : List ℕ) (axis : ℕ) → 1 ≤ length order → axis ≡ get_or order 0 0 → order ≡ axis ∷ drop 1 order
axes_split [] axis l e = absurd (omega arith)
axes_split (first ∷ order) axis l e = ap (λ a. a ∷ order) (sym e)

one_axis : (order : List ℕ) (axis : ℕ) → 1 ≤ length order → length order < 2 → axis ≡ get_or order 0 0 → order ≡ axis ∷ []
one_axis [] axis l m e = absurd (omega arith)
one_axis (first ∷ []) axis l m e = ap (λ a. a ∷ []) (sym e)
one_axis (first ∷ second ∷ order) axis l m e = absurd (omega arith)

-- with none behind it, an axis is the last one
pub last_axis : (order rest : List ℕ) (empty : Bool) → rest ≡ drop 1 order → empty ≡ (length rest == 0) → empty ≡ true → length order < 2
last_axis [] rest empty e is h = omega arith
last_axis (first ∷ []) rest empty e is h = omega arith
last_axis (first ∷ second ∷ order) rest empty e is h = absurd (omega (arith, ap length e, eqb-true (length rest) 0 (sym is ∙ h)))

-- the rows of one front more, over these axes
pub fronts_more : (row : Row) (runs : List (ℕ × ℕ)) (order sizes starts lengths : List ℕ) (first count : ℕ)
    → (runs ++ map (row_at row) (fronts_over order sizes starts lengths (range_with_len first count))) ++ map (row_at row) (fronts_over order sizes starts lengths ((first + count) ∷ [])) ≡ runs ++ map (row_at row) (fronts_over order sizes starts lengths (range_with_len first (count + 1)))
fronts_more row runs order sizes starts lengths first count =
    let f : ℕ → List ℕ = λ front. map (number_behind front (permuted order sizes)) (box_tuples (permuted order starts) (permuted order lengths)) in
    let here = range_with_len first count in
    append_assoc runs (map (row_at row) (flat_map f here)) (map (row_at row) (flat_map f ((first + count) ∷ [])))
    ∙ ap (λ xs. runs ++ xs) (sym (
    ap (λ ns. map (row_at row) (flat_map f ns)) (range_more first count)
    ∙ ap (map (row_at row)) (flat_map-append f here ((first + count) ∷ []))
    ∙ map-append (row_at row) (flat_map f here) (flat_map f ((first + count) ∷ []))))

-- so many of them, and no more of fewer fronts
fronts_count : (order sizes starts lengths : List ℕ) (first count more : ℕ)
    → length (fronts_over order sizes starts lengths (range_with_len first (count + more))) ≡ length (fronts_over order sizes starts lengths (range_with_len first count)) + length (fronts_over order sizes starts lengths (range_with_len (first + count) more))
fronts_count order sizes starts lengths first count more =
    let f : ℕ → List ℕ = λ front. map (number_behind front (permuted order sizes)) (box_tuples (permuted order starts) (permuted order lengths)) in
    ap (λ ns. length (flat_map f ns)) (range-append first count more)
    ∙ ap length (flat_map-append f (range_with_len first count) (range_with_len (first + count) more))
    ∙ length-append (flat_map f (range_with_len first count)) (flat_map f (range_with_len (first + count) more))

-- rows that were put had room
rows_count : (row : Row) (before runs : List (ℕ × ℕ)) (fronts : List ℕ) → runs ≡ before ++ map (row_at row) fronts → length runs ≡ length before + length fronts
rows_count row before runs fronts is = ap length is ∙ length-append before (map (row_at row) fronts) ∙ ap (λ n. length before + n) (length-map fronts (row_at row))

pub rows_put : (row : Row) (before runs : List (ℕ × ℕ)) (fronts : List ℕ) (limit : ℕ) → runs ≡ before ++ map (row_at row) fronts → nat_le (length before + length fronts) limit ≡ true → length runs ≤ limit
rows_put row before runs fronts limit is room = omega (arith, rows_count row before runs fronts is, leb-true (length before + length fronts) limit room)

pub rows_room : (row : Row) (before runs : List (ℕ × ℕ)) (fronts : List ℕ) (limit : ℕ) → runs ≡ before ++ map (row_at row) fronts → length runs ≤ limit → true ≡ nat_le (length before + length fronts) limit
rows_room row before runs fronts limit is few = sym (le-leb (length before + length fronts) limit (omega (arith, rows_count row before runs fronts is, few)))

-- where there is no room for the rows of the next front, there is none for those of all fronts
pub fronts_lack : (row : Row) (before runs : List (ℕ × ℕ)) (order sizes starts lengths : List ℕ) (first index all limit : ℕ) → runs ≡ before ++ map (row_at row) (fronts_over order sizes starts lengths (range_with_len first index)) → index < all
    → nat_le (length runs + length (fronts_over order sizes starts lengths ((first + index) ∷ []))) limit ≡ false → nat_le (length before + length (fronts_over order sizes starts lengths (range_with_len first all))) limit ≡ false
fronts_lack row before runs order sizes starts lengths first index all limit is less full =
    let F : ℕ → ℕ → ℕ = λ from count. length (fronts_over order sizes starts lengths (range_with_len from count)) in
    let put : length runs ≡ length before + F first index = rows_count row before runs (fronts_over order sizes starts lengths (range_with_len first index)) is in
    let whole : index + (1 + (all - index - 1)) ≡ all = omega (arith, less) in
    let parts : F first all ≡ F first index + (F (first + index) 1 + F (first + index + 1) (all - index - 1)) =
    ap (F first) (sym whole) ∙ fronts_count order sizes starts lengths first index (1 + (all - index - 1))
    ∙ ap (λ n. F first index + n) (fronts_count order sizes starts lengths (first + index) 1 (all - index - 1)) in
    let over = leb-false (length runs + F (first + index) 1) limit full in
    lt-leb (length before + F first all) limit (omega (arith, put, parts, over))

-- with no axis left the front is the number
pub fronts_none : (order sizes starts lengths : List ℕ) (front : ℕ) → length order < 1 → fronts_over order sizes starts lengths (front ∷ []) ≡ range_with_len front 1
fronts_none [] sizes starts lengths front l = numbers_behind-end [] [] [] (front ∷ []) 0 (omega arith) (omega arith)
fronts_none (axis ∷ order) sizes starts lengths front l = absurd (omega arith)

-- the fronts over the first axis, and those over the others behind them
pub fronts_next : (order sizes starts lengths : List ℕ) (axis front : ℕ) → 1 ≤ length order → axis ≡ get_or order 0 0
    → fronts_over order sizes starts lengths (front ∷ []) ≡ fronts_over (drop 1 order) sizes starts lengths (range_with_len (front * get_or sizes axis 0 + get_or starts axis 0) (get_or lengths axis 0))
fronts_next order sizes starts lengths axis front l e =
    let rest = drop 1 order in
    ap (λ axes. fronts_over axes sizes starts lengths (front ∷ [])) (axes_split order axis l e)
    ∙ numbers_behind-next (get_or sizes axis 0) (get_or starts axis 0) (get_or lengths axis 0) (permuted rest sizes) (permuted rest starts) (permuted rest lengths) (front ∷ [])
    ∙ ap (fronts_over rest sizes starts lengths) (append-nil (range_with_len (front * get_or sizes axis 0 + get_or starts axis 0) (get_or lengths axis 0)))

pub fronts_last : (order sizes starts lengths : List ℕ) (axis front : ℕ) → 1 ≤ length order → length order < 2 → axis ≡ get_or order 0 0
    → fronts_over order sizes starts lengths (front ∷ []) ≡ range_with_len (front * get_or sizes axis 0 + get_or starts axis 0) (get_or lengths axis 0)
fronts_last order sizes starts lengths axis front l m e =
    let row = range_with_len (front * get_or sizes axis 0 + get_or starts axis 0) (get_or lengths axis 0) in
    ap (λ axes. fronts_over axes sizes starts lengths (front ∷ [])) (one_axis order axis l m e)
    ∙ numbers_behind-next (get_or sizes axis 0) (get_or starts axis 0) (get_or lengths axis 0) [] [] [] (front ∷ [])
    ∙ ap (fronts_over [] sizes starts lengths) (append-nil row)
    ∙ numbers_behind-end [] [] [] row 0 (omega arith) (omega arith)

-- ---- room for them

pub permuted_positive : (order sizes : List ℕ) → All (λ axis. axis < length sizes) order → All (λ size. 0 < size) sizes → All (λ size. 0 < size) (permuted order sizes)
permuted_positive order sizes below positive = All-map (λ size. 0 < size) (λ axis. get_or sizes axis 0) order (λ k d l. positive (get_or order k d) 0 (below k d l))

-- what is known of the first axis and of the others
record AxisStep (order sizes starts lengths : List ℕ) (axis : ℕ) : Type 0 where
  pub product_is : product (permuted order sizes) ≡ get_or sizes axis 0 * product (permuted (drop 1 order) sizes)
  pub within : get_or starts axis 0 + get_or lengths axis 0 ≤ get_or sizes axis 0
  pub some : 0 < product (permuted (drop 1 order) sizes)
  pub rest : AreAxes (drop 1 order) sizes starts lengths

axis_step : (order sizes starts lengths : List ℕ) (axis : ℕ) → 1 ≤ length order → axis ≡ get_or order 0 0 → AreAxes order sizes starts lengths → AxisStep order sizes starts lengths axis
axis_step order sizes starts lengths axis l e axes =
    let rest = drop 1 order in
    let split = axes_split order axis l e in
    let inside = subst (λ (xs : List ℕ). is_box_inside (permuted xs sizes) (permuted xs starts) (permuted xs lengths) ≡ true) split axes.inside in
    let below = All-tail (λ axis. axis < length sizes) axis rest (subst (λ (xs : List ℕ). All (λ axis. axis < length sizes) xs) split axes.below) in
    record {
      product_is = ap (λ (xs : List ℕ). product (permuted xs sizes)) split;
      within = is_box_inside-at (permuted (axis ∷ rest) sizes) (permuted (axis ∷ rest) starts) (permuted (axis ∷ rest) lengths) 0 inside (omega arith);
      some = product_positive (permuted rest sizes) (permuted_positive rest sizes below axes.positive);
      rest = record { below = below; starts = axes.starts; lengths = axes.lengths; positive = axes.positive; inside = (and_parts _ _ inside).1 };
    }

first_fits : (front size start len rest step : ℕ) → 0 < rest → 0 < step → start + len ≤ size → (front + 1) * (size * rest * step) < 2 ^ 64 → front * size + start + len < 2 ^ 64
first_fits front size start len rest step p q h room =
    let some = positive_whole rest step p q in
    let same : (front + 1) * (size * (rest * step)) ≡ (front + 1) * (size * rest * step) = omega arith in
    let below = room_below front size (rest * step) start len (2 ^ 64 - 1) some h (omega (arith, same, room)) in
    omega (arith, below)

next_fits : (front size start len rest step index : ℕ) → start + len ≤ size → index < len → (front + 1) * (size * rest * step) < 2 ^ 64 → (front * size + start + index + 1) * (rest * step) < 2 ^ 64
next_fits front size start len rest step index h l room =
    let same : (front + 1) * (size * (rest * step)) ≡ (front + 1) * (size * rest * step) = omega arith in
    let below = room_next front size (rest * step) (start + index) (2 ^ 64 - 1) (omega arith) (omega (arith, same, room)) in
    let at : (front * size + (start + index) + 1) * (rest * step) ≡ (front * size + start + index + 1) * (rest * step) = omega arith in
    omega (arith, below, at)

last_fits : (front size start len step : ℕ) → start + len ≤ size → (front + 1) * (size * 1 * step) < 2 ^ 64 → (front * size + start + len) * step < 2 ^ 64
last_fits front size start len step h room =
    let m : front * size + start + len ≤ (front + 1) * size = omega arith in
    let same : (front + 1) * size * step ≡ (front + 1) * (size * 1 * step) = omega arith in
    omega (arith, mul-le-mul_right step m, same, room)

module _ (order sizes starts lengths : List ℕ) (front : ℕ) (row : Row) (axis : ℕ) (l : 1 ≤ length order) (e : axis ≡ get_or order 0 0) (axes : AreAxes order sizes starts lengths) (room : HasRoom front order sizes row) where
  step : AxisStep order sizes starts lengths axis
  step = axis_step order sizes starts lengths axis l e axes

  split_room : (front + 1) * (get_or sizes axis 0 * product (permuted (drop 1 order) sizes) * row.step) < 2 ^ 64
  split_room = subst (λ (n : ℕ). (front + 1) * (n * row.step) < 2 ^ 64) step.product_is room.room

  pub first_room : front * get_or sizes axis 0 + get_or starts axis 0 + get_or lengths axis 0 < 2 ^ 64
  first_room = first_fits front (get_or sizes axis 0) (get_or starts axis 0) (get_or lengths axis 0) (product (permuted (drop 1 order) sizes)) row.step step.some room.step step.within split_room

  pub rest_axes : (rest : List ℕ) → rest ≡ drop 1 order → AreAxes rest sizes starts lengths
  rest_axes rest is = subst (λ xs. AreAxes xs sizes starts lengths) (sym is) step.rest

  pub rest_room : (rest : List ℕ) (index : ℕ) → rest ≡ drop 1 order → index < get_or lengths axis 0 → HasRoom (front * get_or sizes axis 0 + get_or starts axis 0 + index) rest sizes row
  rest_room rest index is less = record {
    room = subst (λ (xs : List ℕ). (front * get_or sizes axis 0 + get_or starts axis 0 + index + 1) * (product (permuted xs sizes) * row.step) < 2 ^ 64) (sym is)
        (next_fits front (get_or sizes axis 0) (get_or starts axis 0) (get_or lengths axis 0) (product (permuted (drop 1 order) sizes)) row.step index step.within less split_room);
    start = room.start;
    step = room.step;
  }

  pub last_room : length order < 2 → (front * get_or sizes axis 0 + get_or starts axis 0 + get_or lengths axis 0) * row.step < 2 ^ 64
  last_room one =
      let none : product (permuted (drop 1 order) sizes) ≡ 1 = ap (λ (xs : List ℕ). product (permuted xs sizes)) (drop_all 1 order (omega (arith, one))) in
      last_fits front (get_or sizes axis 0) (get_or starts axis 0) (get_or lengths axis 0) row.step step.within
      (subst (λ (n : ℕ). (front + 1) * (get_or sizes axis 0 * n * row.step) < 2 ^ 64) none split_room)

-- ---- all rows of a region

inside_take : (k : ℕ) (sizes starts lengths : List ℕ) → is_box_inside sizes starts lengths ≡ true → is_box_inside (take k sizes) (take k starts) (take k lengths) ≡ true
inside_take zero sizes starts lengths h = refl
inside_take (suc k) [] [] [] h = refl
inside_take (suc k) [] [] (len ∷ lengths) h = absurd (cc)
inside_take (suc k) [] (start ∷ starts) lengths h = absurd (cc)
inside_take (suc k) (size ∷ sizes) [] lengths h = absurd (cc)
inside_take (suc k) (size ∷ sizes) (start ∷ starts) [] h = absurd (cc)
inside_take (suc k) (size ∷ sizes) (start ∷ starts) (len ∷ lengths) h = and_from _ _ (and_parts _ _ h).0 (inside_take k sizes starts lengths (and_parts _ _ h).1)

product_split : (k : ℕ) (sizes : List ℕ) → product (take k sizes) * product (drop k sizes) ≡ product sizes
product_split zero sizes = omega arith
product_split (suc k) [] = refl
product_split (suc k) (size ∷ sizes) = mul_assoc size (product (take k sizes)) (product (drop k sizes)) ∙ ap (λ n. size * n) (product_split k sizes)

behind_both : (s t l sizes starts lengths fronts : List ℕ) → length t ≡ length s → length l ≡ length s → numbers_behind (s ++ sizes) (t ++ starts) (l ++ lengths) fronts ≡ numbers_behind sizes starts lengths (numbers_behind s t l fronts)
behind_both [] [] [] sizes starts lengths fronts e f = ap (numbers_behind sizes starts lengths) (sym (numbers_behind-end [] [] [] fronts 0 (omega arith) (omega arith)))
behind_both [] [] (len ∷ l) sizes starts lengths fronts e f = absurd (omega arith)
behind_both [] (start ∷ t) l sizes starts lengths fronts e f = absurd (omega arith)
behind_both (size ∷ s) [] l sizes starts lengths fronts e f = absurd (omega arith)
behind_both (size ∷ s) (start ∷ t) [] sizes starts lengths fronts e f = absurd (omega arith)
behind_both (size ∷ s) (start ∷ t) (len ∷ l) sizes starts lengths fronts e f =
    numbers_behind-next size start len (s ++ sizes) (t ++ starts) (l ++ lengths) fronts
    ∙ behind_both s t l sizes starts lengths (rows_behind size start len fronts) (omega arith) (omega arith)
    ∙ ap (numbers_behind sizes starts lengths) (sym (numbers_behind-next size start len s t l fronts))

-- the numbers of a box's tuples over its first axes
abbrev first_fronts : ℕ → List ℕ → List ℕ → List ℕ → List ℕ
first_fronts k sizes starts lengths = numbers_behind (take k sizes) (take k starts) (take k lengths) (0 ∷ [])

module _ (sizes starts lengths : List ℕ) (inside : is_box_inside sizes starts lengths ≡ true) where
  both : (length starts ≡ length sizes) × (length lengths ≡ length sizes)
  both = is_box_inside-lengths sizes starts lengths inside

  taken_starts : (k : ℕ) → length (take k starts) ≡ length (take k sizes)
  taken_starts k = length-take k starts ∙ ap (min k) both.0 ∙ sym (length-take k sizes)

  taken_lengths : (k : ℕ) → length (take k lengths) ≡ length (take k sizes)
  taken_lengths k = length-take k lengths ∙ ap (min k) both.1 ∙ sym (length-take k sizes)

  are_fronts : (k : ℕ) → AreFronts k sizes starts lengths (first_fronts k sizes starts lengths)
  are_fronts k =
      sym (behind_both (take k sizes) (take k starts) (take k lengths) (drop k sizes) (drop k starts) (drop k lengths) (0 ∷ []) (taken_starts k) (taken_lengths k))
      ∙ ap (λ (xs : List ℕ). numbers_behind xs (take k starts ++ drop k starts) (take k lengths ++ drop k lengths) (0 ∷ [])) (take-append-drop k sizes)
      ∙ ap (λ (xs : List ℕ). numbers_behind sizes xs (take k lengths ++ drop k lengths) (0 ∷ [])) (take-append-drop k starts)
      ∙ ap (λ (xs : List ℕ). numbers_behind sizes starts xs (0 ∷ [])) (take-append-drop k lengths)
      ∙ numbers_behind-start sizes starts lengths

  next_fronts : (k : ℕ) → k < length sizes → first_fronts (k + 1) sizes starts lengths ≡ rows_behind (get_or sizes k 0) (get_or starts k 0) (get_or lengths k 0) (first_fronts k sizes starts lengths)
  next_fronts k l =
      let size = get_or sizes k 0 in
      let start = get_or starts k 0 in
      let len = get_or lengths k 0 in
      let fronts = first_fronts k sizes starts lengths in
      let rows = rows_behind size start len fronts in
      ap (λ (xs : List ℕ). numbers_behind xs (take (k + 1) starts) (take (k + 1) lengths) (0 ∷ [])) (take_more sizes k 0 l)
      ∙ ap (λ (xs : List ℕ). numbers_behind (take k sizes ++ size ∷ []) xs (take (k + 1) lengths) (0 ∷ [])) (take_more starts k 0 (omega (arith, both.0)))
      ∙ ap (λ (xs : List ℕ). numbers_behind (take k sizes ++ size ∷ []) (take k starts ++ start ∷ []) xs (0 ∷ [])) (take_more lengths k 0 (omega (arith, both.1)))
      ∙ behind_both (take k sizes) (take k starts) (take k lengths) (size ∷ []) (start ∷ []) (len ∷ []) (0 ∷ []) (taken_starts k) (taken_lengths k)
      ∙ numbers_behind-next size start len [] [] [] fronts
      ∙ numbers_behind-end [] [] [] rows 0 (omega arith) (omega arith)

  fronts_fit : (k : ℕ) → k ≤ length sizes → FrontsFit k sizes (first_fronts k sizes starts lengths)
  fronts_fit zero l = subst (IsFitting (product sizes) (product sizes)) (sym (numbers_behind-end [] [] [] (0 ∷ []) 0 (omega arith) (omega arith))) (IsFitting-start sizes)
  fronts_fit (suc k) l =
      let one : suc k ≡ k + 1 = omega arith in
      subst (λ n. FrontsFit n sizes (first_fronts n sizes starts lengths)) (sym one)
      (subst (IsFitting (product sizes) (product (drop (k + 1) sizes))) (sym (next_fronts k (omega arith)))
      (IsFitting-more sizes starts lengths (first_fronts k sizes starts lengths) k (omega arith) inside (fronts_fit k (omega arith))))

module _ (order sizes starts lengths : List ℕ) (axes : AreAxes order sizes starts lengths) (filled : All (λ len. 0 < len) lengths) (outer : ℕ) (other : outer ≡ 0 → ⊥) (fits : outer ≤ length order)
    (whole : AreWhole outer (length order) (permuted order sizes) (permuted order starts) (permuted order lengths)) (partial : LastIsPartial outer (permuted order sizes) (permuted order lengths)) where
  abbrev pub S : List ℕ
  S = permuted order sizes

  abbrev pub T : List ℕ
  T = permuted order starts

  abbrev pub L : List ℕ
  L = permuted order lengths

  abbrev pub last : ℕ
  last = outer - 1

  abbrev pub axis : ℕ
  axis = get_or order last 0

  abbrev pub rest : ℕ
  rest = product (drop outer S)

  some : 0 < outer
  some = omega arith

  count : length S ≡ length order
  count = length-permuted order sizes

  S_positive : All (λ size. 0 < size) S
  S_positive = permuted_positive order sizes axes.below axes.positive

  L_positive : All (λ len. 0 < len) L
  L_positive = permuted_positive order lengths (λ k d l. let b = axes.below k d l in omega (arith, b, axes.lengths)) filled

  size_is : get_or S last 0 ≡ get_or sizes axis 0
  size_is = permuted_at order sizes last (omega arith)

  start_is : get_or T last 0 ≡ get_or starts axis 0
  start_is = permuted_at order starts last (omega arith)

  len_is : get_or L last 0 ≡ get_or lengths axis 0
  len_is = permuted_at order lengths last (omega arith)

  pub rest_is : (n : ℕ) → n ≡ product (permuted (take (length order - outer) (drop outer order)) sizes) → n ≡ rest
  rest_is n e = e ∙ ap (λ (xs : List ℕ). product (permuted xs sizes)) (take_rest order outer) ∙ ap product (sym (drop-map (λ axis. get_or sizes axis 0) outer order))

  step_is : get_or S last 0 * rest ≡ product (drop last S)
  step_is = let one : last + 1 ≡ outer = omega arith in ap (λ n. get_or S last 0 * product (drop n S)) (sym one) ∙ sym (product_drop S last (omega (arith, count)))

  -- the axes behind have no more elements than all
  pub rest_few : (n : ℕ) → n ≡ product (permuted (take (length order - outer) (drop outer order)) sizes) → product S < 2 ^ 64 → n < 2 ^ 64
  rest_few n e small = omega (arith, rest_is n e, product_drop-le S outer S_positive, small)

  pub step_fits : get_or sizes axis 0 * rest ≤ product S
  step_fits = subst (λ n. n * rest ≤ product S) size_is (omega (arith, step_is, product_drop-le S last S_positive))

  within : get_or T last 0 + get_or L last 0 ≤ get_or S last 0
  within = is_box_inside-at S T L last axes.inside (omega (arith, count))

  pub start_fits : get_or starts axis 0 * rest ≤ get_or sizes axis 0 * rest
  start_fits = mul-le-mul_right rest (let m : get_or starts axis 0 ≤ get_or sizes axis 0 = omega (arith, within, size_is, start_is) in m)

  pub len_fits : get_or lengths axis 0 * rest ≤ get_or sizes axis 0 * rest
  len_fits = mul-le-mul_right rest (let m : get_or lengths axis 0 ≤ get_or sizes axis 0 = omega (arith, within, size_is, len_is) in m)

  pub before_axes : AreAxes (take last order) sizes starts lengths
  before_axes = record {
    below = All-take (λ axis. axis < length sizes) last order axes.below;
    starts = axes.starts;
    lengths = axes.lengths;
    positive = axes.positive;
    inside = subst (λ (xs : List ℕ). is_box_inside xs (permuted (take last order) starts) (permuted (take last order) lengths) ≡ true) (take-map (λ axis. get_or sizes axis 0) last order)
        (subst (λ (xs : List ℕ). is_box_inside (take last S) xs (permuted (take last order) lengths) ≡ true) (take-map (λ axis. get_or starts axis 0) last order)
        (subst (λ (xs : List ℕ). is_box_inside (take last S) (take last T) xs ≡ true) (take-map (λ axis. get_or lengths axis 0) last order)
        (inside_take last S T L axes.inside)));
  }

  pub before_room : (n len : ℕ) → n ≡ rest → product S < 2 ^ 64 → HasRoom 0 (take last order) sizes (record { step = get_or sizes axis 0 * n; start = get_or starts axis 0 * n; len = len })
  before_room n len e small = subst (λ m. HasRoom 0 (take last order) sizes (record { step = get_or sizes axis 0 * m; start = get_or starts axis 0 * m; len = len })) (sym e) (record {
    room = (
        let step : get_or sizes axis 0 * rest ≡ product (drop last S) = ap (λ m. m * rest) (sym size_is) ∙ step_is in
        let all : product (permuted (take last order) sizes) * (get_or sizes axis 0 * rest) ≡ product S
        = ap (λ (xs : List ℕ). product xs * (get_or sizes axis 0 * rest)) (sym (take-map (λ axis. get_or sizes axis 0) last order)) ∙ ap (λ m. product (take last S) * m) step ∙ product_split last S in
        omega (arith, all, small));
    start = start_fits;
    step = subst (λ m. 0 < m) (sym (ap (λ m. m * rest) (sym size_is) ∙ step_is)) (product_positive-drop S last S_positive);
  })

  fronts_are : fronts_over (take last order) sizes starts lengths (0 ∷ []) ≡ first_fronts last S T L
  fronts_are =
      ap (λ (xs : List ℕ). numbers_behind xs (permuted (take last order) starts) (permuted (take last order) lengths) (0 ∷ [])) (sym (take-map (λ axis. get_or sizes axis 0) last order))
      ∙ ap (λ (xs : List ℕ). numbers_behind (take last S) xs (permuted (take last order) lengths) (0 ∷ [])) (sym (take-map (λ axis. get_or starts axis 0) last order))
      ∙ ap (λ (xs : List ℕ). numbers_behind (take last S) (take last T) xs (0 ∷ [])) (sym (take-map (λ axis. get_or lengths axis 0) last order))

  all_rows : AreBoxRuns S T L (row_runs_of (get_or S last 0) (get_or T last 0) (get_or L last 0) rest (first_fronts last S T L))
  all_rows =
      are_box_runs S T L axes.inside S_positive L_positive outer some (omega (arith, count)) (subst (λ n. AreWhole outer n S T L) (sym count) whole) partial (first_fronts last S T L)
      (are_fronts S T L axes.inside last)
      (fronts_fit S T L axes.inside last (omega (arith, count)))

  pub runs_there : (n : ℕ) (before runs : List (ℕ × ℕ)) → n ≡ rest → before ≡ []
      → runs ≡ before ++ map (row_at (record { step = get_or sizes axis 0 * n; start = get_or starts axis 0 * n; len = get_or lengths axis 0 * n })) (fronts_over (take last order) sizes starts lengths (0 ∷ [])) → AreBoxRuns S T L runs
  runs_there n before runs e none is =
      let size = get_or S last 0 in
      let start = get_or T last 0 in
      let len = get_or L last 0 in
      let row : ℕ → Row = λ m. record { step = get_or sizes axis 0 * m; start = get_or starts axis 0 * m; len = get_or lengths axis 0 * m } in
      subst (AreBoxRuns S T L) (sym (
      is
      ∙ ap (λ (rs : List (ℕ × ℕ)). rs ++ map (row_at (row n)) (fronts_over (take last order) sizes starts lengths (0 ∷ []))) none
      ∙ ap (λ m. map (row_at (row m)) (fronts_over (take last order) sizes starts lengths (0 ∷ []))) e
      ∙ ap (map (row_at (row rest))) fronts_are
      ∙ ap (λ m. map (row_at (record { step = get_or sizes axis 0 * rest; start = get_or starts axis 0 * rest; len = m * rest })) (first_fronts last S T L)) (sym len_is)
      ∙ rows_are (get_or sizes axis 0 * rest) (get_or starts axis 0 * rest) len size start rest (first_fronts last S T L) (ap (λ m. m * rest) (sym size_is)) (ap (λ m. m * rest) (sym start_is)))) all_rows

-- one run for all
pub whole_run : (order sizes starts lengths : List ℕ) (axes : AreAxes order sizes starts lengths) (outer : ℕ) (runs before : List (ℕ × ℕ)) (n : ℕ) → outer ≡ 0 → AreWhole outer (length order) (permuted order sizes) (permuted order starts) (permuted order lengths)
    → n ≡ product (permuted order sizes) → before ≡ [] → runs ≡ before ++ (0, n) ∷ [] → AreBoxRuns (permuted order sizes) (permuted order starts) (permuted order lengths) runs
whole_run order sizes starts lengths axes outer runs before n e whole count none is =
    let S = permuted order sizes in
    let T = permuted order starts in
    let L = permuted order lengths in
    let axes_whole = subst (λ m. AreWhole outer m S T L) (sym (length-permuted order sizes)) whole in
    subst (AreBoxRuns S T L) (sym (is ∙ ap (λ (rs : List (ℕ × ℕ)). rs ++ (0, n) ∷ []) none ∙ ap (λ m. (0, m) ∷ []) count)) (record {
      places = all_whole S T L outer e (length-permuted order starts ∙ sym (length-permuted order sizes)) (length-permuted order lengths ∙ sym (length-permuted order sizes)) axes_whole;
      filled = one_filled (product S) (product_positive S (permuted_positive order sizes axes.below axes.positive));
      below = All-push (λ (run : ℕ × ℕ). run.0 + run.1 ≤ product S) [] (0, product S) (λ k d l. absurd (omega arith)) (omega arith);
      apart = AreApart-one (0, product S);
    })
