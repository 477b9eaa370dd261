-- What is read by groups, in the order of the places.
use Rattle.std.proofs.Common.{◌≡◌, ℕ, suc, ◌+◌, ◌<◌, ◌≤◌, ◌^◌, ◌++◌, nat_eq, Bool, true, false, not, ◌&&◌, cond, List, [], ◌∷◌, length, map, take, drop, get_or, arith, refl, ap, sym, subst, ◌∙◌}
use Rattle.std.specs.List.{All, filter, flat_map, range_with_len}
use Rattle.std.specs.List.Sorted.{IsPermutation, IsStableByKey, ties}
use Rattle.std.specs.Ordering.{is_lt, nat_cmp}
use Rattle.std.proofs.lemmas.Bool.Decides.{nat_tests}
use Rattle.std.proofs.lemmas.List.{drop-map, get_or-drop, get_or-take, get_or_default, length-map, map-append, take-map}
use Rattle.std.proofs.lemmas.List.Concat.{length-flat_map}
use Rattle.std.proofs.lemmas.List.Elements.{Contains-get_or, filter_agree}
use Rattle.std.proofs.lemmas.List.FromFn.{fill_by_all, get_or-map-range_with_len, length-map-range_with_len}
use Rattle.std.proofs.lemmas.List.Sorted.{All-permutation, Contains-permutation, length_permutation, sum_by-IsPermutation}
use Rattle.std.proofs.lemmas.Simd.{map-map}
use Rattle.zarrs_chain_meaning.specs.sharding.InnerChunks.{inner_chunk_count, inner_chunk_of, place_inside}
use Rattle.zarrs_chunk.specs.ChunkShape.{product}
use Rattle.zarrs_chunk.specs.Runs.{joined_runs}
use Rattle.zarrs_data_type.specs.Element.{absent, Element}
use Rattle.zarrs_shard_runs.specs.CutRuns.{cell, cells, cells_at, places_of_cut, AreCut}
use Rattle.zarrs_shard_runs.specs.GroupedRuns.{group_elements, IsReadingOrder}
use Rattle.zarrs_shard_runs.specs.Groups.{AreGrouped, AreIndexed, AreSpans, IsSpanOf, cells_of_groups}
use Rattle.zarrs_shard_runs.specs.PlacesInside.{groups_of}
use Rattle.zarrs_shard_runs.specs.declared.cut_runs.CutRun.{CutRun}
use Rattle.zarrs_shard_runs.proofs.Grouping.{cells_in, cells_in-append, cells_in-same, cells_in-other, groups_agree, groups_again, groups_are_cells}
use Rattle.zarrs_shard_runs.proofs.SpanSteps.{length-cells_at}

-- ---- a stable sort keeps the order of the places of each inner chunk

abbrev is_of : ℕ → CutRun → Bool
is_of number it = nat_eq it.number number

cells_filtered : (number : ℕ) (cuts : List CutRun) → cells_in number (cells cuts) ≡ flat_map places_of_cut (filter (is_of number) cuts)
cells_filtered number [] = refl
cells_filtered number (it ∷ cuts) =
    cells_in-append number (cells_at it.number (places_of_cut it)) (cells cuts) ∙ by (cells_filtered number cuts) (nat_eq it.number number) refl
  where
    from_eq : (a b : ℕ) → nat_eq a b ≡ true → a ≡ b
    from_eq a b e = grind (arith, nat_tests)

    from_other : (a b : ℕ) → nat_eq a b ≡ false → a ≡ b → ⊥
    from_other a b e f = grind (arith, nat_tests)

    by : cells_in number (cells cuts) ≡ flat_map places_of_cut (filter (is_of number) cuts) → (test : Bool) → nat_eq it.number number ≡ test → cells_in number (cells_at it.number (places_of_cut it)) ++ cells_in number (cells cuts) ≡ flat_map places_of_cut (cond test (it ∷ filter (is_of number) cuts) (filter (is_of number) cuts))
    by rest true e = λ i. cells_in-same number it.number (places_of_cut it) (from_eq it.number number e) i ++ rest i
    by rest false e = λ i. cells_in-other number it.number (places_of_cut it) (from_other it.number number e) i ++ rest i

tie_is : (a b : ℕ) → (not (is_lt (nat_cmp a b)) && not (is_lt (nat_cmp b a))) ≡ nat_eq b a
tie_is a b = grind (arith, nat_tests)

pub places_kept : (cuts sorted : List CutRun) → IsStableByKey (λ (it : CutRun). it.number) nat_cmp cuts sorted → (number : ℕ) → cells_in number (cells cuts) ≡ cells_in number (cells sorted)
places_kept cuts sorted stable number =
    let one : CutRun = record { number = number; start = 0; len = 0; index = 0 } in
    let lt : CutRun → CutRun → Bool = λ (x : CutRun) (y : CutRun). is_lt (nat_cmp x.number y.number) in
    let agree : (it : CutRun) → ties lt one it ≡ is_of number it = λ it. tie_is number it.number in
    cells_filtered number cuts
    ∙ ap (flat_map places_of_cut) (sym (filter_agree (ties lt one) (is_of number) agree cuts) ∙ sym (stable one) ∙ filter_agree (ties lt one) (is_of number) agree sorted)
    ∙ sym (cells_filtered number sorted)

-- ---- groups

pub groups_are : (shape sizes places : List ℕ) (cuts sorted : List CutRun) (groups : List (ℕ × List ℕ)) → cells cuts ≡ map (cell shape sizes) places → AreCut shape sizes cuts → IsPermutation cuts sorted
    → ((number : ℕ) → cells_in number (cells cuts) ≡ cells_in number (cells sorted)) → AreGrouped sorted groups → groups ≡ groups_of shape sizes places
groups_are shape sizes places cuts sorted groups e are perm kept g =
    let count = inner_chunk_count shape sizes in
    let low : All (λ it. it.number < count) cuts = λ k d l. (are.each k d l).number in
    let below = g.below count (All-permutation (λ (it : CutRun). it.number < count) cuts sorted perm low) in
    sym (groups_again count 0 groups g.rising (λ k d l. let b = below k d l in omega (arith, b)))
    ∙ groups_agree (cells_of_groups groups) (map (cell shape sizes) places) 0 count (λ number _ _. ap (cells_in number) g.cells ∙ sym (kept number) ∙ ap (cells_in number) e)
    ∙ sym (groups_are_cells shape sizes places (range_with_len 0 count))

-- ---- the order

abbrev read_cell : (ℕ → ℕ → Element) → ℕ × ℕ → Element
read_cell read it = read it.0 it.1

elements_are : (read : ℕ → ℕ → Element) (groups : List (ℕ × List ℕ)) → group_elements read groups ≡ map (read_cell read) (cells_of_groups groups)
elements_are read [] = refl
elements_are read (it ∷ groups) =
    (λ i. sym (map-map (read_cell read) (λ (place : ℕ). (it.0, place)) it.1) i ++ elements_are read groups i)
    ∙ sym (map-append (read_cell read) (cells_at it.0 it.1) (cells_of_groups groups))

-- elements read one by one, so many from one on
span_read : {A : Type 0} (d : A) (xs : List A) (start len : ℕ) → length (take len (drop start xs)) ≡ len → map (λ at. get_or xs at d) (range_with_len start len) ≡ take len (drop start xs)
span_read d xs start len e =
    let ys = take len (drop start xs) in
    fill_by_all (λ k. get_or ys k d) (map (λ at. get_or xs at d) (range_with_len start len)) len d (length-map-range_with_len (λ at. get_or xs at d) start len)
    (λ k l. get_or-map-range_with_len (λ at. get_or xs at d) start len k (start + k) d l refl ∙ sym (get_or-take len (drop start xs) k d l ∙ get_or-drop start xs k d))
    ∙ sym (fill_by_all (λ k. get_or ys k d) ys len d e (λ k l. refl))

spans_read : (read : ℕ × ℕ → Element) (all : List (ℕ × ℕ)) (spans : List (ℕ × ℕ)) (cuts : List CutRun) → length spans ≡ length cuts
    → ((k : ℕ) (d : CutRun) (e : ℕ × ℕ) → k < length cuts → IsSpanOf all (get_or spans k e) (get_or cuts k d))
    → map (λ at. get_or (map read all) at absent) (joined_runs spans) ≡ map read (cells cuts)
spans_read read all [] [] l h = refl
spans_read read all [] (it ∷ cuts) l h = absurd (omega (arith, l))
spans_read read all (span ∷ spans) [] l h = absurd (omega (arith, l))
spans_read read all (span ∷ spans) (it ∷ cuts) l h =
    let one = h 0 it span (omega arith) in
    let own = cells_at it.number (places_of_cut it) in
    let taken : take it.len (drop span.0 (map read all)) ≡ map read own = ap (take it.len) (drop-map read span.0 all) ∙ take-map read it.len (drop span.0 all) ∙ ap (map read) one.1 in
    let long : length (take it.len (drop span.0 (map read all))) ≡ it.len = ap length taken ∙ length-map own read ∙ length-cells_at it in
    let first : map (λ at. get_or (map read all) at absent) (range_with_len span.0 span.1) ≡ map read own =
    ap (λ n. map (λ at. get_or (map read all) at absent) (range_with_len span.0 n)) one.0 ∙ span_read absent (map read all) span.0 it.len long ∙ taken in
    let rest = spans_read read all spans cuts (omega (arith, l)) (λ k d e m. h (suc k) d e (omega (arith, m))) in
    map-append (λ at. get_or (map read all) at absent) (range_with_len span.0 span.1) (joined_runs spans)
    ∙ (λ i. first i ++ rest i)
    ∙ sym (map-append read own (cells cuts))

-- the spans of cut runs that were sorted are those of each of them in their first order
spans_back : (shape sizes : List ℕ) (cuts sorted : List CutRun) (spans : List (ℕ × ℕ)) → AreCut shape sizes cuts → IsPermutation cuts sorted → AreSpans sorted spans
    → (k : ℕ) (d : CutRun) (e : ℕ × ℕ) → k < length cuts → IsSpanOf (cells sorted) (get_or spans k e) (get_or cuts k d)
spans_back shape sizes cuts sorted spans are perm s k d e l =
    let it = get_or cuts k d in
    let found = Contains-permutation cuts sorted it perm (Contains-get_or cuts k d l) in
    let span = s found.0 it e found.1 in
    let same : get_or sorted found.0 it ≡ it = found.2 in
    subst (λ (j : ℕ). IsSpanOf (cells sorted) (get_or spans j e) it) (are.indexed k d l)
    (subst (λ (x : CutRun). IsSpanOf (cells sorted) (get_or spans x.index e) x) same span)

cells_read : (shape sizes places : List ℕ) (read : ℕ → ℕ → Element) → map (read_cell read) (map (cell shape sizes) places) ≡ map (λ place. read (inner_chunk_of shape sizes place) (place_inside shape sizes place)) places
cells_read shape sizes places read = map-map (read_cell read) (cell shape sizes) places

pub order_is : (shape sizes places order : List ℕ) (cuts sorted : List CutRun) (groups : List (ℕ × List ℕ)) (spans : List (ℕ × ℕ)) → cells cuts ≡ map (cell shape sizes) places → AreCut shape sizes cuts → IsPermutation cuts sorted
    → AreGrouped sorted groups → groups ≡ groups_of shape sizes places → length spans ≡ length sorted → AreSpans sorted spans → order ≡ joined_runs spans → IsReadingOrder shape sizes places order
order_is shape sizes places order cuts sorted groups spans e are perm g same long s o = λ read.
    (λ i. map (λ at. get_or ((ap (group_elements read) (sym same) ∙ elements_are read groups ∙ ap (map (read_cell read)) g.cells) i) at absent) (o i))
    ∙ spans_read (read_cell read) (cells sorted) spans cuts (long ∙ length_permutation cuts sorted perm) (spans_back shape sizes cuts sorted spans are perm s)
    ∙ ap (map (read_cell read)) e
    ∙ cells_read shape sizes places read

-- where the places of the groups, one behind the other, are in their order
pub order_kept : (shape sizes places : List ℕ) (groups : List (ℕ × List ℕ)) → cells_of_groups groups ≡ map (cell shape sizes) places → groups ≡ groups_of shape sizes places → IsReadingOrder shape sizes places (range_with_len 0 (length places))
order_kept shape sizes places groups e same = λ read.
    let xs = map (λ place. read (inner_chunk_of shape sizes place) (place_inside shape sizes place)) places in
    let is : group_elements read (groups_of shape sizes places) ≡ xs =
    ap (group_elements read) (sym same) ∙ elements_are read groups ∙ ap (map (read_cell read)) e ∙ cells_read shape sizes places read in
    ap (λ (ys : List Element). map (λ at. get_or ys at absent) (range_with_len 0 (length places))) is
    ∙ sym (fill_by_all (λ k. get_or xs k absent) xs (length places) absent (length-map places (λ place. read (inner_chunk_of shape sizes place) (place_inside shape sizes place))) (λ k l. refl))

-- so they are where the cut runs stayed in theirs
pub order_stays : (shape sizes places : List ℕ) (cuts : List CutRun) (groups : List (ℕ × List ℕ)) → cells cuts ≡ map (cell shape sizes) places → AreGrouped cuts groups → groups ≡ groups_of shape sizes places → IsReadingOrder shape sizes places (range_with_len 0 (length places))
order_stays shape sizes places cuts groups e g same = order_kept shape sizes places groups (g.cells ∙ e) same

-- ---- what sorted cut runs are

pub are_indexed : (shape sizes : List ℕ) (cuts sorted : List CutRun) → AreCut shape sizes cuts → IsPermutation cuts sorted → AreIndexed sorted
are_indexed shape sizes cuts sorted are perm =
    let long = length_permutation cuts sorted perm in
    let low : All (λ it. it.index < length sorted) cuts = λ k d l. let i = are.indexed k d l in omega (arith, i, l, long) in
    let back : All (λ it. (e : CutRun) → get_or cuts it.index e ≡ it) cuts = λ k d l e. ap (λ j. get_or cuts j e) (are.indexed k d l) ∙ get_or_default cuts k e d l in
    let all = All-permutation (λ (it : CutRun). (e : CutRun) → get_or cuts it.index e ≡ it) cuts sorted perm back in
    record {
      below = All-permutation (λ (it : CutRun). it.index < length sorted) cuts sorted perm low;
      same = λ j k d l m e. sym (all j d l d) ∙ ap (λ i. get_or cuts i d) e ∙ all k d m d;
    }

pub cells_long : (cuts sorted : List CutRun) → IsPermutation cuts sorted → length (cells sorted) ≡ length (cells cuts)
cells_long cuts sorted perm =
    let own : CutRun → List (ℕ × ℕ) = λ (it : CutRun). cells_at it.number (places_of_cut it) in
    length-flat_map own sorted ∙ sum_by-IsPermutation (λ it. length (own it)) cuts sorted perm ∙ sym (length-flat_map own cuts)

pub sorted_filled : (shape sizes : List ℕ) (cuts sorted : List CutRun) → AreCut shape sizes cuts → IsPermutation cuts sorted → All (λ it. 0 < it.len) sorted
sorted_filled shape sizes cuts sorted are perm = All-permutation (λ (it : CutRun). 0 < it.len) cuts sorted perm (λ k d l. (are.each k d l).some)

pub sorted_inside : (shape sizes : List ℕ) (limit : ℕ) (cuts sorted : List CutRun) → AreCut shape sizes cuts → IsPermutation cuts sorted → product shape ≤ limit → All (λ it. it.start + it.len ≤ limit) sorted
sorted_inside shape sizes limit cuts sorted are perm h = All-permutation (λ (it : CutRun). it.start + it.len ≤ limit) cuts sorted perm (λ k d l. let i = (are.each k d l).inside in omega (arith, i, h))

pub sorted_fits : (shape sizes : List ℕ) (cuts sorted : List CutRun) → AreCut shape sizes cuts → IsPermutation cuts sorted → product shape < 2 ^ 64 → All (λ it. it.start + it.len < 2 ^ 64) sorted
sorted_fits shape sizes cuts sorted are perm h = All-permutation (λ (it : CutRun). it.start + it.len < 2 ^ 64) cuts sorted perm (λ k d l. let i = (are.each k d l).inside in omega (arith, i, h))

-- ---- the same with the slices that the code has

pub record AreCutOf (shape sizes places : List ℕ) (cuts : List CutRun) : Type 0 where
  pub cells_are : cells cuts ≡ map (cell shape sizes) places
  pub cut : AreCut shape sizes cuts

pub cut_of : (shape sizes parts others places : List ℕ) (cuts : List CutRun) → parts ≡ shape → others ≡ sizes → cells cuts ≡ map (cell parts others) places → AreCut parts others cuts → AreCutOf shape sizes places cuts
cut_of shape sizes parts others places cuts p o e are = record {
  cells_are = e ∙ (λ i. map (cell (p i) (o i)) places);
  cut = subst (λ (xs : List ℕ). AreCut xs sizes cuts) p (subst (λ (xs : List ℕ). AreCut parts xs cuts) o are);
}

pub record AreSortedOf (shape sizes places : List ℕ) (sorted : List CutRun) : Type 0 where
  pub filled : All (λ it. 0 < it.len) sorted
  pub fits : All (λ it. it.start + it.len < 2 ^ 64) sorted
  pub inside : All (λ it. it.start + it.len ≤ product shape) sorted
  pub indexed : AreIndexed sorted
  pub long : length (cells sorted) ≡ length places

pub sorted_of : (shape sizes places : List ℕ) (cuts sorted slice : List CutRun) → AreCutOf shape sizes places cuts → IsPermutation cuts sorted → slice ≡ sorted → product shape < 2 ^ 64 → AreSortedOf shape sizes places slice
sorted_of shape sizes places cuts sorted slice of perm e h = subst (AreSortedOf shape sizes places) (sym e) (record {
  filled = sorted_filled shape sizes cuts sorted of.cut perm;
  fits = sorted_fits shape sizes cuts sorted of.cut perm h;
  inside = sorted_inside shape sizes (product shape) cuts sorted of.cut perm (omega arith);
  indexed = are_indexed shape sizes cuts sorted of.cut perm;
  long = cells_long cuts sorted perm ∙ ap length of.cells_are ∙ length-map places (cell shape sizes);
})

-- what was found of sorted cut runs
pub groups_of_sorted : (shape sizes places : List ℕ) (cuts sorted slice : List CutRun) (groups : List (ℕ × List ℕ)) → AreCutOf shape sizes places cuts → IsPermutation cuts sorted → slice ≡ sorted → IsStableByKey (λ (it : CutRun). it.number) nat_cmp cuts sorted → AreGrouped slice groups → groups ≡ groups_of shape sizes places
groups_of_sorted shape sizes places cuts sorted slice groups of perm e stable g =
    groups_are shape sizes places cuts sorted groups of.cells_are of.cut perm (places_kept cuts sorted stable) (subst (λ (xs : List CutRun). AreGrouped xs groups) e g)

pub order_of_sorted : (shape sizes places order : List ℕ) (cuts sorted slice other : List CutRun) (groups : List (ℕ × List ℕ)) (spans : List (ℕ × ℕ)) → AreCutOf shape sizes places cuts → IsPermutation cuts sorted → slice ≡ sorted → other ≡ sorted → IsStableByKey (λ (it : CutRun). it.number) nat_cmp cuts sorted
    → AreGrouped slice groups → length spans ≡ length other → AreSpans other spans → order ≡ joined_runs spans → IsReadingOrder shape sizes places order
order_of_sorted shape sizes places order cuts sorted slice other groups spans of perm e f stable g long s o =
    order_is shape sizes places order cuts sorted groups spans of.cells_are of.cut perm (subst (λ (xs : List CutRun). AreGrouped xs groups) e g) (groups_of_sorted shape sizes places cuts sorted slice groups of perm e stable g)
    (long ∙ ap length f) (subst (λ (xs : List CutRun). AreSpans xs spans) f s) o
