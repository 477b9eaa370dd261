-- The places of a window of a shard that are in one inner chunk.
use Rattle.std.proofs.Common.{◌≡◌, ℕ, zero, suc, ◌+◌, ◌-◌, ◌*◌, ◌/◌, ◌%◌, ◌<◌, ◌≤◌, ◌++◌, ◌&&◌, min, max, nat_eq, nat_lt, Bool, true, false, List, [], ◌∷◌, length, get_or, map, arith, refl, ap, sym, ◌∙◌, ⊎_elim}
use Rattle.std.specs.List.{All, flat_map, range_with_len}
use Rattle.std.proofs.lemmas.Bool.{and_from, and_parts, cases_eq, cases_lt, eqb-true, false_from_ne_true}
use Rattle.std.proofs.lemmas.List.Elements.{All-head, All-tail, Contains-get_or}
use Rattle.std.proofs.lemmas.Nat.{div-add-mod', div_below, le-div}
use Rattle.zarrs_chain_meaning.specs.sharding.InnerChunks.{is_divided, grid}
use Rattle.zarrs_chunk.proofs.NumberLaws.{same_tuple}
use Rattle.zarrs_chunk.proofs.NumberedTuples.{tuple_of_number-row_major}
use Rattle.zarrs_chunk.specs.Levels.{box_places}
use Rattle.zarrs_chunk.specs.Region.{Region}
use Rattle.zarrs_chunk.specs.Tuples.{row_major, box_tuples, is_tuple_inside}
use Rattle.zarrs_grid.proofs.Cut.{touched_have}
use Rattle.zarrs_grid.proofs.OneAxis.{chunk_begins, chunk_ends}
use Rattle.zarrs_grid.specs.ChunkTuples.{quotients, remainders}
use Rattle.zarrs_grid.specs.Parts.{part_from, part_to, starts_in_chunk, part_lengths}
use Rattle.zarrs_grid.specs.RegionElements.{places_in_chunk}
use Rattle.zarrs_shard_runs.proofs.BoxParts.{all_inside, fits, numbers_inside}
use Rattle.zarrs_shard_runs.proofs.Grouping.{if_inside, cells_in, eq_same, eq_other}
use Rattle.zarrs_shard_runs.specs.BoxParts.{IsShardWindow}
use Rattle.zarrs_shard_runs.specs.CutRuns.{cell}

-- ---- one axis

-- of indices those in the part of this number, as indices of it
abbrev kept_indices : ℕ → ℕ → List ℕ → List ℕ
kept_indices size number [] = []
kept_indices size number (index ∷ indices) = if_inside (nat_eq (index / size) number) (index % size) (kept_indices size number indices)

empty_range : (start len : ℕ) → len ≡ 0 → range_with_len start len ≡ []
empty_range start len e = ap (range_with_len start) e

-- the indices of a range that are in a part are a range of it
kept_range : (size number len start : ℕ) → 0 < size
    → kept_indices size number (range_with_len start len)
    ≡ range_with_len (part_from size number start - number * size) (part_to size number start len - part_from size number start)
kept_range size number zero start p = sym (empty_range _ _ (none (number * size)))
  where
    none : (base : ℕ) → min (start + 0) (base + size) - max start base ≡ 0
    none base = omega arith
kept_range size number (suc len) start p =
    ap (if_inside (nat_eq (start / size) number) (start % size)) (kept_range size number len (start + 1) p)
    ∙ ⊎_elim
    (λ (before : start < number * size).
    ap (λ test. if_inside test (start % size) more)
    (eq_other (start / size) number (λ e. let q = ap (λ n. n * size) e in omega (arith, q, before, chunk_begins size start)))
    ∙ (λ i. range_with_len (moved (number * size) before i) (long_before (number * size) before i)))
    (λ (behind : number * size ≤ start).
    ⊎_elim
    (λ (within : start < number * size + size).
    ap (λ test. if_inside test (start % size) more) (eq_same (start / size) number (quotient behind within))
    ∙ (λ i. rest (ap (λ n. n * size) (quotient behind within)) i
    ∷ range_with_len (next (number * size) behind i) (min (start + 1 + len) (number * size + size) - max (start + 1) (number * size)))
    ∙ (λ i. range_with_len (max start (number * size) - number * size) (one_more (number * size) behind within i)))
    (λ (past : number * size + size ≤ start).
    ap (λ test. if_inside test (start % size) more)
    (eq_other (start / size) number (λ e. let q = ap (λ n. n * size) e in omega (arith, q, past, chunk_ends size start p)))
    ∙ empty_range _ _ (short (start + 1) (number * size) (omega (arith, past)))
    ∙ sym (empty_range _ _ (short_past (number * size) past)))
    (cases_lt start (number * size + size)))
    (cases_lt start (number * size))
  where
    more : List ℕ
    more = range_with_len (part_from size number (start + 1) - number * size) (part_to size number (start + 1) len - part_from size number (start + 1))

    quotient : number * size ≤ start → start < number * size + size → start / size ≡ number
    quotient behind within =
        let low = le-div number start size p behind in
        let high = div_below start size (number + 1) p (omega (arith, within)) in
        omega (arith, low, high)

    rest : start / size * size ≡ number * size → start % size ≡ max start (number * size) - number * size
    rest q = on_axis (start / size * size) (number * size) (start % size) q (div-add-mod' start size)
      where
        on_axis : (front base left : ℕ) → front ≡ base → front + left ≡ start → left ≡ max start base - base
        on_axis front base left e d = omega arith

    moved : (base : ℕ) → start < base → max (start + 1) base - base ≡ max start base - base
    moved base l = omega arith

    long_before : (base : ℕ) → start < base → min (start + 1 + len) (base + size) - max (start + 1) base ≡ min (start + suc len) (base + size) - max start base
    long_before base l = omega arith

    next : (base : ℕ) → base ≤ start → max (start + 1) base - base ≡ max start base - base + 1
    next base l = omega arith

    one_more : (base : ℕ) → base ≤ start → start < base + size
        → suc (min (start + 1 + len) (base + size) - max (start + 1) base) ≡ min (start + suc len) (base + size) - max start base
    one_more base l h = omega arith

    short : (at base : ℕ) → base + size ≤ at → min (at + len) (base + size) - max at base ≡ 0
    short at base l = omega arith

    short_past : (base : ℕ) → base + size ≤ start → min (start + suc len) (base + size) - max start base ≡ 0
    short_past base l = omega arith

-- ---- axis by axis

-- two tuples are the same
abbrev is_same : List ℕ → List ℕ → Bool
is_same [] [] = true
is_same (one ∷ tuple) (other ∷ others) = nat_eq one other && is_same tuple others
is_same _ _ = false

-- a tuple before others, if it is one of them
abbrev tuple_if : Bool → List ℕ → List (List ℕ) → List (List ℕ)
tuple_if true tuple tuples = tuple ∷ tuples
tuple_if false tuple tuples = tuples

-- these tuples, or none
abbrev all_if : Bool → List (List ℕ) → List (List ℕ)
all_if true tuples = tuples
all_if false tuples = []

-- of tuples of the shard those in the inner chunk of these indices, as tuples of it
abbrev kept : List ℕ → List ℕ → List (List ℕ) → List (List ℕ)
kept shape numbers [] = []
kept shape numbers (tuple ∷ tuples) = tuple_if (is_same (quotients shape tuple) numbers) (remainders shape tuple) (kept shape numbers tuples)

kept-append : (shape numbers : List ℕ) (tuples others : List (List ℕ))
    → kept shape numbers (tuples ++ others) ≡ kept shape numbers tuples ++ kept shape numbers others
kept-append shape numbers [] others = refl
kept-append shape numbers (tuple ∷ tuples) others =
    ap (tuple_if (is_same (quotients shape tuple) numbers) (remainders shape tuple)) (kept-append shape numbers tuples others)
    ∙ one (is_same (quotients shape tuple) numbers) (remainders shape tuple) (kept shape numbers tuples)
  where
    one : (test : Bool) (it : List ℕ) (some : List (List ℕ))
        → tuple_if test it (some ++ kept shape numbers others) ≡ tuple_if test it some ++ kept shape numbers others
    one true it some = refl
    one false it some = refl

-- the tuples that begin with one index
kept_row : (size number index : ℕ) (shape numbers : List ℕ) (tuples : List (List ℕ))
    → kept (size ∷ shape) (number ∷ numbers) (map (λ tuple. index ∷ tuple) tuples)
    ≡ all_if (nat_eq (index / size) number) (map (λ tuple. index % size ∷ tuple) (kept shape numbers tuples))
kept_row size number index shape numbers [] = nothing (nat_eq (index / size) number)
  where
    nothing : (test : Bool) → [] ≡ all_if test []
    nothing true = refl
    nothing false = refl
kept_row size number index shape numbers (tuple ∷ tuples) =
    ap (tuple_if (nat_eq (index / size) number && is_same (quotients shape tuple) numbers) (index % size ∷ remainders shape tuple))
    (kept_row size number index shape numbers tuples)
    ∙ one (nat_eq (index / size) number) (is_same (quotients shape tuple) numbers) (index % size) (remainders shape tuple) (kept shape numbers tuples)
  where
    one : (first rest : Bool) (place : ℕ) (it : List ℕ) (some : List (List ℕ))
        → tuple_if (first && rest) (place ∷ it) (all_if first (map (λ tuple. place ∷ tuple) some))
        ≡ all_if first (map (λ tuple. place ∷ tuple) (tuple_if rest it some))
    one true true place it some = refl
    one true false place it some = refl
    one false rest place it some = refl

-- and those that begin with one of these indices
kept_rows : (size number : ℕ) (shape numbers : List ℕ) (tuples : List (List ℕ)) (indices : List ℕ)
    → kept (size ∷ shape) (number ∷ numbers) (flat_map (λ index. map (λ tuple. index ∷ tuple) tuples) indices)
    ≡ flat_map (λ index. map (λ tuple. index ∷ tuple) (kept shape numbers tuples)) (kept_indices size number indices)
kept_rows size number shape numbers tuples [] = refl
kept_rows size number shape numbers tuples (index ∷ indices) =
    kept-append (size ∷ shape) (number ∷ numbers) (map (λ tuple. index ∷ tuple) tuples)
    (flat_map (λ index. map (λ tuple. index ∷ tuple) tuples) indices)
    ∙ (λ i. kept_row size number index shape numbers tuples i ++ kept_rows size number shape numbers tuples indices i)
    ∙ one (nat_eq (index / size) number) (index % size) (kept_indices size number indices)
  where
    one : (test : Bool) (place : ℕ) (some : List ℕ)
        → all_if test (map (λ tuple. place ∷ tuple) (kept shape numbers tuples))
        ++ flat_map (λ index. map (λ tuple. index ∷ tuple) (kept shape numbers tuples)) some
        ≡ flat_map (λ index. map (λ tuple. index ∷ tuple) (kept shape numbers tuples)) (if_inside test place some)
    one true place some = refl
    one false place some = refl

-- the tuples of a box that are in an inner chunk are those of the box's part in it, whether or not it has any
kept_box : (shape numbers starts lengths : List ℕ) → All (λ part. 0 < part) shape → length numbers ≡ length shape
    → length starts ≡ length shape → length lengths ≡ length shape
    → kept shape numbers (box_tuples starts lengths) ≡ box_tuples (starts_in_chunk shape numbers starts) (part_lengths shape numbers starts lengths)
kept_box [] [] [] lengths p n e f = refl
kept_box [] [] (start ∷ starts) lengths p n e f = absurd (omega arith)
kept_box [] (number ∷ numbers) starts lengths p n e f = absurd (omega arith)
kept_box (size ∷ shape) [] starts lengths p n e f = absurd (omega arith)
kept_box (size ∷ shape) (number ∷ numbers) [] lengths p n e f = absurd (omega arith)
kept_box (size ∷ shape) (number ∷ numbers) (start ∷ starts) [] p n e f = absurd (omega arith)
kept_box (size ∷ shape) (number ∷ numbers) (start ∷ starts) (len ∷ lengths) p n e f =
    let range = kept_range size number len start (All-head (λ part. 0 < part) size shape p) in
    let rest = kept_box shape numbers starts lengths (All-tail (λ part. 0 < part) size shape p) (omega arith) (omega arith) (omega arith) in
    kept_rows size number shape numbers (box_tuples starts lengths) (range_with_len start len)
    ∙ (λ i. flat_map (λ index. map (λ tuple. index ∷ tuple) (rest i)) (range i))

-- ---- the places of the window in an inner chunk

into_same : (tuple : List ℕ) → is_same tuple tuple ≡ true
into_same [] = refl
into_same (index ∷ tuple) = and_from _ _ (eq_same index index refl) (into_same tuple)

from_same : (tuple other : List ℕ) → is_same tuple other ≡ true → tuple ≡ other
from_same [] [] h = refl
from_same [] (index ∷ other) h = absurd (cc)
from_same (index ∷ tuple) [] h = absurd (cc)
from_same (index ∷ tuple) (place ∷ other) h =
    let both = and_parts (nat_eq index place) (is_same tuple other) h in
    λ i. eqb-true index place both.0 i ∷ from_same tuple other both.1 i

-- by the numbers of tuples
same_numbers : (sizes tuple other : List ℕ) → is_tuple_inside sizes tuple ≡ true → is_tuple_inside sizes other ≡ true
    → nat_eq (row_major sizes tuple) (row_major sizes other) ≡ is_same tuple other
same_numbers sizes tuple other t o =
    ⊎_elim
    (λ (same : row_major sizes tuple ≡ row_major sizes other).
    eq_same (row_major sizes tuple) (row_major sizes other) same
    ∙ sym (into_same tuple)
    ∙ ap (is_same tuple) (same_tuple sizes tuple other t o same))
    (λ (differ : row_major sizes tuple ≡ row_major sizes other → ⊥).
    eq_other (row_major sizes tuple) (row_major sizes other) differ
    ∙ sym (false_from_ne_true (is_same tuple other) (λ h. differ (ap (row_major sizes) (from_same tuple other h)))))
    (cases_eq (row_major sizes tuple) (row_major sizes other))

-- a tuple of the shard, and the inner chunk that has it is one of those that there are
record LiesInGrid (shape sizes tuple : List ℕ) : Type 0 where
  pub inside : is_tuple_inside sizes tuple ≡ true
  pub numbered : is_tuple_inside (grid shape sizes) (quotients shape tuple) ≡ true

-- those of its places that are in the inner chunk of these indices
cells_kept : (shape sizes numbers : List ℕ) (tuples : List (List ℕ)) → is_tuple_inside (grid shape sizes) numbers ≡ true
    → All (LiesInGrid shape sizes) tuples
    → cells_in (row_major (grid shape sizes) numbers) (map (cell shape sizes) (map (row_major sizes) tuples))
    ≡ map (row_major shape) (kept shape numbers tuples)
cells_kept shape sizes numbers [] t all = refl
cells_kept shape sizes numbers (tuple ∷ tuples) t all =
    let here = All-head (LiesInGrid shape sizes) tuple tuples all in
    let counts = grid shape sizes in
    let again = tuple_of_number-row_major sizes tuple here.inside in
    let test = ap (λ x. nat_eq (row_major counts (quotients shape x)) (row_major counts numbers)) again
    ∙ same_numbers counts (quotients shape tuple) numbers here.numbered t in
    let rest = cells_kept shape sizes numbers tuples t (All-tail (LiesInGrid shape sizes) tuple tuples all) in
    (λ i. if_inside (test i) (row_major shape (remainders shape (again i))) (rest i))
    ∙ one (is_same (quotients shape tuple) numbers) (remainders shape tuple) (kept shape numbers tuples)
  where
    one : (test : Bool) (it : List ℕ) (some : List (List ℕ))
        → if_inside test (row_major shape it) (map (row_major shape) some) ≡ map (row_major shape) (tuple_if test it some)
    one true it some = refl
    one false it some = refl

pub numbers-length : (shape sizes numbers : List ℕ) → is_divided shape sizes ≡ true
    → is_tuple_inside (grid shape sizes) numbers ≡ true → length numbers ≡ length shape
numbers-length [] [] [] d h = refl
numbers-length [] [] (number ∷ numbers) d h = absurd (cc)
numbers-length [] (size ∷ sizes) numbers d h = absurd (cc)
numbers-length (part ∷ shape) [] numbers d h = absurd (cc)
numbers-length (part ∷ shape) (size ∷ sizes) [] d h = absurd (cc)
numbers-length (part ∷ shape) (size ∷ sizes) (number ∷ numbers) d h =
    ap suc (numbers-length shape sizes numbers (and_parts (nat_eq (size % part) 0) (is_divided shape sizes) d).1
    (and_parts (nat_lt number (size / part)) (is_tuple_inside (grid shape sizes) numbers) h).1)

-- the window's places in the inner chunk of these indices
pub window_cells : (shape sizes : List ℕ) (window : Region) (numbers : List ℕ) → IsShardWindow shape sizes window
    → is_tuple_inside (grid shape sizes) numbers ≡ true
    → cells_in (row_major (grid shape sizes) numbers) (map (cell shape sizes) (box_places sizes window.starts window.lengths))
    ≡ places_in_chunk shape window numbers
window_cells shape sizes window numbers w t =
    let g = fits shape sizes window w in
    let tuples = box_tuples window.starts window.lengths in
    let inside = all_inside sizes window.starts window.lengths w.inside in
    let axes = numbers-length shape sizes numbers w.divided t in
    cells_kept shape sizes numbers tuples t (λ k d l. record {
      inside = inside k d l;
      numbered = numbers_inside shape sizes window (quotients shape (get_or tuples k d)) w
          ((touched_have shape window (quotients shape (get_or tuples k d)) g).1 (get_or tuples k d, Contains-get_or tuples k d l, refl));
    })
    ∙ ap (map (row_major shape)) (kept_box shape numbers window.starts window.lengths g.positive axes g.starts g.lengths)
