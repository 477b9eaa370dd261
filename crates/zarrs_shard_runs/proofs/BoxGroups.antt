-- The inner chunks that a window of a shard touches are those that have any of its places.
use Rattle.std.proofs.Common.{◌≡◌, ◌⊎◌, inl, inr, ℕ, zero, suc, ◌+◌, ◌-◌, ◌*◌, ◌/◌, ◌<◌, ◌≤◌, ◌++◌, min, max, true, List, [], ◌∷◌, length, get_or, map, arith, refl, ap, sym, subst, ◌∙◌, ⊎_elim}
use Rattle.std.specs.List.{All, Contains, range_with_len}
use Rattle.std.proofs.lemmas.Bool.{cases_eq}
use Rattle.std.proofs.lemmas.List.{append-nil, length-map, nil_from_length}
use Rattle.std.proofs.lemmas.List.Elements.{All-head, All-map, All-tail, Contains-get_or}
use Rattle.std.proofs.lemmas.Nat.{div_below, le-div}
use Rattle.std.proofs.Math.Nat.{eq-zero-or-pos}
use Rattle.zarrs_chain_meaning.specs.sharding.InnerChunks.{grid, inner_chunk_count}
use Rattle.zarrs_chunk.proofs.BoxTuples.{length-box_tuples}
use Rattle.zarrs_chunk.proofs.NumberLaws.{same_tuple}
use Rattle.zarrs_chunk.proofs.NumberedTuples.{factor_positive, row_major-tuple_of_number, tuple_of_number-inside}
use Rattle.zarrs_chunk.proofs.Rising.{Rises, Rises-box}
use Rattle.zarrs_chunk.specs.ChunkShape.{product}
use Rattle.zarrs_chunk.specs.Indices.{tuple_of_number}
use Rattle.zarrs_chunk.specs.Levels.{box_places}
use Rattle.zarrs_chunk.specs.Region.{Region}
use Rattle.zarrs_chunk.specs.Tuples.{row_major, box_tuples, is_tuple_inside}
use Rattle.zarrs_grid.proofs.BoxPlaces.{box_count}
use Rattle.zarrs_grid.proofs.Cut.{into_listed}
use Rattle.zarrs_grid.proofs.Tuples.{InBox}
use Rattle.zarrs_grid.specs.ChunkTuples.{quotients}
use Rattle.zarrs_grid.specs.Parts.{box_in_chunk, part_from, part_to, starts_in_chunk, part_lengths}
use Rattle.zarrs_grid.specs.RegionElements.{places_in_chunk}
use Rattle.zarrs_grid.specs.Touched.{touched_count, touched_counts, touched_chunks}
use Rattle.zarrs_shard_runs.proofs.BoxCells.{numbers-length, window_cells}
use Rattle.zarrs_shard_runs.proofs.BoxParts.{fits, parts_placed, touched_inside}
use Rattle.zarrs_shard_runs.proofs.Grouping.{cells_in, groups_are_cells, groups_agree, groups_again, cells_in-append, cells_in-same, cells_in-other, none_below}
use Rattle.zarrs_shard_runs.specs.BoxParts.{IsShardWindow, BoxesAreGrouped, box_groups}
use Rattle.zarrs_shard_runs.specs.CutRuns.{cell, cells_at}
use Rattle.zarrs_shard_runs.specs.Groups.{AreRising, cells_of_groups}

-- ---- inner chunks that the window doesn't touch

-- the inner chunk of these indices is touched, if the part in it has elements
part_touched : (shape starts lengths numbers : List ℕ) → All (λ part. 0 < part) shape → length starts ≡ length shape
    → length lengths ≡ length shape → length numbers ≡ length shape → 0 < product (part_lengths shape numbers starts lengths)
    → InBox (quotients shape starts) (touched_counts shape starts lengths) numbers
part_touched [] [] lengths [] p e f n h = tt
part_touched [] [] lengths (number ∷ numbers) p e f n h = absurd (omega arith)
part_touched [] (start ∷ starts) lengths numbers p e f n h = absurd (omega arith)
part_touched (size ∷ shape) [] lengths numbers p e f n h = absurd (omega arith)
part_touched (size ∷ shape) (start ∷ starts) [] numbers p e f n h = absurd (omega arith)
part_touched (size ∷ shape) (start ∷ starts) (len ∷ lengths) [] p e f n h = absurd (omega arith)
part_touched (size ∷ shape) (start ∷ starts) (len ∷ lengths) (number ∷ numbers) p e f n h =
    let some = All-head (λ part. 0 < part) size shape p in
    let count = part_to size number start len - part_from size number start in
    let others = product (part_lengths shape numbers starts lengths) in
    let here = on_axis (number * size) (first_positive count others h) in
    let rest = part_touched shape starts lengths numbers (All-tail (λ part. 0 < part) size shape p) (omega arith) (omega arith) (omega arith)
    (factor_positive 0 count others h) in
    (before some here.1, last len some here.2 here.0, rest)
  where
    first_positive : (a b : ℕ) → 0 < a * b → 0 < a
    first_positive zero b l = absurd (omega (arith, l))
    first_positive (suc a) b l = omega arith

    on_axis : (base : ℕ) → 0 < min (start + len) (base + size) - max start base → (base < start + len) × (start < base + size) × (0 < len)
    on_axis base l = (omega arith, omega arith, omega arith)

    before : 0 < size → start < number * size + size → start / size ≤ number
    before some l = let q = div_below start size (number + 1) some (omega (arith, l)) in omega (arith, q)

    last : (count : ℕ) → 0 < size → 0 < count → number * size < start + count
        → number < start / size + touched_count size start count
    last zero some any l = absurd (omega (arith, any))
    last (suc more) some any l = let q = le-div number (start + more) size some (omega (arith, l)) in omega (arith, q)

-- the inner chunk of these indices is touched, or no place of the window is in it
touched_or_none : (shape sizes : List ℕ) (window : Region) (numbers : List ℕ) → IsShardWindow shape sizes window
    → is_tuple_inside (grid shape sizes) numbers ≡ true
    → Contains (touched_chunks shape window) numbers ⊎ (places_in_chunk shape window numbers ≡ [])
touched_or_none shape sizes window numbers w t =
    let g = fits shape sizes window w in
    let axes = numbers-length shape sizes numbers w.divided t in
    let starts = starts_in_chunk shape numbers window.starts in
    let lengths = part_lengths shape numbers window.starts window.lengths in
    let count = length-map (box_tuples starts lengths) (row_major shape)
    ∙ length-box_tuples starts lengths (part_axes shape numbers window.starts window.lengths axes g.starts g.lengths) in
    ⊎_elim
    (λ (none : product lengths ≡ 0).
    inr (nil_from_length (places_in_chunk shape window numbers) (count ∙ none)))
    (λ (some : 0 < product lengths).
    inl (into_listed shape window numbers g (part_touched shape window.starts window.lengths numbers g.positive g.starts g.lengths axes some)))
    (eq-zero-or-pos (product lengths))
  where
    part_axes : (shape numbers starts lengths : List ℕ) → length numbers ≡ length shape → length starts ≡ length shape
        → length lengths ≡ length shape
        → length (starts_in_chunk shape numbers starts) ≡ length (part_lengths shape numbers starts lengths)
    part_axes [] numbers starts lengths n e f = refl
    part_axes (size ∷ shape) [] starts lengths n e f = absurd (omega arith)
    part_axes (size ∷ shape) (number ∷ numbers) [] lengths n e f = absurd (omega arith)
    part_axes (size ∷ shape) (number ∷ numbers) (start ∷ starts) [] n e f = absurd (omega arith)
    part_axes (size ∷ shape) (number ∷ numbers) (start ∷ starts) (len ∷ lengths) n e f =
        ap suc (part_axes shape numbers starts lengths (omega arith) (omega arith) (omega arith))

-- ---- groups by the numbers of their indices

module _ (counts : List ℕ) (places : List ℕ → List ℕ) where
  abbrev group_at : List ℕ → ℕ × List ℕ
  group_at numbers = (row_major counts numbers, places numbers)

  -- groups of indices whose numbers rise, each with places
  groups_rise : (low high : ℕ) (all : List (List ℕ)) → Rises low high (map (row_major counts) all)
      → All (λ numbers. 0 < length (places numbers)) all → AreRising low (map group_at all)
  groups_rise low high [] r f = tt
  groups_rise low high (numbers ∷ all) r f = (
    r.0,
    All-head (λ numbers. 0 < length (places numbers)) numbers all f,
    groups_rise (row_major counts numbers + 1) high all r.2 (All-tail (λ numbers. 0 < length (places numbers)) numbers all f),
  )

  -- the places of these indices are those of their group, or there are none
  group_cells : (numbers : List ℕ) (all : List (List ℕ)) (low : ℕ) → is_tuple_inside counts numbers ≡ true
      → All (λ other. is_tuple_inside counts other ≡ true) all → AreRising low (map group_at all)
      → Contains all numbers ⊎ (places numbers ≡ [])
      → cells_in (row_major counts numbers) (cells_of_groups (map group_at all)) ≡ places numbers
  group_cells numbers [] low t each r (inl c) = absurd (omega (arith, c.1))
  group_cells numbers [] low t each r (inr e) = sym e
  group_cells numbers (first ∷ all) low t each r found =
      let number = row_major counts numbers in
      let rest = cells_of_groups (map group_at all) in
      let here = All-head (λ other. is_tuple_inside counts other ≡ true) first all each in
      let others = All-tail (λ other. is_tuple_inside counts other ≡ true) first all each in
      cells_in-append number (cells_at (row_major counts first) (places first)) rest
      ∙ ⊎_elim
      (λ (same : row_major counts first ≡ number).
      (λ i. cells_in-same number (row_major counts first) (places first) same i
      ++ none_below (row_major counts first + 1) number (map group_at all) r.2 (omega (arith, same)) i)
      ∙ append-nil (places first)
      ∙ ap places (same_tuple counts first numbers here t same))
      (λ (differ : row_major counts first ≡ number → ⊥).
      ap (λ xs. xs ++ cells_in number rest) (cells_in-other number (row_major counts first) (places first) differ)
      ∙ group_cells numbers all (row_major counts first + 1) t others r.2 (behind differ found))
      (cases_eq (row_major counts first) number)
    where
      among : (row_major counts first ≡ row_major counts numbers → ⊥) → (k : ℕ)
          → k < length (first ∷ all) → get_or (first ∷ all) k numbers ≡ numbers → Contains all numbers
      among differ zero l e = absurd (differ (ap (row_major counts) e))
      among differ (suc k) l e = (k, omega arith, e)

      behind : (row_major counts first ≡ row_major counts numbers → ⊥) → Contains (first ∷ all) numbers ⊎ (places numbers ≡ [])
          → Contains all numbers ⊎ (places numbers ≡ [])
      behind differ (inl c) = inl (among differ c.0 c.1 c.2)
      behind differ (inr e) = inr e

pub boxes_grouped : BoxesAreGrouped
boxes_grouped shape sizes window w =
    let counts = grid shape sizes in
    let count = inner_chunk_count shape sizes in
    let places = places_in_chunk shape window in
    let all = touched_chunks shape window in
    let found = box_groups shape sizes window in
    let window_places = box_places sizes window.starts window.lengths in
    let placed = λ (k : ℕ) (d : List ℕ) (l : k < length all). parts_placed shape sizes window (get_or all k d) w (Contains-get_or all k d l) in
    let low = touched_inside shape sizes window.starts window.lengths w.positive w.divided w.inside in
    let rises = groups_rise counts places 0 (product counts) all
    (Rises-box counts (quotients shape window.starts) (touched_counts shape window.starts window.lengths) low)
    (λ k d l. let it = placed k d l in
    let part = box_in_chunk shape window (get_or all k d) in
    let long = box_count shape part.starts part.lengths it.inside in
    omega (arith, it.filled, long)) in
    let agree = λ (number : ℕ) (b : number < count).
    let numbers = tuple_of_number counts number in
    let inside = tuple_of_number-inside counts number b in
    subst (λ n. cells_in n (cells_of_groups found) ≡ cells_in n (map (cell shape sizes) window_places))
    (row_major-tuple_of_number counts number b)
    (group_cells counts places numbers all 0 inside (λ k d l. (placed k d l).numbered) rises
    (touched_or_none shape sizes window numbers w inside)
    ∙ sym (window_cells shape sizes window numbers w inside)) in
    let below = All-map (λ (it : ℕ × List ℕ). it.0 < 0 + count) (group_at counts places) all
    (λ k d l. let b = (placed k d l).number in omega (arith, b)) in
    sym (groups_again count 0 found rises below)
    ∙ groups_agree (cells_of_groups found) (map (cell shape sizes) window_places) 0 count (λ number _ b. agree number (omega (arith, b)))
    ∙ sym (groups_are_cells shape sizes window_places (range_with_len 0 count))
