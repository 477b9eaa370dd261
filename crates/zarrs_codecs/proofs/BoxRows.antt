-- The rows of a box: some and others behind them, and those that two arrays have alike.
use Rattle.std.proofs.Common.{◌≡◌, ℕ, zero, suc, ◌+◌, List, [], ◌∷◌, map, arith, refl, ap, sym, ◌∙◌}
use Rattle.std.specs.List.{flat_map, range_with_len}
use Rattle.std.proofs.lemmas.List.{map-append}
use Rattle.std.proofs.lemmas.List.Concat.{flat_map-append}
use Rattle.zarrs_chunk.specs.Tuples.{box_tuples}
use Rattle.zarrs_chunk.proofs.Consecutive.{range-append}
use Rattle.zarrs_data_type.specs.Element.{Element}
use Rattle.zarrs_codecs.specs.BoxRows.{BoxesAreCut, RowsAreAlike}

-- the tuples of one row
abbrev row_tuples : List ℕ → List ℕ → ℕ → List (List ℕ)
row_tuples starts lengths row = map (λ tuple. row ∷ tuple) (box_tuples starts lengths)

pub cut_rows : BoxesAreCut
cut_rows row count more starts lengths =
    ap (flat_map (row_tuples starts lengths)) (range-append row count more)
    ∙ flat_map-append (row_tuples starts lengths) (range_with_len row count) (range_with_len (row + count) more)

-- two arrays that agree in two rows, at each tuple behind the row's number
same_row : (one other : List ℕ → Element) (row there : ℕ) (tuples : List (List ℕ)) → ((tuple : List ℕ) → one (row ∷ tuple) ≡ other (there ∷ tuple)) → map one (map (λ tuple. row ∷ tuple) tuples) ≡ map other (map (λ tuple. there ∷ tuple) tuples)
same_row one other row there [] same = refl
same_row one other row there (tuple ∷ tuples) same = rw (same tuple, same_row one other row there tuples same) refl

-- and in so many rows
pub same_rows : RowsAreAlike
same_rows one other row there zero starts lengths same = refl
same_rows one other row there (suc count) starts lengths same =
    let here : row + 0 ≡ row = omega arith in
    let at_first : there + 0 ≡ there = omega arith in
    let first = same_row one other row there (box_tuples starts lengths) (λ tuple. rw (here, at_first) at (same 0 (omega arith) tuple)) in
    let rest = same_rows one other (row + 1) (there + 1) count starts lengths (λ i l tuple.
    let a : row + suc i ≡ row + 1 + i = omega arith in
    let b : there + suc i ≡ there + 1 + i = omega arith in
    rw (a, b) at (same (suc i) (omega arith) tuple)) in
    map-append one (row_tuples starts lengths row) (flat_map (row_tuples starts lengths) (range_with_len (row + 1) count))
    ∙ rw (first, rest) refl
    ∙ sym (map-append other (row_tuples starts lengths there) (flat_map (row_tuples starts lengths) (range_with_len (there + 1) count)))
