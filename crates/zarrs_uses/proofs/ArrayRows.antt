-- The rows of a region of an array: one part behind another, and a part that lies in one chunk.
use Rattle.std.proofs.Common.{◌≡◌, ℕ, ◌+◌, ◌*◌, ◌/◌, ◌%◌, ◌<◌, ◌≤◌, List, [], ◌∷◌, ◌++◌, map, get_or, arith, ap, sym, ◌∙◌}
use Rattle.std.proofs.lemmas.List.{map-append}
use Rattle.std.proofs.lemmas.Nat.{div-mul-add, mod-mul-add}
use Rattle.std.proofs.Math.Nat.{div-add-mod, mul_comm}
use Rattle.std.proofs.lemmas.Simd.{map-map}
use Rattle.zarrs_codecs.specs.BoxRows.{BoxesAreCut, RowsAreAlike}
use Rattle.zarrs_codecs.specs.Element.{Element, absent, Chunk}
use Rattle.zarrs_codecs.specs.Elements.{select}
use Rattle.zarrs_codecs.specs.Tuples.{row_major, box_tuples}
use Rattle.zarrs_uses.specs.ChunkedArray.{array_element}

-- the elements at the tuples of so many rows of a box, from one row on
abbrev pub at_rows : (List ℕ → Element) → List ℕ → List ℕ → ℕ → ℕ → List Element
at_rows f starts lengths row count = map f (box_tuples (row ∷ starts) (count ∷ lengths))

-- rows, and others behind them
pub rows-append : BoxesAreCut → (f : List ℕ → Element) (starts lengths : List ℕ) (row count more : ℕ) → at_rows f starts lengths row (count + more) ≡ at_rows f starts lengths row count ++ at_rows f starts lengths (row + count) more
rows-append cut f starts lengths row count more =
    ap (map f) (cut row count more starts lengths) ∙ map-append f (box_tuples (row ∷ starts) (count ∷ lengths)) (box_tuples ((row + count) ∷ starts) (more ∷ lengths))

-- a row that isn't past the chunk in which another lies is as far from it there as in the array
behind_row : (rows row i : ℕ) → row % rows + i < rows → row + i ≡ row / rows * rows + (row % rows + i)
behind_row rows row i inside =
    let whole : row / rows * rows + row % rows ≡ row = ap (λ n. n + row % rows) (mul_comm (row / rows) rows) ∙ div-add-mod row rows in
    omega (arith, whole)

-- the elements of so many rows of the array, from one on, are those of the chunk in which they lie, at the rows that they are there
pub rows_in_chunk : RowsAreAlike → (rows : ℕ) (sizes : List ℕ) (chunks : List Chunk) (starts lengths : List ℕ) (row count : ℕ) → row % rows + count ≤ rows
    → at_rows (array_element (rows ∷ sizes) chunks) starts lengths row count ≡ select (get_or chunks (row / rows) []) (map (row_major (rows ∷ sizes)) (box_tuples (row % rows ∷ starts) (count ∷ lengths)))
rows_in_chunk alike rows sizes chunks starts lengths row count inside =
    let chunk = get_or chunks (row / rows) [] in
    let there : List ℕ → Element = λ tuple. get_or chunk (row_major (rows ∷ sizes) tuple) absent in
    let element : ℕ → ℕ → List ℕ → Element = λ number row tuple. get_or (get_or chunks number []) (row_major (rows ∷ sizes) (row ∷ tuple)) absent in
    alike (array_element (rows ∷ sizes) chunks) there row (row % rows) count starts lengths (λ i l tuple.
    let here = behind_row rows row i (omega arith) in
    let number : (row + i) / rows ≡ row / rows = ap (λ n. n / rows) here ∙ div-mul-add (row / rows) rows (row % rows + i) (omega arith) in
    let place : (row + i) % rows ≡ row % rows + i = ap (λ n. n % rows) here ∙ mod-mul-add (row / rows) rows (row % rows + i) (omega arith) in
    ap (λ n. element n ((row + i) % rows) tuple) number ∙ ap (λ n. element (row / rows) n tuple) place)
    ∙ sym (map-map (λ place. get_or chunk place absent) (row_major (rows ∷ sizes)) (box_tuples (row % rows ∷ starts) (count ∷ lengths)))
