use Rattle.std.proofs.Common.{◌≡◌, ◌≤◌, ◌+◌, ◌*◌, ◌++◌, [], List, ℕ, length, take, drop, get_or, arith, sym, ap, ◌∙◌, length-take-le}
use Rattle.std.proofs.lemmas.List.{take_more, get_or-take}
use Rattle.std.proofs.Math.Nat.{mul-le-mul_right}
use Rattle.zarrs_array_to_array.specs.Tiles.{AreVectors, with_vectors}
use Rattle.zarrs_array_to_array.proofs.TileRows.{with_one_more}
use Rattle.zarrs_array_to_array.proofs.transpose.tiles.put_tile.Goals as goal

whole_front : (vectors : List (List ℕ)) (n : ℕ) → n ≤ length vectors → AreVectors vectors → AreVectors (take n vectors)
whole_front vectors n l whole k b =
    let count : length (take n vectors) ≡ n = length-take-le n vectors l in
    ap length (get_or-take n vectors k [] (omega (arith, b, count))) ∙ whole k (omega (arith, b, count))

pub loop-index-preserved : goal.loop-index-preserved
loop-index-preserved g c =
    let i = c.loop-index.index in
    let rows = c.args.rows in
    let items = c.args.items.now in
    let len = c.args.len in
    let at = c.args.at in
    let below : i ≤ length rows = omega arith in
    let count : length (take i rows) ≡ i = length-take-le i rows below in
    let spread : (length (take i rows) + 1) * len ≡ (i + 1) * len = ap (λ n. (n + 1) * len) count in
    c.put_sixteen.ensures.written
    ∙ ap (λ xs. take (i * len + at) xs ++ (get_or rows i [] ++ drop 16 (drop (i * len + at) xs))) c.loop-index.invariant
    ∙ ap (λ n. take (n * len + at) (with_vectors len at (take i rows) items) ++ (get_or rows i [] ++ drop 16 (drop (n * len + at) (with_vectors len at (take i rows) items)))) (sym count)
    ∙ with_one_more len at (take i rows) (get_or rows i []) items (whole_front rows i below c.requires.whole) c.requires.wide
    (omega (arith, spread, mul-le-mul_right {m = i + 1} {n = g.row.N} len (omega arith), c.requires.room))
    ∙ ap (λ xs. with_vectors len at xs items) (sym (take_more rows i [] (omega arith)))
