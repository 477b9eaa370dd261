-- One cut run more.
use Rattle.std.proofs.Common.{◌≡◌, ℕ, zero, suc, ◌+◌, ◌%◌, ◌<◌, ◌≤◌, ◌++◌, List, [], ◌∷◌, length, map, arith, refl, ap, sym, ◌∙◌, ⊎_elim}
use Rattle.std.specs.List.{range_with_len}
use Rattle.std.proofs.lemmas.Bool.{cases_lt}
use Rattle.std.proofs.lemmas.List.{append-nil, append_assoc, map-append, get_or_append_left, get_or_push, length_push}
use Rattle.std.proofs.lemmas.List.Concat.{flat_map-append}
use Rattle.std.proofs.lemmas.List.Elements.{All-push}
use Rattle.std.proofs.lemmas.List.FromFn.{fill_by_all, get_or-map-range_with_len, length-map-range_with_len}
use Rattle.zarrs_chain_meaning.specs.sharding.InnerChunks.{inner_chunk_of, place_inside, IsCut}
use Rattle.zarrs_chunk.proofs.Consecutive.{range-append}
use Rattle.zarrs_chunk.specs.ChunkShape.{product}
use Rattle.zarrs_shard_runs.specs.CutRuns.{cell, cells, cells_at, places_of_cut, IsBlock, IsCutRun, AreCut}
use Rattle.zarrs_shard_runs.specs.declared.cut_runs.CutRun.{CutRun}

-- places of one block
pub block_cells : (shape sizes : List ℕ) (block place count : ℕ) → IsBlock shape sizes block → place % block + count ≤ block
    → map (cell shape sizes) (range_with_len place count) ≡ cells_at (inner_chunk_of shape sizes place) (range_with_len (place_inside shape sizes place) count)
block_cells shape sizes block place count b l =
    let number = inner_chunk_of shape sizes place in
    let inside = place_inside shape sizes place in
    let each : ℕ → ℕ × ℕ = λ k. (number, inside + k) in
    fill_by_all each (map (cell shape sizes) (range_with_len place count)) count (0, 0) (length-map-range_with_len (cell shape sizes) place count)
    (λ k m. get_or-map-range_with_len (cell shape sizes) place count k (place + k) (0, 0) m refl ∙ (λ i. (b.number place k (omega (arith, l, m)) i, b.inside place k (omega (arith, l, m)) i)))
    ∙ sym (fill_by_all each (cells_at number (range_with_len inside count)) count (0, 0) (length-map-range_with_len (λ place. (number, place)) inside count)
    (λ k m. get_or-map-range_with_len (λ place. (number, place)) inside count k (inside + k) (0, 0) m refl))

pub cells-push : (cuts : List CutRun) (it : CutRun) → cells (cuts ++ it ∷ []) ≡ cells cuts ++ cells_at it.number (places_of_cut it)
cells-push cuts it =
    flat_map-append (λ (it : CutRun). cells_at it.number (places_of_cut it)) cuts (it ∷ []) ∙ ap (λ xs. cells cuts ++ xs) (append-nil (cells_at it.number (places_of_cut it)))

-- so many places more of a run
pub cells_more : (shape sizes : List ℕ) (block start done count number inside : ℕ) (old cuts : List CutRun) (it : CutRun) → IsBlock shape sizes block → (start + done) % block + count ≤ block → (number, inside) ≡ cell shape sizes (start + done)
    → cells_at it.number (places_of_cut it) ≡ cells_at number (range_with_len inside count)
    → cells cuts ≡ cells old ++ map (cell shape sizes) (range_with_len start done)
    → cells (cuts ++ it ∷ []) ≡ cells old ++ map (cell shape sizes) (range_with_len start (done + count))
cells_more shape sizes block start done count number inside old cuts it b l at is e =
    let here = map (cell shape sizes) (range_with_len start done) in
    let there = map (cell shape sizes) (range_with_len (start + done) count) in
    let new : cells_at it.number (places_of_cut it) ≡ there = is ∙ (λ i. cells_at (at i).0 (range_with_len (at i).1 count)) ∙ sym (block_cells shape sizes block (start + done) count b l) in
    cells-push cuts it
    ∙ (λ i. e i ++ new i)
    ∙ append_assoc (cells old) here there
    ∙ ap (λ xs. cells old ++ xs) (sym (map-append (cell shape sizes) (range_with_len start done) (range_with_len (start + done) count)) ∙ ap (map (cell shape sizes)) (sym (range-append start done count)))

-- what is cut off is a cut run
pub is_cut_run : (shape sizes : List ℕ) (block place count number inside : ℕ) (it : CutRun) → IsCut shape sizes → IsBlock shape sizes block → place % block + count ≤ block → 0 < count → place + count ≤ product sizes → (number, inside) ≡ cell shape sizes place
    → it.number ≡ number → it.start ≡ inside → it.len ≡ count → IsCutRun shape sizes it
is_cut_run shape sizes block place zero number inside it cut b l some low at n s c = absurd (omega (arith, some))
is_cut_run shape sizes block place (suc more) number inside it cut b l some low at n s c =
    let last = b.inside place more (omega (arith, l)) in
    let below = cut.inside_below (place + more) (omega (arith, low)) in
    let chunk = cut.chunk_below place (omega (arith, low)) in
    let first : number ≡ inner_chunk_of shape sizes place = λ i. (at i).0 in
    let second : inside ≡ place_inside shape sizes place = λ i. (at i).1 in
    record {
      some = omega (arith, c);
      inside = omega (arith, s, c, second, last, below);
      number = omega (arith, n, first, chunk);
    }

pub cut-push : (shape sizes : List ℕ) (cuts : List CutRun) (it : CutRun) → AreCut shape sizes cuts → IsCutRun shape sizes it → it.index ≡ length cuts → AreCut shape sizes (cuts ++ it ∷ [])
cut-push shape sizes cuts it are is e = record {
  each = All-push (IsCutRun shape sizes) cuts it are.each is;
  indexed = λ k d l.
      ⊎_elim
      (λ (m : k < length cuts). ap (λ (x : CutRun). x.index) (get_or_append_left cuts (it ∷ []) d k m) ∙ are.indexed k d m)
      (λ (m : length cuts ≤ k).
      let at : length cuts ≡ k = let long = length_push cuts it in omega (arith, l, long, m) in
      ap (λ (x : CutRun). x.index) (get_or_push cuts it d k at) ∙ e ∙ at)
      (cases_lt k (length cuts));
}
