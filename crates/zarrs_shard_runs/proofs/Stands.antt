-- Where places of one inner chunk stand, one after another.
use Rattle.std.proofs.Common.{◌≡◌, ℕ, zero, suc, ◌+◌, ◌-◌, ◌*◌, ◌/◌, ◌%◌, ◌<◌, ◌≤◌, ◌++◌, true, List, [], ◌∷◌, length, map, take, get_or, arith, refl, ap, sym, ◌∙◌}
use Rattle.std.specs.List.{All, range_with_len}
use Rattle.std.proofs.Math.Nat.{add-mul-mod_self_right}
use Rattle.std.proofs.lemmas.List.{length-append, map-append}
use Rattle.std.proofs.lemmas.List.Elements.{All-head}
use Rattle.std.proofs.lemmas.List.FromFn.{length-range_with_len}
use Rattle.std.proofs.lemmas.Nat.{div-add-mod', mod_below}
use Rattle.zarrs_chain_meaning.proofs.InnerChunks.{is_cut}
use Rattle.zarrs_chain_meaning.specs.sharding.InnerChunks.{is_divided, inner_chunk_of, place_inside}
use Rattle.zarrs_chunk.proofs.CountedRuns.{joined_runs-take_more}
use Rattle.zarrs_chunk.specs.ChunkShape.{product}
use Rattle.zarrs_chunk.specs.Runs.{AreFilled, joined_runs}
use Rattle.zarrs_shard_runs.specs.BlockRows.{AreBlocks, StandsAt}
use Rattle.zarrs_shard_runs.specs.CutRuns.{cell, cells_at}
use Rattle.zarrs_shard_runs.specs.declared.block_rows.Blocks.{Blocks}
use Rattle.zarrs_shard_runs.specs.declared.one_inner_chunk.Stand.{Stand}
use Rattle.zarrs_shard_runs.proofs.CellSteps.{inner_within}
use Rattle.zarrs_shard_runs.proofs.CutSteps.{block_cells}
use Rattle.zarrs_shard_runs.proofs.Numbers.{stay_mod}

-- ---- one stand

-- what is left of a divisor behind a remainder
rest_of : (place divisor : ℕ) → 0 < divisor → place % divisor + (divisor - place % divisor) ≡ divisor
rest_of place divisor s = let low = mod_below place divisor s in omega (arith, low)

pub stands_at : (shape sizes : List ℕ) (blocks : Blocks) (place number inside : ℕ) → AreBlocks shape sizes blocks → (number, inside) ≡ cell shape sizes place
    → StandsAt shape sizes blocks place (record { place = place; number = number; inside = inside; room = blocks.block - place % blocks.block; left = blocks.band - place % blocks.band })
stands_at shape sizes blocks place number inside are e = record {
  same = refl;
  number = λ i. (e i).0;
  inside = λ i. (e i).1;
  room = rest_of place blocks.block are.block.some;
  left = rest_of place blocks.band are.band.some;
}

-- a row below
same_block : (place row block : ℕ) → row % block ≡ 0 → (place + row) % block ≡ place % block
same_block place row block e =
    let d = div-add-mod' row block in
    let f : place + row ≡ place + row / block * block = omega (arith, d, e) in
    ap (λ n. n % block) f ∙ add-mul-mod_self_right place (row / block) block

pub stands_below : (shape sizes : List ℕ) (blocks : Blocks) (from : Stand) (place : ℕ) → AreBlocks shape sizes blocks → StandsAt shape sizes blocks from.place from → blocks.row < from.left → place ≡ from.place + blocks.row
    → StandsAt shape sizes blocks place (record { place = place; number = from.number; inside = from.inside + blocks.block; room = from.room; left = from.left - blocks.row })
stands_below shape sizes blocks from place are at more e =
    let left = at.left in
    let within : from.place % blocks.band + blocks.row < blocks.band = omega (arith, left, more) in
    let here : (from.place + blocks.row) % blocks.band ≡ from.place % blocks.band + blocks.row = stay_mod from.place blocks.row blocks.band within in
    record {
      same = refl;
      number = at.number ∙ sym (are.band.number from.place within) ∙ ap (inner_chunk_of shape sizes) (sym e);
      inside = ap (λ n. n + blocks.block) at.inside ∙ sym (are.band.inside from.place within) ∙ ap (place_inside shape sizes) (sym e);
      room = ap (λ n. n % blocks.block + from.room) e ∙ ap (λ n. n + from.room) (same_block from.place blocks.row blocks.block are.rows) ∙ at.room;
      left = ap (λ n. n % blocks.band + (from.left - blocks.row)) e ∙ ap (λ n. n + (from.left - blocks.row)) here ∙ omega (arith, left, more);
    }

-- the place in its inner chunk is below the number of the chunk's elements
pub below_inside : (shape sizes : List ℕ) (blocks : Blocks) (from : Stand) (place : ℕ) → is_divided shape sizes ≡ true → All (λ part. 0 < part) shape → All (λ size. 0 < size) sizes → AreBlocks shape sizes blocks → StandsAt shape sizes blocks from.place from → blocks.row < from.left → place ≡ from.place + blocks.row
    → place < product sizes → from.inside + blocks.block < product sizes
below_inside shape sizes blocks from place d p q are at more e l =
    let next = stands_below shape sizes blocks from place are at more e in
    let below = (is_cut shape sizes p d).inside_below place l in
    let within = inner_within shape sizes d p q in
    let inside = next.inside in
    omega (arith, inside, below, within)

-- ---- a run in its block

-- it ends within its inner chunk
pub run_within : (shape sizes : List ℕ) (blocks : Blocks) (it : Stand) (start len : ℕ) → is_divided shape sizes ≡ true → All (λ part. 0 < part) shape → AreBlocks shape sizes blocks → StandsAt shape sizes blocks start it → len ≤ it.room → 0 < len → start + len ≤ product sizes → it.inside + len ≤ product shape
run_within shape sizes blocks it start zero d p are at room some low = absurd (omega (arith, some))
run_within shape sizes blocks it start (suc more) d p are at room some low =
    let r = at.room in
    let last = are.block.inside start more (omega (arith, room, r)) in
    let below = (is_cut shape sizes p d).inside_below (start + more) (omega (arith, low)) in
    let inside = at.inside in
    omega (arith, inside, last, below)

-- its places are those from its own on
run_cells : (shape sizes : List ℕ) (blocks : Blocks) (it : Stand) (start len : ℕ) → AreBlocks shape sizes blocks → StandsAt shape sizes blocks start it → len ≤ it.room → map (cell shape sizes) (range_with_len start len) ≡ cells_at it.number (range_with_len it.inside len)
run_cells shape sizes blocks it start len are at room =
    let r = at.room in
    block_cells shape sizes blocks.block start len are.block (omega (arith, room, r)) ∙ (λ i. cells_at (sym at.number i) (range_with_len (sym at.inside i) len))

-- behind those of others
pub cells_more : (shape sizes : List ℕ) (blocks : Blocks) (it : Stand) (number : ℕ) (runs moved after : List (ℕ × ℕ)) (index : ℕ) → AreBlocks shape sizes blocks → StandsAt shape sizes blocks (get_or runs index (0, 0)).0 it → (get_or runs index (0, 0)).1 ≤ it.room → it.number ≡ number → index < length runs
    → map (cell shape sizes) (joined_runs (take index runs)) ≡ cells_at number (joined_runs moved) → joined_runs after ≡ joined_runs moved ++ range_with_len it.inside (get_or runs index (0, 0)).1
    → map (cell shape sizes) (joined_runs (take (index + 1) runs)) ≡ cells_at number (joined_runs after)
cells_more shape sizes blocks it number runs moved after index are at room same here before e =
    let start = (get_or runs index (0, 0)).0 in
    let len = (get_or runs index (0, 0)).1 in
    let more = run_cells shape sizes blocks it start len are at room ∙ ap (λ n. cells_at n (range_with_len it.inside len)) same in
    ap (map (cell shape sizes)) (joined_runs-take_more runs index here)
    ∙ map-append (cell shape sizes) (joined_runs (take index runs)) (range_with_len start len)
    ∙ (λ i. before i ++ more i)
    ∙ sym (map-append (λ place. (number, place)) (joined_runs moved) (range_with_len it.inside len))
    ∙ ap (cells_at number) (sym e)

-- ---- all of them

pub some_places : (runs : List (ℕ × ℕ)) → 0 < length runs → AreFilled runs → 0 < length (joined_runs runs)
some_places [] l f = absurd (omega (arith, l))
some_places (run ∷ runs) l f =
    let first = All-head (λ (run : ℕ × ℕ). 0 < run.1) run runs f in
    let long = length-append (range_with_len run.0 run.1) (joined_runs runs) in
    let own = length-range_with_len run.0 run.1 in
    omega (arith, first, long, own)
