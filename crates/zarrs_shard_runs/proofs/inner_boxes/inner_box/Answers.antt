use Rattle.std.proofs.Common.{◌≡◌, ◌<◌, true, ap, subst, sym, ◌∙◌}
use Rattle.std.specs.List.{All}
use Rattle.std.specs.Prelude.{IfSome, is_some}
use Rattle.zarrs_array_to_array.proofs.BoxNumbers.{factors_positive}
use Rattle.zarrs_chain_meaning.specs.sharding.InnerChunks.{grid}
use Rattle.zarrs_grid.specs.ChunkTuples.{quotients, remainders}
use Rattle.zarrs_chunk.specs.ChunkShape.{product}
use Rattle.zarrs_chunk.specs.Tuples.{is_box_inside, row_major}
use Rattle.zarrs_shard_runs.specs.InnerBox.{lies_in_one}
use Rattle.zarrs_shard_runs.proofs.InnerCells.{inside_one, is_inner_box}
use Rattle.zarrs_shard_runs.proofs.inner_boxes.inner_box.Goals as goal

pub box_from-requires : goal.box_from-requires
box_from-requires c =
    let parts = c.as_slice-parts.result.now in
    let starts = c.start.result.now in
    let lengths = c.shape-lengths.result.now in
    let filled = factors_positive lengths (subst (λ xs. 0 < product xs) (sym c.shape-lengths.ensures.value) c.requires.filled) in
    let one = sym (c.in_ok-found.ensures {u = tt}).found ∙ ap is_some c.in-Some.is in
    let start = subst (λ x. IfSome x (λ it. it.1.items ≡ remainders parts starts)) c.in-Some.is (c.in_ok-found.ensures {u = tt}).start in
    record { inside = subst (λ xs. is_box_inside parts xs lengths ≡ true) (sym start) (inside_one parts starts lengths c.as_slice-parts.ensures.positive filled one) }

pub returns-clause-one : goal.returns-clause-one
returns-clause-one c =
    let parts = c.as_slice-parts.result.now in
    let sizes = c.as_slice-sizes.result.now in
    let starts = c.start.result.now in
    let p = c.as_slice-parts.ensures.value in
    let o = c.as_slice-sizes.ensures.value in
    let s = c.start.ensures.value in
    let l = c.shape-lengths.ensures.value in
    let filled = factors_positive c.args.region.now.lengths c.requires.filled in
    let one = (λ i. lies_in_one (sym p i) (sym s i) (sym l i)) ∙ sym (c.in_ok-found.ensures {u = tt}).found ∙ ap is_some c.in-Some.is in
    let number = subst (λ x. IfSome x (λ it. it.0 ≡ row_major (grid parts sizes) (quotients parts starts))) c.in-Some.is (c.in_ok-found.ensures {u = tt}).number in
    let start = subst (λ x. IfSome x (λ it. it.1.items ≡ remainders parts starts)) c.in-Some.is (c.in_ok-found.ensures {u = tt}).start in
    let made = (c.in_ok-region.ensures {u = tt}).made in
    is_inner_box c.args.inner.now c.args.shape.now c.args.region.now c.in_ok-region.region c.in-Some.found.0 c.requires.divided (subst (All (λ part. 0 < part)) p c.as_slice-parts.ensures.positive) c.requires.inside filled one
    (number ∙ (λ i. row_major (grid (p i) (o i)) (quotients (p i) (s i))))
    (made ∙ (λ i. record { starts = (start ∙ (λ j. remainders (p j) (s j))) i; lengths = l i }))
