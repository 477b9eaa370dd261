use Rattle.std.proofs.Common.{◌≡◌, ℕ, Option, Some, List, ap, sym, ◌∙◌}
use Rattle.std.specs.Prelude.{option_map}
use Rattle.zarrs_chunk.specs.ChunkShape.{shape_of}
use Rattle.zarrs_array_to_array.proofs.Transposition.{shape_of-positive}
use Rattle.zarrs_grid.specs.ChunkTuples.{quotients}
use Rattle.zarrs_chain_meaning.specs.sharding.ShardSteps.{divided}
use Rattle.zarrs_chain_meaning.proofs.InnerChunks.{is_cut, grid_positive}
use Rattle.zarrs_chain_meaning.proofs.ShardGrid.{divided_is, not_none}
use Rattle.zarrs_chain_meaning.proofs.sharding.inner_chunks.inner_chunk_grid.Goals as goal

pub unreachable-requires : goal.unreachable-requires
unreachable-requires c =
    let parts = c.as_slice-parts.result.now in
    let sizes = c.as_slice-sizes.result.now in
    let e : ◌≡◌ {A = Option (List ℕ)} (Some c.in-Some.counts.items) (divided parts sizes) = sym (ap (option_map (λ v. v.items)) c.in-Some.is) ∙ (c.in_ok-counts.ensures {u = tt}).value in
    let d = divided_is parts sizes c.in-Some.counts.items e in
    let positive = grid_positive parts sizes c.as_slice-sizes.ensures.positive (is_cut parts sizes c.as_slice-parts.ensures.positive d.0) in
    not_none (quotients parts sizes) (sym c.in-None-new.is ∙ c.new.ensures.answer ∙ ap shape_of d.1 ∙ shape_of-positive (quotients parts sizes) positive)
