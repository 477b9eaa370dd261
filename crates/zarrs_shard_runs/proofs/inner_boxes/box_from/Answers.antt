use Rattle.std.proofs.Common.{◌<◌, ◌^◌, arith, ap, ◌∙◌}
use Rattle.std.specs.List.{All}
use Rattle.std.proofs.lemmas.List.{get_or_default}
use Rattle.zarrs_chunk.specs.ArraySubset.{subset_of_start_shape}
use Rattle.zarrs_shard_runs.proofs.InnerStarts.{box_made}
use Rattle.zarrs_shard_runs.proofs.inner_boxes.box_from.Goals as goal

pub unreachable-requires : goal.unreachable-requires
unreachable-requires c =
    let sizes = c.args.sizes.now in
    let fits : All (λ size. size < 2 ^ 64) sizes = λ k d l. rw (get_or_default sizes k d 0 l) (let f = c.type_inv.sizes k in omega (arith, f)) in
    let made = box_made sizes c.args.starts.items c.args.lengths.now c.requires.inside fits in
    let answer = c.new_with_start_shape.ensures.answer ∙ ap (subset_of_start_shape c.args.starts.items) (c.in_ok-lengths.ensures {u = tt}).items ∙ made in
    cc (answer, c.in-Err.is)
