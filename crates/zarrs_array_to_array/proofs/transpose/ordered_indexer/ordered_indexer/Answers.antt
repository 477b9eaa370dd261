use Rattle.std.proofs.Common.{◌<◌, ◌^◌, arith}
use Rattle.std.specs.List.{All}
use Rattle.std.proofs.lemmas.List.{get_or_default}
use Rattle.zarrs_array_to_array.proofs.Images.{subset_inside}
use Rattle.zarrs_array_to_array.proofs.Indexers.{box_fits, box_count}
use Rattle.zarrs_array_to_array.proofs.transpose.ordered_indexer.ordered_indexer.Goals as goal

pub ordered_box-requires-clause-fits : goal.ordered_box-requires-clause-fits
ordered_box-requires-clause-fits c =
    let sizes = c.args.sizes.now in
    let fits : All (λ size. size < 2 ^ 64) sizes = λ k d l. rw (get_or_default sizes k d 0 l) (let f = c.type_inv.sizes k in omega (arith, f)) in
    let inside = rw c.in-Subset.is at c.requires.inside in
    box_fits sizes c.in-Subset.subset.starts c.in-Subset.subset.lengths (subset_inside c.in-Subset.subset sizes inside) fits

pub ordered_box-requires-clause-count : goal.ordered_box-requires-clause-count
ordered_box-requires-clause-count c =
    let inside = rw c.in-Subset.is at c.requires.inside in
    let count = rw c.in-Subset.is at c.requires.count in
    box_count c.args.sizes.now c.in-Subset.subset c.args.count (subset_inside c.in-Subset.subset c.args.sizes.now inside) count
