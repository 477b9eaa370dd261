use Rattle.std.proofs.Common.{rules, ◌≡◌, true, arith, length, sym}
use Rattle.zarrs_chunk.specs.Numbering.{are_of_axes}
use Rattle.zarrs_chunk.proofs.NoAxes.{none_refused}
use Rattle.zarrs_chunk.proofs.index_lists.check_indices.Goals as goal

pub returns-then-sizes-eq0 : goal.returns-then-sizes-eq0
returns-then-sizes-eq0 g c =
    let sizes = c.args.sizes.now in
    let tuples = g.T.TupleList.tuples c.args.tuples.now in
    let axes : are_of_axes (length sizes) tuples ≡ true = search rules in
    record { answer = sym (none_refused sizes tuples (omega arith) axes) }
