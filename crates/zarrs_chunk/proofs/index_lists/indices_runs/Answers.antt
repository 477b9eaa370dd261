use Rattle.std.proofs.Common.{ap, arith, length}
use Rattle.std.proofs.lemmas.List.{length-map}
use Rattle.zarrs_chunk.specs.Tuples.{row_major}
use Rattle.zarrs_chunk.proofs.index_lists.indices_runs.Goals as goal

pub returns-clause-count : goal.returns-clause-count
returns-clause-count g c =
    let tuples = g.T.TupleList.tuples c.args.tuples.now in
    let same = ap length c.in_ok-runs.ensures.places in
    let few = c.in_ok-runs.ensures.count in
    omega (arith, same, few, length-map tuples (row_major c.as_slice-sizes.result.now))
