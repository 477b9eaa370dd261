use Rattle.std.proofs.Common.{rules}
use Rattle.zarrs_chunk.proofs.BoxTuples.{length-box_tuples}
use Rattle.zarrs_chunk.proofs.array_subset.ArraySubset.num_elements.Goals as goal

pub returns-clause-tuples : goal.returns-clause-tuples
returns-clause-tuples c =
    let same = length-box_tuples c.self.inside.starts.items c.self.inside.lengths.items c.self.invariant.axes in
    rw (← c.self.view_is, same) (search rules)
