use Rattle.std.proofs.Common.{arith, sym}
use Rattle.zarrs_chunk.proofs.LentTuples.{rows_of_other_axes}
use Rattle.zarrs_chunk.proofs.index_tuples.IndexTuplesTupleList.have_axes.Goals as goal

pub returns-else-self-eq0 : goal.returns-else-self-eq0
returns-else-self-eq0 c =
    let tuples = c.self.inside in
    rw (← c.self.view_is) (record { value = sym (rows_of_other_axes tuples.axes tuples.count c.args.axes tuples.numbers.now (omega arith) c.self.invariant) })
