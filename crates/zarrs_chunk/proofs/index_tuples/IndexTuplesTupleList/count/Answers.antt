use Rattle.std.proofs.Common.{sym}
use Rattle.zarrs_chunk.proofs.LentTuples.{length-rows}
use Rattle.zarrs_chunk.proofs.index_tuples.IndexTuplesTupleList.count.Goals as goal

pub returns : goal.returns
returns c =
    let tuples = c.self.inside in
    rw (← c.self.view_is) (record { count = sym (length-rows tuples.axes tuples.count tuples.numbers.now) })
