use Rattle.std.proofs.Common.{◌∙◌, sym}
use Rattle.zarrs_chunk.proofs.LentTuples.{row_at, row_ends}
use Rattle.zarrs_chunk.proofs.index_tuples.IndexTuplesTupleList.tuple.Goals as goal

pub row-requires : goal.row-requires
row-requires c =
    let tuples = c.self.inside in
    let known = rw (← c.self.view_is) at c.requires.known in
    record { ends = row_ends tuples.axes tuples.count c.args.index tuples.numbers.now c.self.invariant known }

pub returns : goal.returns
returns c =
    let tuples = c.self.inside in
    let known = rw (← c.self.view_is) at c.requires.known in
    rw (← c.self.view_is) (record { value = c.row.ensures.value ∙ sym (row_at tuples.axes tuples.count c.args.index tuples.numbers.now known) })
