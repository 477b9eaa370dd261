use Rattle.zarrs_array_to_array.proofs.Indexers.{lists_have_axes}
use Rattle.zarrs_array_to_array.proofs.transpose.ordered_indexer.ordered_list.Goals as goal

pub ordered_tuples-requires-clause-axes : goal.ordered_tuples-requires-clause-axes
ordered_tuples-requires-clause-axes g c =
    lists_have_axes c.args.order.now c.args.sizes.now (g.T.TupleList.tuples c.args.tuples.now) c.requires.axes c.requires.inside
