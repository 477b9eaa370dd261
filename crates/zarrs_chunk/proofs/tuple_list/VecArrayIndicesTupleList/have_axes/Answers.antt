use Rattle.std.proofs.Common.{rules}
use Rattle.std.proofs.lemmas.List.Folds.{list_all-map}
use Rattle.zarrs_chunk.proofs.tuple_list.VecArrayIndicesTupleList.have_axes.Goals as goal

pub returns : goal.returns
returns c = record { value = simp list_all-map (search rules) }
