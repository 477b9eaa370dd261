use Rattle.zarrs_chunk.proofs.LentTuples.{length-rows, rows_joined, rows_of_axes}
use Rattle.zarrs_chunk.proofs.laws.numbers_make_tuples.Goals as goal

pub returns-clause-count : goal.returns-clause-count
returns-clause-count c = λ axes count numbers. length-rows axes count numbers

pub returns-clause-axes : goal.returns-clause-axes
returns-clause-axes c = λ axes count numbers e. rows_of_axes axes count numbers e

pub returns-clause-joined : goal.returns-clause-joined
returns-clause-joined c = λ axes count numbers e. rows_joined axes count numbers e
