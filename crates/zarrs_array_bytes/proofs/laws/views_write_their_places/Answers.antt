use Rattle.zarrs_array_bytes.proofs.ViewLaw.{subset_view, written_read, others_stay}
use Rattle.zarrs_array_bytes.proofs.laws.views_write_their_places.Goals as goal

pub returns-clause-subsets : goal.returns-clause-subsets
returns-clause-subsets c = λ bytes size sizes region view h. subset_view bytes size sizes region view h

pub returns-clause-written : goal.returns-clause-written
returns-clause-written c = λ view new v fit. written_read view new v fit

pub returns-clause-others : goal.returns-clause-others
returns-clause-others c = λ view new place v fit l free. others_stay view new place v fit l free
