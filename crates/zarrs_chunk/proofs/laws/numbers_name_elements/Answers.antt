use Rattle.zarrs_chunk.proofs.Inside.{row_major-below}
use Rattle.zarrs_chunk.proofs.NumberLaws.{same_tuple}
use Rattle.zarrs_chunk.proofs.NumberedTuples.{tuple_of_number-inside, row_major-tuple_of_number, tuple_of_number-row_major, box_tuples-numbered}
use Rattle.zarrs_chunk.proofs.Rising.{whole_places}
use Rattle.zarrs_chunk.proofs.laws.numbers_name_elements.Goals as goal

pub returns-clause-below : goal.returns-clause-below
returns-clause-below c = λ sizes tuple h. row_major-below sizes tuple h

pub returns-clause-unique : goal.returns-clause-unique
returns-clause-unique c = λ sizes one other p q e. same_tuple sizes one other p q e

pub returns-clause-counted : goal.returns-clause-counted
returns-clause-counted c = λ sizes. whole_places sizes

pub returns-clause-inside : goal.returns-clause-inside
returns-clause-inside c = λ sizes number h. tuple_of_number-inside sizes number h

pub returns-clause-named : goal.returns-clause-named
returns-clause-named c = λ sizes number h. row_major-tuple_of_number sizes number h

pub returns-clause-found : goal.returns-clause-found
returns-clause-found c = λ sizes tuple h. tuple_of_number-row_major sizes tuple h

pub returns-clause-in_box : goal.returns-clause-in_box
returns-clause-in_box c = λ starts lengths e. box_tuples-numbered starts lengths e
