use Rattle.zarrs_chunk.proofs.BoxLaws.{from_box, into_box, box_inside_by_axis, tuples_of_box_inside}
use Rattle.zarrs_chunk.proofs.NumberLaws.{inside_by_axis}
use Rattle.zarrs_chunk.proofs.laws.tuples_go_by_axis.Goals as goal

pub returns-clause-in_box : goal.returns-clause-in_box
returns-clause-in_box c = λ starts lengths tuple e. (from_box starts lengths tuple e, into_box starts lengths tuple e)

pub returns-clause-in_shape : goal.returns-clause-in_shape
returns-clause-in_shape c = λ sizes tuple. inside_by_axis sizes tuple

pub returns-clause-box_in_shape : goal.returns-clause-box_in_shape
returns-clause-box_in_shape c = λ sizes starts lengths. box_inside_by_axis sizes starts lengths

pub returns-clause-inside : goal.returns-clause-inside
returns-clause-inside c = λ sizes starts lengths tuple h t. tuples_of_box_inside sizes starts lengths tuple h t
