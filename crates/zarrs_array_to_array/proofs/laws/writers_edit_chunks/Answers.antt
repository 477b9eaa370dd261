use Rattle.zarrs_array_to_array.proofs.Writers.{chunk_edited}
use Rattle.zarrs_array_to_array.proofs.laws.writers_edit_chunks.Goals as goal

pub returns : goal.returns
returns c = record {
  chunk = λ codec sizes m in_part input type stored chunk value_of is positive takes count by. chunk_edited codec sizes m is positive takes in_part input type stored chunk value_of count by;
}
