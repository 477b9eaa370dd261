use Rattle.std.proofs.Common.{◌≡◌, ◌++◌, ◌+◌, ◌≤◌, map}
use Rattle.std.specs.List.{range_with_len}
use Rattle.arrayvec.specs.ArrayVec.{array_vec_len}
use Rattle.zarrs_chunk.specs.Rows.{row_at}
use Rattle.zarrs_array_regions.proofs.few_runs.put_rows.Given as goal

abbrev pub invariant-loop-index : goal.invariant-loop-index
invariant-loop-index l = record {
  rows : l.out.items ≡ l.initial.out.items ++ map (row_at l.row) (range_with_len l.first l.index);
  len : array_vec_len l.out + l.count ≤ 15 + l.index;
}
