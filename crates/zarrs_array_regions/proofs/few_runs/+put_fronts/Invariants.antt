use Rattle.std.proofs.Common.{◌≡◌, ◌≤◌, ◌++◌, map, length, drop}
use Rattle.std.specs.List.{range_with_len}
use Rattle.arrayvec.specs.ArrayVec.{array_vec_len}
use Rattle.zarrs_chunk.specs.Rows.{row_at}
use Rattle.zarrs_array_regions.specs.OrderedRuns.{fronts_over}
use Rattle.zarrs_array_regions.proofs.few_runs.+put_fronts.Given as goal

abbrev pub decreases-put_fronts : goal.decreases-put_fronts
decreases-put_fronts l = length l.order.now

abbrev pub invariant-loop-index : goal.invariant-loop-index
invariant-loop-index l = record {
  rows : l.out.items ≡ l.initial.out.items ++ map (row_at l.row) (fronts_over (drop 1 l.order) l.sizes l.starts l.lengths (range_with_len l.first l.index));
  len : array_vec_len l.out ≤ 15;
}
