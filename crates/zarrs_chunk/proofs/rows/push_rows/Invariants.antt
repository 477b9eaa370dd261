use Rattle.std.proofs.Common.{◌≡◌, ◌++◌, map}
use Rattle.std.specs.List.{range_with_len}
use Rattle.zarrs_chunk.specs.Rows.{row_at}
use Rattle.zarrs_chunk.proofs.rows.push_rows.Given as goal

abbrev pub invariant-loop-index : goal.invariant-loop-index
invariant-loop-index l = l.out.items ≡ l.initial.out.items ++ map (row_at l.row) (range_with_len l.first l.index)
