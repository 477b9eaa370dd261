use Rattle.std.proofs.Common.{◌≡◌, map, take}
use Rattle.zarrs_chunk.specs.Levels.{rows_behind}
use Rattle.zarrs_chunk.specs.Rows.{row_at}
use Rattle.zarrs_chunk.proofs.rows.row_runs.Given as goal

abbrev pub invariant-loop-front : goal.invariant-loop-front
invariant-loop-front l = l.runs.items ≡ map (row_at l.row) (rows_behind l.size l.start l.len (take l.front-index l.fronts))
