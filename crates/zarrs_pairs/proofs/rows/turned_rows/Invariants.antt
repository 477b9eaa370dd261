use Rattle.std.proofs.Common.{◌≡◌, take, map}
use Rattle.zarrs_pairs.specs.Pairs.{turned}
use Rattle.zarrs_pairs.specs.Rows.{rows_seen}
use Rattle.zarrs_pairs.proofs.rows.turned_rows.Given as goal

abbrev pub invariant-loop-row : goal.invariant-loop-row
invariant-loop-row l = rows_seen l.other.items ≡ map turned (rows_seen (take l.row-index l.rows))
