use Rattle.std.proofs.Common.{◌≡◌, ◌++◌}
use Rattle.zarrs_array_to_array.specs.Strides.{row}
use Rattle.zarrs_array_to_array.proofs.transpose.strides.write_row.Given as goal

abbrev pub invariant-loop-index : goal.invariant-loop-index
invariant-loop-index l = l.rows.items ≡ l.initial.rows.items ++ row l.front l.step l.index
