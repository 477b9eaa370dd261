use Rattle.std.proofs.Common.{◌≡◌, take}
use Rattle.zarrs_array_to_array.specs.Strides.{next_rows}
use Rattle.zarrs_array_to_array.proofs.transpose.strides.write_rows.Given as goal

abbrev pub invariant-loop-front : goal.invariant-loop-front
invariant-loop-front l = l.rows.items ≡ next_rows l.step l.size (take l.front-index l.fronts)
