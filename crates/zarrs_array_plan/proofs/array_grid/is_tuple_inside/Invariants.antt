use Rattle.std.proofs.Common.{ℕ, ◌<◌, get_or}
use Rattle.zarrs_array_plan.proofs.array_grid.is_tuple_inside.Given as goal

abbrev pub invariant-loop-axis : goal.invariant-loop-axis
invariant-loop-axis l = (k : ℕ) → k < l.axis → get_or l.tuple k 0 < get_or l.sizes k 0
