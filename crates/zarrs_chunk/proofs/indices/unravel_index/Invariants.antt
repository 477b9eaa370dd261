use Rattle.std.proofs.Common.{◌≡◌, ◌≤◌, drop, length, true}
use Rattle.zarrs_chunk.specs.Levels.{number_behind}
use Rattle.zarrs_chunk.specs.Tuples.{is_tuple_inside}
use Rattle.zarrs_chunk.proofs.indices.unravel_index.Given as goal

abbrev pub invariant-loop-axis : goal.invariant-loop-axis
invariant-loop-axis l = record {
  number : number_behind l.rest (drop l.axis l.sizes) (drop l.axis l.indices.items) ≡ l.index;
  inside : is_tuple_inside (drop l.axis l.sizes) (drop l.axis l.indices.items) ≡ true;
  len : length l.indices.items ≡ length l.sizes;
  axes : l.axis ≤ length l.sizes;
}

abbrev pub decreases-loop-axis : goal.decreases-loop-axis
decreases-loop-axis l = l.axis
