use Rattle.std.proofs.Common.{◌≡◌, ◌≤◌, drop, length}
use Rattle.zarrs_chunk.specs.ChunkShape.{product}
use Rattle.zarrs_array_to_array.specs.Strides.{strides}
use Rattle.zarrs_array_to_array.proofs.transpose.strides.put_strides.Given as goal

abbrev pub invariant-loop-axis : goal.invariant-loop-axis
invariant-loop-axis l = record {
  step : l.step ≡ product (drop l.axis l.sizes);
  done : drop l.axis l.steps ≡ strides (drop l.axis l.sizes);
  len : length l.steps ≡ length l.sizes;
  axes : l.axis ≤ length l.sizes;
}

abbrev pub decreases-loop-axis : goal.decreases-loop-axis
decreases-loop-axis l = l.axis
