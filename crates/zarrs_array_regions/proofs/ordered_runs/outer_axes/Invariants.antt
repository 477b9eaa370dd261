use Rattle.std.proofs.Common.{◌<◌, ◌≤◌, ◌-◌, get_or}
use Rattle.zarrs_chunk.specs.Levels.{AreWhole}
use Rattle.zarrs_array_to_array.specs.Orders.{permuted}
use Rattle.zarrs_array_regions.proofs.ordered_runs.outer_axes.Given as goal

abbrev pub invariant-loop-index : goal.invariant-loop-index
invariant-loop-index l = record {
  below : l.axes ≤ l.index;
  partial : 0 < l.axes → get_or (permuted l.order l.lengths) (l.axes - 1) 0 < get_or (permuted l.order l.sizes) (l.axes - 1) 0;
  whole : AreWhole l.axes l.index (permuted l.order l.sizes) (permuted l.order l.starts) (permuted l.order l.lengths);
}
