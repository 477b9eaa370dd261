use Rattle.std.proofs.Common.{◌<◌, ◌≤◌, ◌-◌, get_or}
use Rattle.zarrs_chunk.specs.Levels.{AreWhole}
use Rattle.zarrs_chunk.proofs.boxes.outer_axes.Given as goal

abbrev pub invariant-loop-index : goal.invariant-loop-index
invariant-loop-index l = record {
  below : l.axes ≤ l.index;
  partial : 0 < l.axes → get_or l.lengths (l.axes - 1) 0 < get_or l.sizes (l.axes - 1) 0;
  whole : AreWhole l.axes l.index l.sizes l.starts l.lengths;
}
