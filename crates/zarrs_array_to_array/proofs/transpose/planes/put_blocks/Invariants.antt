use Rattle.std.proofs.Common.{◌≡◌, ◌*◌, ◌++◌, ◌≤◌, ◌-◌, drop}
use Rattle.std.specs.List.{flat_map}
use Rattle.zarrs_array_bytes.specs.Elements.{piece}
use Rattle.zarrs_array_bytes.specs.Turned.{turned_bytes}
use Rattle.zarrs_array_to_array.specs.Strides.{row}
use Rattle.zarrs_array_to_array.specs.Axes.{behind}
use Rattle.zarrs_array_to_array.proofs.transpose.planes.put_blocks.Given as goal

abbrev pub invariant-loop-done : goal.invariant-loop-done
invariant-loop-done l = record {
  written :
      l.items ≡ turned_bytes l.turn (flat_map (piece l.size l.bytes) (behind l.axes (row l.front 1 l.done))) ++ drop (l.done * l.column) l.initial.items;
  within : l.done ≤ l.count;
}

abbrev pub decreases-loop-done : goal.decreases-loop-done
decreases-loop-done l = l.count - l.done
