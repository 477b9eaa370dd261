use Rattle.std.proofs.Common.{◌≡◌, ◌*◌, ◌++◌, length, drop}
use Rattle.std.specs.List.{flat_map}
use Rattle.zarrs_array_bytes.specs.Elements.{piece}
use Rattle.zarrs_array_bytes.specs.Turned.{turned_bytes}
use Rattle.zarrs_array_to_array.specs.Strides.{row}
use Rattle.zarrs_array_to_array.specs.Axes.{behind}
use Rattle.zarrs_array_to_array.proofs.transpose.planes.+put_tuples.Given as goal

abbrev pub decreases-put_tuples : goal.decreases-put_tuples
decreases-put_tuples l = length l.axes.now

abbrev pub invariant-loop-index : goal.invariant-loop-index
invariant-loop-index l =
    l.items ≡ turned_bytes l.turn (flat_map (piece l.size l.bytes) (behind (drop 1 l.axes) (row l.front l.first.step l.index))) ++ drop (l.index * l.part) l.initial.items
