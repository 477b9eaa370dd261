use Rattle.std.proofs.Common.{◌≡◌, ◌*◌, ◌/◌, ◌++◌, length, drop}
use Rattle.std.specs.List.{flat_map}
use Rattle.zarrs_array_to_array.specs.Strides.{row}
use Rattle.zarrs_array_to_array.specs.Axes.{behind, stretch}
use Rattle.zarrs_array_to_array.proofs.transpose.planes.+put_stretches.Given as goal

abbrev pub decreases-put_stretches : goal.decreases-put_stretches
decreases-put_stretches l = length l.axes.now

abbrev pub invariant-loop-index : goal.invariant-loop-index
invariant-loop-index l =
    l.items ≡ flat_map (stretch l.len l.size l.bytes) (behind (drop 1 l.axes) (row l.front l.first.step l.index)) ++ drop (l.index * l.part) l.initial.items
