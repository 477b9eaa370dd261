use Rattle.std.proofs.Common.{◌≡◌, ◌+◌, ◌∷◌, [], drop}
use Rattle.zarrs_array_to_array.specs.Strides.{IsRoomy}
use Rattle.zarrs_array_to_array.specs.Axes.{behind, reach}
use Rattle.zarrs_array_to_array.proofs.transpose.axis.places_over.Given as goal

abbrev pub invariant-loop-axis : goal.invariant-loop-axis
invariant-loop-axis l = record {
  level : behind (drop l.axis-index l.axes) l.places.items ≡ behind l.axes (0 ∷ []);
  room : IsRoomy (reach l.axes + 1) (reach (drop l.axis-index l.axes)) l.places.items;
}
