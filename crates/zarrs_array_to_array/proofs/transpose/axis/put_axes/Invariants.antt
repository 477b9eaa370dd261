use Rattle.std.proofs.Common.{◌≡◌, ◌≤◌, ◌+◌, ◌∷◌, [], length, take}
use Rattle.zarrs_array_to_array.specs.Axes.{behind, reach, axes_of}
use Rattle.zarrs_array_to_array.proofs.transpose.axis.put_axes.Given as goal

abbrev pub invariant-loop-axis : goal.invariant-loop-axis
invariant-loop-axis l = record {
  places : behind (take l.count l.axes) (0 ∷ []) ≡ behind (axes_of l.sizes l.steps (take l.axis-index l.order)) (0 ∷ []);
  reached : reach (take l.count l.axes) ≤ reach (axes_of l.sizes l.steps (take l.axis-index l.order));
  plane : 2 ≤ l.count;
  count : l.count ≤ l.axis-index + 2;
  room : length l.order + 2 ≤ length l.axes;
}
