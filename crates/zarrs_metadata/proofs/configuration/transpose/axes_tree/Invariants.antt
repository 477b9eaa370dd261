use Rattle.std.proofs.Common.{◌≡◌, map, take}
use Rattle.serde_json.specs.Data.{number, unsigned}
use Rattle.serde_json.specs.View.{view}
use Rattle.zarrs_metadata.proofs.configuration.transpose.axes_tree.Given as goal

abbrev pub invariant-loop-axis : goal.invariant-loop-axis
invariant-loop-axis l = map view l.items.items ≡ map (λ n. number (unsigned n)) (take l.axis-index l.axes)
