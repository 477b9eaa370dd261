use Rattle.std.proofs.Common.{◌≡◌, map, take}
use Rattle.serde_json.specs.View.{view}
use Rattle.zarrs_metadata.specs.ReshapeConfiguration.{dim_tree}
use Rattle.zarrs_metadata.specs.ReshapeShape.{dim_of}
use Rattle.zarrs_metadata.proofs.configuration.reshape.tree_of_dims.Given as goal

abbrev pub invariant-loop-dim : goal.invariant-loop-dim
invariant-loop-dim l = map view l.items.items ≡ map dim_tree (map dim_of (take l.dim-index l.dims))
