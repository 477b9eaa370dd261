use Rattle.std.proofs.Common.{◌≡◌, ◌*◌, drop}
use Rattle.zarrs_chunk.specs.ChunkShape.{product}
use Rattle.zarrs_array_to_array.specs.Orders.{permuted}
use Rattle.zarrs_array_regions.proofs.ordered_runs.count_elements.Given as goal

abbrev pub invariant-loop-axis : goal.invariant-loop-axis
invariant-loop-axis l = l.count * product (drop l.axis-index (permuted l.order l.sizes)) ≡ product (permuted l.order l.sizes)
