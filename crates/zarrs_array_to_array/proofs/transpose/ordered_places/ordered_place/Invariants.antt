use Rattle.std.proofs.Common.{◌≡◌, ◌+◌, ◌*◌, ◌<◌, ◌≤◌, ℕ, get_or, drop}
use Rattle.zarrs_chunk.specs.ChunkShape.{product}
use Rattle.zarrs_chunk.specs.Levels.{number_behind}
use Rattle.zarrs_chunk.specs.Tuples.{row_major}
use Rattle.zarrs_array_to_array.specs.Orders.{permuted}
use Rattle.zarrs_array_to_array.proofs.transpose.ordered_places.ordered_place.Given as goal

abbrev pub invariant-loop-axis : goal.invariant-loop-axis
invariant-loop-axis l = record {
  place : number_behind l.place (drop l.axis-index (permuted l.order l.sizes)) (drop l.axis-index (permuted l.order l.tuple)) ≡ row_major (permuted l.order l.sizes) (permuted l.order l.tuple);
  inside : (k : ℕ) → k < l.axis-index → get_or l.tuple (get_or l.order k 0) 0 < get_or l.sizes (get_or l.order k 0) 0;
  room : (l.place + 1) * product (drop l.axis-index (permuted l.order l.sizes)) ≤ product (permuted l.order l.sizes);
}
