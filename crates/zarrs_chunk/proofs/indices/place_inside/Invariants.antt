use Rattle.std.proofs.Common.{◌≡◌, ◌+◌, ◌*◌, ◌<◌, ◌≤◌, ℕ, get_or, drop}
use Rattle.zarrs_chunk.specs.ChunkShape.{product}
use Rattle.zarrs_chunk.specs.Levels.{number_behind}
use Rattle.zarrs_chunk.specs.Tuples.{row_major}
use Rattle.zarrs_chunk.proofs.indices.place_inside.Given as goal

abbrev pub invariant-loop-axis : goal.invariant-loop-axis
invariant-loop-axis l = record {
  place : number_behind l.place (drop l.axis l.sizes) (drop l.axis l.tuple) ≡ row_major l.sizes l.tuple;
  inside : (k : ℕ) → k < l.axis → get_or l.tuple k 0 < get_or l.sizes k 0;
  room : (l.place + 1) * product (drop l.axis l.sizes) ≤ product l.sizes;
}
