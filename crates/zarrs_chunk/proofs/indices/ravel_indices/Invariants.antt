use Rattle.std.proofs.Common.{◌≡◌, ◌<◌, ◌^◌, drop}
use Rattle.zarrs_chunk.specs.Levels.{number_behind}
use Rattle.zarrs_chunk.specs.Tuples.{row_major}
use Rattle.zarrs_chunk.proofs.indices.ravel_indices.Given as goal

abbrev pub invariant-loop-axis : goal.invariant-loop-axis
invariant-loop-axis l = record {
  number : number_behind l.number (drop l.axis l.sizes) (drop l.axis l.indices) ≡ row_major l.sizes l.indices;
  fits : l.number < 2 ^ 64;
}
