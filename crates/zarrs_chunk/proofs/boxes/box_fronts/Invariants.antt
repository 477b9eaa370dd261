use Rattle.std.proofs.Common.{◌≡◌, drop}
use Rattle.zarrs_chunk.specs.ChunkShape.{product}
use Rattle.zarrs_chunk.specs.Levels.{numbers_behind, box_places, IsFitting}
use Rattle.zarrs_chunk.proofs.boxes.box_fronts.Given as goal

abbrev pub invariant-loop-axis : goal.invariant-loop-axis
invariant-loop-axis l = record {
  places : numbers_behind (drop l.axis l.sizes) (drop l.axis l.starts) (drop l.axis l.lengths) l.fronts.items ≡ box_places l.sizes l.starts l.lengths;
  fits : IsFitting (product l.sizes) (product (drop l.axis l.sizes)) l.fronts.items;
}
