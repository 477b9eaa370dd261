use Rattle.std.proofs.Common.{◌≡◌, map}
use Rattle.std.specs.List.{All, range_with_len}
use Rattle.zarrs_chunk.specs.Indices.{box_tuple}
use Rattle.zarrs_grid.specs.Parts.{IsChunkPart}
use Rattle.zarrs_grid.proofs.region_parts.parts_of.Given as goal

abbrev pub invariant-loop-number : goal.invariant-loop-number
invariant-loop-number l = record {
  chunks : map (λ part. part.chunk.items) l.parts.items ≡ map (box_tuple l.first l.counts) (range_with_len 0 l.number);
  each : All (λ part. IsChunkPart l.shape l.region part.chunk.items part) l.parts.items;
}
