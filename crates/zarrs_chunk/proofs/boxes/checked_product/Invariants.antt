use Rattle.std.proofs.Common.{◌≡◌, ◌*◌, ◌<◌, ◌^◌, drop}
use Rattle.zarrs_chunk.specs.ChunkShape.{product}
use Rattle.zarrs_chunk.proofs.boxes.checked_product.Given as goal

abbrev pub invariant-loop-size : goal.invariant-loop-size
invariant-loop-size l = record {
  is : l.count * product (drop l.size-index l.sizes) ≡ product l.sizes;
  fits : l.count < 2 ^ 64;
}
