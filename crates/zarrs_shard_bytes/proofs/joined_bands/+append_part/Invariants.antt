use Rattle.std.proofs.Common.{◌+◌, ◌*◌, ◌/◌, ◌%◌, drop, length}
use Rattle.std.specs.List.{flat_map, range_with_len}
use Rattle.zarrs_array_bytes.specs.Tight.{IsTight}
use Rattle.zarrs_shard_bytes.specs.Bands.{chunks_of, part_elements}
use Rattle.zarrs_shard_bytes.proofs.Bands.{JoinsTo}
use Rattle.zarrs_shard_bytes.proofs.joined_bands.+append_part.Given as goal

abbrev pub decreases-append_part : goal.decreases-append_part
decreases-append_part l = length l.shape.now

abbrev pub invariant-loop-index : goal.invariant-loop-index
invariant-loop-index l = record {
  joins : JoinsTo l.data_type l.fn.done l.fn.elements (flat_map (λ index. part_elements (chunks_of l.data_type l.whole l.contents) (l.number + index / l.part * l.count) (l.first + index % l.part * l.each) (drop 1 l.shape) (drop 1 l.sizes)) (range_with_len 0 l.index)) (l.index * (l.count * l.each)) l.elements;
  tight : IsTight l.data_type l.elements;
}
