use Rattle.std.proofs.Common.{◌≡◌, ◌++◌, ◌+◌, ◌*◌, ◌/◌, ◌%◌, map, length, drop}
use Rattle.std.specs.List.{flat_map, range_with_len}
use Rattle.zarrs_array_bytes.specs.Held.{items_of}
use Rattle.zarrs_shard_bytes.specs.Rows.{part_bytes}
use Rattle.zarrs_shard_bytes.proofs.joined_rows.+append_rows.Given as goal

abbrev pub decreases-append_rows : goal.decreases-append_rows
decreases-append_rows l = length l.shape.now

abbrev pub invariant-loop-index : goal.invariant-loop-index
invariant-loop-index l = l.out.items ≡ l.initial.out.items ++ flat_map (λ index. part_bytes l.size (map items_of l.contents) (l.number + index / l.part * l.count) (l.first + index % l.part * l.each) (drop 1 l.shape) (drop 1 l.sizes)) (range_with_len 0 l.index)
