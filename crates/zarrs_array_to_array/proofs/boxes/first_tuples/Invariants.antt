use Rattle.std.proofs.Common.{◌≡◌, map}
use Rattle.std.specs.List.{range_with_len}
use Rattle.zarrs_chunk.specs.Indices.{box_tuple}
use Rattle.zarrs_array_to_array.specs.Orders.{permuted}
use Rattle.zarrs_array_to_array.proofs.boxes.first_tuples.Given as goal

abbrev pub invariant-loop-number : goal.invariant-loop-number
invariant-loop-number l = map (λ tuple. tuple.items) l.tuples.items ≡ map (λ number. permuted l.order (box_tuple l.starts l.lengths number)) (range_with_len 0 l.number)
