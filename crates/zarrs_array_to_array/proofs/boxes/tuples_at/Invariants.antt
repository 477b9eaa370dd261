use Rattle.std.proofs.Common.{◌≡◌, map, take}
use Rattle.zarrs_chunk.specs.Indices.{tuple_of_number}
use Rattle.zarrs_array_to_array.proofs.boxes.tuples_at.Given as goal

abbrev pub invariant-loop-number : goal.invariant-loop-number
invariant-loop-number l = map (λ tuple. tuple.items) l.tuples.items ≡ map (tuple_of_number l.shape) (take l.number-index l.numbers)
