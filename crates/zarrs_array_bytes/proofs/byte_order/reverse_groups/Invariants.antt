use Rattle.std.proofs.Common.{◌≡◌, ◌*◌, ◌++◌, take, drop, Some}
use Rattle.zarrs_array_bytes.specs.Turned.{turned_bytes}
use Rattle.zarrs_array_bytes.proofs.byte_order.reverse_groups.Given as goal

abbrev pub invariant-loop-index : goal.invariant-loop-index
invariant-loop-index l = l.bytes ≡ turned_bytes (Some l.size) (take (l.index * 16) l.initial.bytes) ++ drop (l.index * 16) l.initial.bytes
