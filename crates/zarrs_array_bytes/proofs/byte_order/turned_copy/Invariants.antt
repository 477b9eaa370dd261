use Rattle.std.proofs.Common.{◌≡◌, ◌*◌, take, Some}
use Rattle.zarrs_array_bytes.specs.Turned.{turned_bytes}
use Rattle.zarrs_array_bytes.proofs.byte_order.turned_copy.Given as goal

abbrev pub invariant-loop-index : goal.invariant-loop-index
invariant-loop-index l = l.copy.items ≡ turned_bytes (Some l.size) (take (l.index * l.block) l.bytes)
