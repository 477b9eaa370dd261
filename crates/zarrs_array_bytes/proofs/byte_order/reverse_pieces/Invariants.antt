use Rattle.std.proofs.Common.{◌≡◌, ◌*◌, ◌++◌, drop}
use Rattle.zarrs_array_bytes.specs.Turned.{reversed_pieces}
use Rattle.zarrs_array_bytes.proofs.byte_order.reverse_pieces.Given as goal

abbrev pub invariant-loop-index : goal.invariant-loop-index
invariant-loop-index l = l.bytes ≡ reversed_pieces l.size l.index l.initial.bytes ++ drop (l.index * l.size) l.initial.bytes
