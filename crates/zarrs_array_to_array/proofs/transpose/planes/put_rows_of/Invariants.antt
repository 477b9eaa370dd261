use Rattle.std.proofs.Common.{◌≡◌, ◌*◌, ◌++◌, drop}
use Rattle.std.specs.List.{flat_map}
use Rattle.zarrs_array_bytes.specs.Elements.{piece}
use Rattle.zarrs_array_to_array.specs.Strides.{row, next_rows}
use Rattle.zarrs_array_to_array.proofs.transpose.planes.put_rows_of.Given as goal

abbrev pub invariant-loop-index : goal.invariant-loop-index
invariant-loop-index l =
    l.items ≡ flat_map (piece l.size l.bytes) (next_rows l.columns.step l.columns.size (row l.front l.rows.step l.index)) ++ drop (l.index * (l.columns.size * l.size)) l.initial.items
