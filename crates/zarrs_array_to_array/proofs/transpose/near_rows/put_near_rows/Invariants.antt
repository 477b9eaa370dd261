use Rattle.std.proofs.Common.{◌≡◌, ◌≤◌, ◌-◌, ◌*◌, ◌++◌, drop}
use Rattle.zarrs_array_bytes.specs.Pieces.{pieces_at}
use Rattle.zarrs_array_to_array.specs.Strides.{row, next_rows}
use Rattle.zarrs_array_to_array.proofs.transpose.near_rows.put_near_rows.Given as goal

abbrev pub invariant-loop-done : goal.invariant-loop-done
invariant-loop-done l = record {
  written :
      l.items ≡ pieces_at l.size l.bytes (next_rows l.columns.step l.columns.size (row l.front 1 l.done)) ++ drop (l.done * (l.columns.size * l.size)) l.initial.items;
  within : l.done ≤ l.rows.size;
}

abbrev pub decreases-loop-done : goal.decreases-loop-done
decreases-loop-done l = l.rows.size - l.done
