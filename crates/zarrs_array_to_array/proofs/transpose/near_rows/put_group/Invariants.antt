use Rattle.std.proofs.Common.{◌≡◌, ◌≤◌, ◌*◌, ◌/◌, ◌-◌}
use Rattle.zarrs_array_to_array.proofs.TileRows.{begun, elements_of}
use Rattle.zarrs_array_to_array.proofs.transpose.near_rows.put_group.Given as goal

abbrev pub invariant-loop-done : goal.invariant-loop-done
invariant-loop-done l = record {
  written :
      l.items ≡ begun (elements_of l.size l.front l.columns.step l.bytes l.done) (l.columns.size * l.size) (l.done * l.size) 0 (16 / l.size) l.initial.items;
  within : l.done ≤ l.columns.size;
}

abbrev pub decreases-loop-done : goal.decreases-loop-done
decreases-loop-done l = l.columns.size - l.done
