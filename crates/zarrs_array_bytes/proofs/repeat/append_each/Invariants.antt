use Rattle.std.proofs.Common.{◌≡◌, ◌++◌}
use Rattle.zarrs_array_bytes.specs.Filled.{copies}
use Rattle.zarrs_array_bytes.proofs.repeat.append_each.Given as goal

abbrev pub invariant-loop-copy : goal.invariant-loop-copy
invariant-loop-copy l = l.out.items ≡ l.initial.out.items ++ copies l.bytes l._copy
