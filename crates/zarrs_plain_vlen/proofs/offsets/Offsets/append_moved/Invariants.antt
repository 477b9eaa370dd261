use Rattle.std.proofs.Common.{◌≡◌, ◌+◌, ◌-◌, ◌++◌, map}
use Rattle.std.specs.List.{between}
use Rattle.zarrs_plain_vlen.proofs.offsets.Offsets.append_moved.Given as goal

abbrev pub invariant-loop-number : goal.invariant-loop-number
invariant-loop-number l =
    l.out.items ≡ l.initial.out.items ++ map (λ offset. offset - l.from + l.start) (between l.first l.number l.self)
