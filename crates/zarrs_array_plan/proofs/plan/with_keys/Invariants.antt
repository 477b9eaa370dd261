use Rattle.std.proofs.Common.{◌≡◌, map}
use Rattle.std.specs.List.{All}
use Rattle.zarrs_array_plan.specs.Planned.{HasOwnKey}
use Rattle.zarrs_array_plan.proofs.plan.with_keys.Given as goal

abbrev pub invariant-loop-part : goal.invariant-loop-part
invariant-loop-part l = record {
  parts : map (λ it. it.part) l.planned.items ≡ l.yielded;
  keys : All (HasOwnKey l.keys) l.planned.items;
}
