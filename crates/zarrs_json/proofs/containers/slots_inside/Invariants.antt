use Rattle.std.proofs.Common.{◌≡◌, ◌++◌, drop, map}
use Rattle.zarrs_json.specs.Containers.{under_mask}
use Rattle.zarrs_json.specs.Element.{slots_seen}
use Rattle.zarrs_json.proofs.containers.slots_inside.Given as goal

-- what stands inside so far and what is to come is all
abbrev pub invariant-loop-slot : goal.invariant-loop-slot
invariant-loop-slot l = slots_seen l.inner.items ++ map under_mask (slots_seen (drop l.slot-index l.slots)) ≡ map under_mask (slots_seen l.slots)
