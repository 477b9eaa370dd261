use Rattle.std.proofs.Common.{◌≡◌, ◌++◌, drop, map}
use Rattle.zarrs_json.specs.Element.{element_seen, slots_seen}
use Rattle.zarrs_json.proofs.element_lists.slots.Given as goal

-- the places so far and those to come are all
abbrev pub invariant-loop-element : goal.invariant-loop-element
invariant-loop-element l = slots_seen l.slots.items ++ map element_seen (drop l.element-index l.elements) ≡ map element_seen l.elements
