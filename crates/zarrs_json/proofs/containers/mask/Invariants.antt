use Rattle.std.proofs.Common.{◌≡◌, ◌++◌, drop}
use Rattle.zarrs_array_bytes.specs.Present.{mask_of}
use Rattle.zarrs_json.specs.Element.{slots_seen}
use Rattle.zarrs_json.proofs.containers.mask.Given as goal

-- the mask bytes so far and those to come are all
abbrev pub invariant-loop-slot : goal.invariant-loop-slot
invariant-loop-slot l = l.mask.items ++ mask_of (slots_seen (drop l.slot-index l.slots)) ≡ mask_of (slots_seen l.slots)
