use Rattle.std.proofs.Common.{◌≡◌, ◌++◌, drop}
use Rattle.std.specs.List.{flat_map}
use Rattle.zarrs_json.specs.Containers.{bytes_or_zeros}
use Rattle.zarrs_json.specs.Element.{slots_seen}
use Rattle.zarrs_json.proofs.containers.fixed_bytes.Given as goal

-- the bytes so far and those to come are all
abbrev pub invariant-loop-slot : goal.invariant-loop-slot
invariant-loop-slot l = l.bytes.items ++ flat_map (bytes_or_zeros l.size) (slots_seen (drop l.slot-index l.slots)) ≡ flat_map (bytes_or_zeros l.size) (slots_seen l.slots)
