use Rattle.std.proofs.Common.{◌≡◌, ◌++◌, ◌∷◌, drop, map, length}
use Rattle.std.specs.List.{flat_map}
use Rattle.zarrs_array_bytes.specs.Pieces.{ends}
use Rattle.zarrs_json.specs.Containers.{bytes_or_zeros}
use Rattle.zarrs_json.specs.Element.{slots_seen}
use Rattle.zarrs_json.proofs.containers.variable_parts.Given as goal

-- the bytes and offsets so far, and those to come, are all
abbrev pub invariant-loop-slot : goal.invariant-loop-slot
invariant-loop-slot l = record {
  bytes : l.bytes.items ++ flat_map (bytes_or_zeros 0) (slots_seen (drop l.slot-index l.slots)) ≡ flat_map (bytes_or_zeros 0) (slots_seen l.slots);
  offsets : l.offsets.items ++ ends (length l.bytes.items) (map (bytes_or_zeros 0) (slots_seen (drop l.slot-index l.slots))) ≡ 0 ∷ ends 0 (map (bytes_or_zeros 0) (slots_seen l.slots));
}
