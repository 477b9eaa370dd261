use Rattle.std.proofs.Common.{◌≡◌, ◌+◌, ◌-◌, ◌≤◌, ◌^◌, length, drop, min}
use Rattle.zarrs_c_calls.specs.JoinedParts.{joined_parts}
use Rattle.zarrs_c_calls.proofs.tell_many.sizes_of.Given as goal

-- the items so far and those of the containers that are left are all
abbrev pub invariant-loop-part : goal.invariant-loop-part
invariant-loop-part l = record {
  masks : min (l.sizes.masks + length (joined_parts (drop l.part-index l.parts)).masks) (2 ^ 64 - 1) ≡ min (length (joined_parts l.parts).masks) (2 ^ 64 - 1);
  offsets : min (l.sizes.offsets + length (joined_parts (drop l.part-index l.parts)).offsets) (2 ^ 64 - 1) ≡ min (length (joined_parts l.parts).offsets) (2 ^ 64 - 1);
  bytes : min (l.sizes.bytes + length (joined_parts (drop l.part-index l.parts)).bytes) (2 ^ 64 - 1) ≡ min (length (joined_parts l.parts).bytes) (2 ^ 64 - 1);
  masks_fit : l.sizes.masks ≤ 2 ^ 64 - 1;
  offsets_fit : l.sizes.offsets ≤ 2 ^ 64 - 1;
  bytes_fit : l.sizes.bytes ≤ 2 ^ 64 - 1;
}
