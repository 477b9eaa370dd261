use Rattle.std.proofs.Common.{◌≡◌, ◌+◌, ◌≤◌, length, drop}
use Rattle.zarrs_array_bytes.specs.Update.{with_items_at}
use Rattle.zarrs_c_calls.specs.JoinedParts.{joined_parts}
use Rattle.zarrs_c_calls.proofs.tell_many.write_joined.Given as goal

-- the containers that are left make of the buffers what all make of them as they were, and have room
abbrev pub invariant-loop-part : goal.invariant-loop-part
invariant-loop-part l = record {
  masks : with_items_at l.masks l.masks_at (joined_parts (drop l.part-index l.parts)).masks ≡ with_items_at l.fn.masks 0 (joined_parts l.parts).masks;
  offsets : with_items_at l.offsets l.offsets_at (joined_parts (drop l.part-index l.parts)).offsets ≡ with_items_at l.fn.offsets 0 (joined_parts l.parts).offsets;
  bytes : with_items_at l.bytes l.bytes_at (joined_parts (drop l.part-index l.parts)).bytes ≡ with_items_at l.fn.bytes 0 (joined_parts l.parts).bytes;
  masks_room : l.masks_at + length (joined_parts (drop l.part-index l.parts)).masks ≤ length l.masks;
  offsets_room : l.offsets_at + length (joined_parts (drop l.part-index l.parts)).offsets ≤ length l.offsets;
  bytes_room : l.bytes_at + length (joined_parts (drop l.part-index l.parts)).bytes ≤ length l.bytes;
}
