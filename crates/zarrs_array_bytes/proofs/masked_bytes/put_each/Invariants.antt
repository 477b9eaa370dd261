use Rattle.std.proofs.Common.{◌≡◌, ◌+◌, ◌*◌, ◌≤◌, ◌++◌, length, take, drop}
use Rattle.zarrs_array_bytes.specs.Present.{present_places}
use Rattle.zarrs_array_bytes.specs.Update.{pieces_update}
use Rattle.zarrs_array_bytes.proofs.PresentLemmas.{marked}
use Rattle.zarrs_array_bytes.proofs.MaskedBytes.{spread}
use Rattle.zarrs_array_bytes.proofs.masked_bytes.put_each.Given as goal

abbrev pub invariant-loop-place : goal.invariant-loop-place
invariant-loop-place l = record {
  len : length l.out ≡ length l.fn.out;
  within : l.done ≤ l.place;
  left : l.done + length (marked (drop l.place l.mask)) ≡ length (present_places l.mask);
  told : take (l.place * l.size) l.out ++ spread l.size (drop l.place l.mask) (drop (l.place * l.size) l.fn.out) (drop (l.done * l.size) l.bytes) ≡ pieces_update l.size (length l.mask) l.fn.out (present_places l.mask) l.bytes;
}
