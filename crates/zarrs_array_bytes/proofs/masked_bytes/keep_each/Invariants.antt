use Rattle.std.proofs.Common.{◌≡◌, ◌+◌, ◌*◌, ◌≤◌, ◌++◌, length, take, drop}
use Rattle.zarrs_array_bytes.specs.Pieces.{pieces_at}
use Rattle.zarrs_array_bytes.specs.Present.{present_places}
use Rattle.zarrs_array_bytes.proofs.PresentLemmas.{marked}
use Rattle.zarrs_array_bytes.proofs.MaskedBytes.{keeps}
use Rattle.zarrs_array_bytes.proofs.masked_bytes.keep_each.Given as goal

abbrev pub invariant-loop-place : goal.invariant-loop-place
invariant-loop-place l = record {
  len : length l.out ≡ length l.fn.out;
  within : l.kept ≤ l.place;
  left : l.kept + length (marked (drop l.place l.mask)) ≡ length (present_places l.mask);
  told : take (l.kept * l.size) l.out ++ keeps l.size (drop l.place l.mask) (drop (l.place * l.size) l.bytes) ≡ pieces_at l.size l.bytes (present_places l.mask);
}
