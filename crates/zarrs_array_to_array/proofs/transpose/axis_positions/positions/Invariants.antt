use Rattle.std.proofs.Common.{◌≡◌, ℕ, ◌<◌, length, get_or}
use Rattle.zarrs_array_to_array.proofs.transpose.axis_positions.positions.Given as goal

abbrev pub invariant-loop-place : goal.invariant-loop-place
invariant-loop-place l = record {
  len : length l.positions.items ≡ length l.axes;
  at : (k : ℕ) → k < l.place → get_or l.positions.items (get_or l.axes k 0) 0 ≡ k;
}
