use Rattle.std.proofs.Common.{◌≡◌, ◌≢◌, ℕ, ◌<◌, length, get_or, true, false}
use Rattle.zarrs_metadata.proofs.codec.transpose.names_each_once.Given as goal

abbrev pub invariant-loop-axis : goal.invariant-loop-axis
invariant-loop-axis l = record {
  len : length l.named.items ≡ length l.axes;
  below : (k : ℕ) → k < l.axis-index → get_or l.axes k 0 < length l.axes;
  distinct : (j k : ℕ) → j < k → k < l.axis-index → get_or l.axes j 0 ≢ get_or l.axes k 0;
  seen : (k : ℕ) → k < l.axis-index → get_or l.named.items (get_or l.axes k 0) false ≡ true;
  from : (axis : ℕ) → axis < length l.axes → get_or l.named.items axis false ≡ true → (k : ℕ) × (k < l.axis-index) × (get_or l.axes k 0 ≡ axis);
}
