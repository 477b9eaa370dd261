use Rattle.std.proofs.Common.{◌≡◌, ℕ, ◌-◌, ◌<◌, ◌≤◌, length, slice_index}
use Rattle.zarrs_array_bytes.proofs.array_bytes_offsets.move_to_zero.Given as goal

abbrev pub invariant-loop-offset : goal.invariant-loop-offset
invariant-loop-offset l =
    (length l.offsets ≡ length l.initial.offsets)
    × ((k : ℕ) → k < l.offset-index → slice_index l.offsets k ≡ slice_index l.initial.offsets k - l.first)
    × ((k : ℕ) → l.offset-index ≤ k → slice_index l.offsets k ≡ slice_index l.initial.offsets k)
