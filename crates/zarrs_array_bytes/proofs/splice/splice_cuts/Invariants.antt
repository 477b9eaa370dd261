use Rattle.std.proofs.Common.{◌≡◌, ◌+◌, ◌-◌, ◌≤◌, true, [], ◌∷◌, drop, length}
use Rattle.zarrs_chunk.specs.Runs.{joined_runs}
use Rattle.zarrs_array_bytes.specs.Elements.{cut}
use Rattle.zarrs_array_bytes.specs.Update.{is_rising, with_parts}
use Rattle.zarrs_array_bytes.proofs.Splices.{spliced}
use Rattle.zarrs_array_bytes.proofs.splice.splice_cuts.Given as goal

abbrev pub invariant-loop-run : goal.invariant-loop-run
invariant-loop-run l =
    let f = cut l.old_offsets l.old in
    let g = cut l.new_offsets l.new in
    let n = length l.old_offsets - 1 in
    record {
      told : with_parts (l.bytes.items, l.ends.items) (spliced f g n l.at l.done (drop l.run-index l.runs)) ≡ with_parts ([], 0 ∷ []) (spliced f g n 0 0 l.runs);
      rising : is_rising l.at (drop l.run-index l.runs) ≡ true;
      inside : l.at ≤ n;
      left : l.done + length (joined_runs (drop l.run-index l.runs)) + 1 ≡ length l.new_offsets;
    }
