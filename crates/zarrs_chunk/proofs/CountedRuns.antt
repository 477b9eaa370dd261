-- How many places runs have.
use Rattle.std.proofs.Common.{◌≡◌, ℕ, ◌+◌, ◌<◌, List, ◌++◌, length, take, get_or, ap, ◌∙◌, length-append}
use Rattle.std.specs.List.{range_with_len}
use Rattle.std.proofs.lemmas.List.FromFn.{length-range_with_len}
use Rattle.zarrs_chunk.specs.Runs.{joined_runs}
use Rattle.zarrs_chunk.proofs.BoxTuples.{flat_map-take_more}

-- one run more
pub joined_runs-take_more : (runs : List (ℕ × ℕ)) (i : ℕ) → i < length runs
    → joined_runs (take (i + 1) runs) ≡ joined_runs (take i runs) ++ range_with_len (get_or runs i (0, 0)).0 (get_or runs i (0, 0)).1
joined_runs-take_more runs i l = flat_map-take_more (λ (run : ℕ × ℕ). range_with_len run.0 run.1) runs i (0, 0) l

pub length-take_runs : (runs : List (ℕ × ℕ)) (i : ℕ) → i < length runs → length (joined_runs (take (i + 1) runs)) ≡ length (joined_runs (take i runs)) + (get_or runs i (0, 0)).1
length-take_runs runs i l =
    ap length (joined_runs-take_more runs i l) ∙ length-append (joined_runs (take i runs)) (range_with_len (get_or runs i (0, 0)).0 (get_or runs i (0, 0)).1)
    ∙ ap (λ n. length (joined_runs (take i runs)) + n) (length-range_with_len (get_or runs i (0, 0)).0 (get_or runs i (0, 0)).1)
