-- Writes of runs, a run by a copy.
use Rattle.std.proofs.Common.{◌≡◌, ℕ, ◌+◌, ◌<◌, ◌≤◌, ◌∙◌, List, ◌++◌, length, take, drop, get_or, arith, ap, sym}
use Rattle.std.specs.List.{range_with_len}
use Rattle.std.proofs.lemmas.List.{take-append-drop, length-take-le, length-drop, drop-drop, drop_more}
use Rattle.std.proofs.lemmas.List.FromFn.{length-range_with_len}
use Rattle.zarrs_chunk.specs.Runs.{joined_runs}
use Rattle.zarrs_array_bytes.specs.Update.{update}
use Rattle.zarrs_array_bytes.proofs.RunLemmas.{left_of_runs}
use Rattle.zarrs_array_bytes.proofs.WriteLemmas.{update-append, update-run}

-- a list in three parts
three : {A : Type 0} (items : List A) (at n : ℕ) → items ≡ take at items ++ (take n (drop at items) ++ drop (at + n) items)
three items at n =
    sym (take-append-drop at items)
    ∙ ap (λ xs. take at items ++ xs) (sym (take-append-drop n (drop at items)) ∙ ap (λ xs. take n (drop at items) ++ xs) (drop-drop n at items))

-- a copy is an update at the places of a run
pub copied : {A : Type 0} (items new : List A) (at : ℕ) → at + length new ≤ length items
    → take at items ++ (new ++ drop (at + length new) items) ≡ update items (range_with_len at (length new)) new
copied items new at l =
    let n = length new in
    let front : length (take at items) ≡ at = length-take-le at items (omega arith) in
    let rest : n ≤ length (drop at items) = omega (arith, length-drop at items) in
    let mid : length (take n (drop at items)) ≡ length new = length-take-le n (drop at items) rest in
    sym (ap (λ xs. update xs (range_with_len at n) new) (three items at n) ∙ update-run (take at items) (take n (drop at items)) (drop (at + n) items) new at front mid)

-- one run more
pub run_written : {A : Type 0} (items new : List A) (runs : List (ℕ × ℕ)) (i done : ℕ) → i < length runs
    → done + length (joined_runs (drop i runs)) ≡ length new
    → update items (joined_runs (drop i runs)) (drop done new)
    ≡ update (update items (range_with_len (get_or runs i (0, 0)).0 (get_or runs i (0, 0)).1) (take (get_or runs i (0, 0)).1 (drop done new)))
    (joined_runs (drop (i + 1) runs)) (drop (done + (get_or runs i (0, 0)).1) new)
run_written items new runs i done l left =
    let run = get_or runs i (0, 0) in
    let enough : run.1 ≤ length (drop done new) = omega (arith, left, left_of_runs 1 runs i l, length-drop done new) in
    let part : length (take run.1 (drop done new)) ≡ run.1 = length-take-le run.1 (drop done new) enough in
    ap (λ rs. update items (joined_runs rs) (drop done new)) (drop_more runs i (0, 0) l)
    ∙ ap (λ ns. update items (range_with_len run.0 run.1 ++ joined_runs (drop (i + 1) runs)) ns) (sym (take-append-drop run.1 (drop done new)))
    ∙ update-append items (range_with_len run.0 run.1) (joined_runs (drop (i + 1) runs)) (take run.1 (drop done new)) (drop run.1 (drop done new))
    (length-range_with_len run.0 run.1 ∙ sym part)
    ∙ ap (λ ns. update (update items (range_with_len run.0 run.1) (take run.1 (drop done new))) (joined_runs (drop (i + 1) runs)) ns) (drop-drop run.1 done new)
