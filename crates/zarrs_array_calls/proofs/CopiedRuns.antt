-- Copies of runs, a run by a copy, one behind another.
use Rattle.std.proofs.Common.{◌≡◌, ℕ, ◌+◌, ◌-◌, ◌*◌, ◌<◌, ◌≤◌, List, ◌++◌, length, take, drop, get_or, sym, ap, ap₂, ◌∙◌, arith, take_at, drop_at, drop-drop, append_assoc, append-nil}
use Rattle.std.proofs.lemmas.List.{drop_all, take_all, length-take-le, length-drop}
use Rattle.zarrs_array_bytes.specs.Elements.{piece}
use Rattle.zarrs_array_bytes.specs.Pieces.{pieces_at}
use Rattle.zarrs_array_bytes.specs.Update.{with_items_at}
use Rattle.zarrs_array_bytes.proofs.RunLemmas.{flat_map-take_runs, pieces_of_run}
use Rattle.zarrs_chunk.specs.Runs.{joined_runs}

-- a run inside has as many bytes as its elements
pub run_long : (size : ℕ) (region : List ℕ) (run : ℕ × ℕ) → (run.0 + run.1) * size ≤ length region
    → length (take (run.0 * size + run.1 * size - run.0 * size) (drop (run.0 * size) region)) ≡ run.1 * size
run_long size region run l =
    let spread : (run.0 + run.1) * size ≡ run.0 * size + run.1 * size = omega arith in
    let count : run.0 * size + run.1 * size - run.0 * size ≡ run.1 * size = omega arith in
    ap (λ n. length (take n (drop (run.0 * size) region))) count
    ∙ length-take-le (run.1 * size) (drop (run.0 * size) region) (omega (arith, l, spread, length-drop (run.0 * size) region))

-- the elements of one run more
pub run_more : (size : ℕ) (region : List ℕ) (runs : List (ℕ × ℕ)) (i : ℕ) → i < length runs
    → pieces_at size region (joined_runs (take (i + 1) runs))
    ≡ pieces_at size region (joined_runs (take i runs))
    ++ take ((get_or runs i (0, 0)).0 * size + (get_or runs i (0, 0)).1 * size - (get_or runs i (0, 0)).0 * size) (drop ((get_or runs i (0, 0)).0 * size) region)
run_more size region runs i l =
    flat_map-take_runs (piece size region) runs i l
    ∙ ap (λ xs. pieces_at size region (joined_runs (take i runs)) ++ xs) (pieces_of_run size region (get_or runs i (0, 0)).0 (get_or runs i (0, 0)).1)

-- a part written behind the front
pub copied_on : (front first part : List ℕ) (done len : ℕ) → length front ≡ done → length part ≡ len
    → with_items_at (front ++ drop done first) done part ≡ (front ++ part) ++ drop (done + len) first
copied_on front first part done len f e =
    let rest : List ℕ = drop done first in
    let behind : drop (done + length part) (front ++ rest) ≡ drop (done + len) first =
    sym (drop-drop (length part) done (front ++ rest)) ∙ ap (drop (length part)) (drop_at front rest done f) ∙ drop-drop (length part) done first
    ∙ ap (λ n. drop (done + n) first) e in
    ap₂ (λ a b. a ++ (part ++ b)) (take_at front rest done f) behind ∙ sym (append_assoc front part (drop (done + len) first))

-- behind all runs nothing is left
pub copied_all : (size : ℕ) (region first : List ℕ) (runs : List (ℕ × ℕ)) (i done : ℕ) → length runs ≤ i
    → done + length (joined_runs (drop i runs)) * size ≡ length first
    → pieces_at size region (joined_runs (take i runs)) ++ drop done first ≡ pieces_at size region (joined_runs runs)
copied_all size region first runs i done l left =
    let none : length (joined_runs (drop i runs)) ≡ 0 = ap (λ rs. length (joined_runs rs)) (drop_all i runs l) in
    let nothing : length (joined_runs (drop i runs)) * size ≡ 0 = ap (λ n. n * size) none ∙ omega arith in
    ap (λ xs. pieces_at size region (joined_runs (take i runs)) ++ xs) (drop_all done first (omega (arith, left, nothing)))
    ∙ append-nil (pieces_at size region (joined_runs (take i runs)))
    ∙ ap (λ rs. pieces_at size region (joined_runs rs)) (take_all i runs l)
