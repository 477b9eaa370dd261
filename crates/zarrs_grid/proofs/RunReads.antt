-- Reads of runs, a run by a copy.
use Rattle.std.proofs.Common.{◌≡◌, ℕ, ◌+◌, ◌<◌, ◌≤◌, ◌∙◌, List, ◌++◌, length, map, take, drop, get_or, arith, ap, ap₂, sym}
use Rattle.std.specs.List.{range_with_len}
use Rattle.std.proofs.lemmas.List.{ext_get_or, get_or-take, get_or-drop, length-take-le, length-drop, take_more, map-append}
use Rattle.std.proofs.lemmas.List.FromFn.{length-map-range_with_len, get_or-map-range_with_len}
use Rattle.zarrs_chunk.specs.Runs.{joined_runs, EndWithin}
use Rattle.zarrs_chunk.proofs.BoxTuples.{joined_runs-push}
use Rattle.zarrs_grid.specs.Gathered.{items_at}

-- a copy has the items of a run
copied : {A : Type 0} (items : List A) (at n : ℕ) (default : A) → at + n ≤ length items
    → take n (drop at items) ≡ items_at items (range_with_len at n) default
copied items at n default l =
    let enough : n ≤ length (drop at items) = omega (arith, length-drop at items) in
    let long : length (take n (drop at items)) ≡ n = length-take-le n (drop at items) enough in
    ext_get_or default (take n (drop at items)) (items_at items (range_with_len at n) default)
    (long ∙ sym (length-map-range_with_len (λ place. get_or items place default) at n))
    (λ k below.
    let here : k < n = omega (arith, below, long) in
    get_or-take n (drop at items) k default here ∙ get_or-drop at items k default
    ∙ sym (get_or-map-range_with_len (λ place. get_or items place default) at n k (at + k) default here (omega arith)))

-- a run more
pub run_read : {A : Type 0} (items done : List A) (runs : List (ℕ × ℕ)) (i : ℕ) (default : A) → i < length runs
    → EndWithin (length items) runs → done ≡ items_at items (joined_runs (take i runs)) default
    → done ++ take (get_or runs i (0, 0)).1 (drop (get_or runs i (0, 0)).0 items) ≡ items_at items (joined_runs (take (i + 1) runs)) default
run_read {A} items done runs i default l inside read =
    let run = get_or runs i (0, 0) in
    let one : ℕ → A = λ place. get_or items place default in
    ap₂ (λ xs ys. xs ++ ys) read (copied items run.0 run.1 default (inside i (0, 0) l))
    ∙ sym (map-append one (joined_runs (take i runs)) (range_with_len run.0 run.1))
    ∙ ap (map one) (sym (joined_runs-push (take i runs) run.0 run.1) ∙ ap joined_runs (sym (take_more runs i (0, 0) l)))
