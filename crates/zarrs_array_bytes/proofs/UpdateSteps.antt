-- The steps of an update.
use Rattle.std.proofs.Common.{◌≡◌, ℕ, zero, suc, ◌+◌, ◌-◌, ◌<◌, List, [], ◌∷◌, ◌++◌, length, map, drop, take, set, get_or, ap, ◌∙◌, ◌*◌, arith, drop-drop}
use Rattle.std.specs.List.{range_with_len}
use Rattle.std.proofs.lemmas.List.{drop_more, map-append}
use Rattle.zarrs_array_bytes.specs.Update.{update, with_items_at, with_runs}

pub range_more : (a n : ℕ) → range_with_len a (n + 1) ≡ range_with_len a n ++ (a + n) ∷ []
range_more a zero = let e : a ≡ a + 0 = omega arith in ap (λ x. x ∷ []) e
range_more a (suc n) =
    let e : suc n + 1 ≡ suc (n + 1) = omega arith in
    let f : a + 1 + n ≡ a + suc n = omega arith in
    ap (range_with_len a) e ∙ ap (λ xs. a ∷ xs) (range_more (a + 1) n ∙ ap (λ x. range_with_len (a + 1) n ++ x ∷ []) f)

-- one number more
pub map-range_next : {X : Type 0} (f : ℕ → X) (n : ℕ) → map f (range_with_len 0 (n + 1)) ≡ map f (range_with_len 0 n) ++ f n ∷ []
map-range_next f n =
    let e : 0 + n ≡ n = omega arith in
    ap (map f) (range_more 0 n) ∙ map-append f (range_with_len 0 n) ((0 + n) ∷ []) ∙ ap (λ k. map f (range_with_len 0 n) ++ f k ∷ []) e

-- one write more
pub update_step : {X : Type 0} (f : ℕ → X) (xs : List X) (ps : List ℕ) (i next : ℕ) → i < length ps
    → update xs (drop i ps) (map f (range_with_len next (length ps - i))) ≡ update (set xs (get_or ps i 0) (f next)) (drop (i + 1) ps) (map f (range_with_len (next + 1) (length ps - (i + 1))))
update_step f xs ps i next l =
    let e : length ps - i ≡ suc (length ps - (i + 1)) = omega arith in
    ap (λ k. update xs (drop i ps) (map f (range_with_len next k))) e
    ∙ ap (λ qs. update xs qs (f next ∷ map f (range_with_len (next + 1) (length ps - (i + 1))))) (drop_more ps i 0 l)

-- one run more
pub with_runs-step : (size : ℕ) (bytes : List ℕ) (runs : List (ℕ × ℕ)) (new : List ℕ) (i done : ℕ) → i < length runs
    → with_runs size bytes (drop i runs) (drop done new)
    ≡ with_runs size (with_items_at bytes ((get_or runs i (0, 0)).0 * size) (take ((get_or runs i (0, 0)).1 * size) (drop done new))) (drop (i + 1) runs) (drop (done + (get_or runs i (0, 0)).1 * size) new)
with_runs-step size bytes runs new i done l =
    let run = get_or runs i (0, 0) in
    ap (λ rs. with_runs size bytes rs (drop done new)) (drop_more runs i (0, 0) l)
    ∙ ap (λ ns. with_runs size (with_items_at bytes (run.0 * size) (take (run.1 * size) (drop done new))) (drop (i + 1) runs) ns) (drop-drop (run.1 * size) done new)
