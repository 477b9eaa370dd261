-- Numbers that follow one another, and the runs that they make.
use Rattle.std.proofs.Common.{◌≡◌, ℕ, zero, suc, ◌+◌, ◌-◌, ◌<◌, ◌≤◌, List, [], ◌∷◌, ◌++◌, length, get_or, take, drop, arith, ap, ◌∙◌, sym}
use Rattle.std.specs.Prelude.{◌≢◌}
use Rattle.std.specs.List.{range_with_len, All}
use Rattle.std.proofs.Math.Seq.{take-add}
use Rattle.std.proofs.lemmas.List.{take_more, get_or-take, get_or-drop, length-drop}
use Rattle.std.proofs.lemmas.List.FromFn.{get_or-range_with_len}
use Rattle.zarrs_chunk.specs.Runs.{joined_runs}
use Rattle.zarrs_chunk.proofs.BoxTuples.{joined_runs-push}

-- a range in two parts
pub range-append : (a m n : ℕ) → range_with_len a (m + n) ≡ range_with_len a m ++ range_with_len (a + m) n
range-append a zero n =
    ap (range_with_len a) (let e : 0 + n ≡ n = omega arith in e) ∙ ap (λ b. range_with_len b n) (let e : a ≡ a + 0 = omega arith in e)
range-append a (suc m) n =
    ap (range_with_len a) (let e : suc m + n ≡ suc (m + n) = omega arith in e)
    ∙ ap (λ ns. a ∷ ns) (range-append (a + 1) m n)
    ∙ ap (λ b. a ∷ (range_with_len (a + 1) m ++ range_with_len b n)) (let e : a + 1 + m ≡ a + suc m = omega arith in e)

-- where the first `n` numbers follow one another, each is as far from the first as it stands behind it
pub place_in_run : (xs : List ℕ) (n k : ℕ) → take n xs ≡ range_with_len (get_or xs 0 0) n → k < n → get_or xs k 0 ≡ get_or xs 0 0 + k
place_in_run xs n k h l =
    sym (get_or-take n xs k 0 l) ∙ ap (λ ys. get_or ys k 0) h ∙ get_or-range_with_len (get_or xs 0 0) n k 0 l

-- one number more that follows
pub run_more : (xs : List ℕ) (n : ℕ) → 0 < n → n < length xs → take n xs ≡ range_with_len (get_or xs 0 0) n → get_or xs n 0 ≡ get_or xs (n - 1) 0 + 1 → take (n + 1) xs ≡ range_with_len (get_or xs 0 0) (n + 1)
run_more xs n some l h next =
    let before = place_in_run xs n (n - 1) h (omega arith) in
    let here : get_or xs n 0 ≡ get_or xs 0 0 + n = omega arith in
    take_more xs n 0 l
    ∙ ap (λ ys. ys ++ get_or xs n 0 ∷ []) h
    ∙ ap (λ x. range_with_len (get_or xs 0 0) n ++ x ∷ []) here
    ∙ sym (range-append (get_or xs 0 0) n 1)

-- a run more: the numbers behind `at`, as many as follow one another
pub joined_runs-more : (runs : List (ℕ × ℕ)) (xs rest : List ℕ) (at start len : ℕ) → joined_runs runs ≡ take at xs → rest ≡ drop at xs → take len rest ≡ range_with_len start len → joined_runs (runs ++ (start, len) ∷ []) ≡ take (at + len) xs
joined_runs-more runs xs rest at start len done same run =
    joined_runs-push runs start len
    ∙ ap (λ ns. ns ++ range_with_len start len) done
    ∙ ap (λ ns. take at xs ++ ns) (sym run ∙ ap (take len) same)
    ∙ sym (take-add at len xs)

-- where all numbers are below a limit, their runs end there at the latest
pub run_below : (xs rest : List ℕ) (at start len limit : ℕ) → rest ≡ drop at xs → 0 < len → at + len ≤ length xs → start ≡ get_or rest 0 0 → take len rest ≡ range_with_len start len → All (λ x. x < limit) xs → start + len ≤ limit
run_below xs rest at start len limit same some within first run below =
    let last = place_in_run rest len (len - 1) (run ∙ ap (λ s. range_with_len s len) first) (omega arith) in
    let there : get_or rest (len - 1) 0 ≡ get_or xs (at + (len - 1)) 0 = ap (λ ys. get_or ys (len - 1) 0) same ∙ get_or-drop at xs (len - 1) 0 in
    let small = below (at + (len - 1)) 0 (omega arith) in
    omega (arith, last, there, small, first)

-- where a run goes as far as numbers follow one another, the number behind it isn't the next
pub run_ends : (xs rest : List ℕ) (at start len : ℕ) → rest ≡ drop at xs → 0 < len → start ≡ get_or rest 0 0 → take len rest ≡ range_with_len start len → (len < length rest → get_or rest len 0 ≢ get_or rest (len - 1) 0 + 1) → at + len < length xs → start + len ≢ get_or xs (at + len) 0
run_ends xs rest at start len same some first run longest more = λ e.
    let last = place_in_run rest len (len - 1) (run ∙ ap (λ s. range_with_len s len) first) (omega arith) in
    let there : get_or rest len 0 ≡ get_or xs (at + len) 0 = ap (λ ys. get_or ys len 0) same ∙ get_or-drop at xs len 0 in
    let long : len < length rest = omega (arith, ap (λ (ys : List ℕ). length ys) same, length-drop at xs) in
    longest long (omega (arith, last, there, first, e))
