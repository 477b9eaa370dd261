-- Items written into a list.
use Rattle.std.proofs.Common.{◌≡◌, ℕ, ◌+◌, ◌≤◌, List, ◌++◌, length, take, drop, sym, ap, ap₂, ◌∙◌, arith, append_assoc, drop-drop, length-append, length-take-le}
use Rattle.std.proofs.lemmas.List.{drop_at, take_at}
use Rattle.zarrs_array_bytes.specs.Update.{with_items_at}

-- some items, and then those behind them
pub items_twice : (old xs ys : List ℕ) (at : ℕ) → at + length (xs ++ ys) ≤ length old → with_items_at (with_items_at old at xs) (at + length xs) ys ≡ with_items_at old at (xs ++ ys)
items_twice old xs ys at room =
    let front : List ℕ = take at old in
    let next : ℕ = at + length xs in
    let back : List ℕ = drop next old in
    let more : List ℕ = drop (at + length (xs ++ ys)) old in
    let whole : List ℕ = front ++ (xs ++ back) in
    let front-len : length front ≡ at = length-take-le at old (omega arith) in
    let both-len : length (front ++ xs) ≡ next = length-append front xs ∙ ap (λ n. n + length xs) front-len in
    let split : whole ≡ (front ++ xs) ++ back = sym (append_assoc front xs back) in
    let count : next + length ys ≡ at + length (xs ++ ys) = omega (arith, length-append xs ys) in
    let taken : take next whole ≡ front ++ xs = ap (take next) split ∙ take_at (front ++ xs) back next both-len in
    let left : drop next whole ≡ back = ap (drop next) split ∙ drop_at (front ++ xs) back next both-len in
    let dropped : drop (next + length ys) whole ≡ more =
    sym (drop-drop (length ys) next whole) ∙ ap (drop (length ys)) left ∙ drop-drop (length ys) next old ∙ ap (λ n. drop n old) count in
    ap₂ (λ us vs. us ++ (ys ++ vs)) taken dropped
    ∙ append_assoc front xs (ys ++ more)
    ∙ ap (λ zs. front ++ zs) (sym (append_assoc xs ys more))
