-- Several containers, the parts of each behind those of the one before.
use Rattle.std.proofs.Common.{◌≡◌, ℕ, ◌+◌, ◌≤◌, List, [], ◌++◌, length, take, drop, sym, ap, ◌∙◌, arith}
use Rattle.std.proofs.lemmas.List.{take-append-drop}
use Rattle.zarrs_array_bytes.specs.Update.{with_items_at}
use Rattle.zarrs_c_calls.specs.declared.sizes.Sizes.{Sizes}
use Rattle.zarrs_c_calls.proofs.ListLemmas.{items_twice}

-- as many items of each part are as many
pub same_sizes : (a b : Sizes) → a.masks ≡ b.masks → a.offsets ≡ b.offsets → a.bytes ≡ b.bytes → a ≡ b
same_sizes a b masks offsets bytes = λ k. record { masks = masks k; offsets = offsets k; bytes = bytes k }

-- no items written anywhere
pub none_written : (old : List ℕ) (at : ℕ) → with_items_at old at [] ≡ old
none_written old at = let e : at + 0 ≡ at = omega arith in ap (λ n. take at old ++ drop n old) e ∙ take-append-drop at old

-- some items, and those behind them
pub written_on : (old xs ys all written : List ℕ) (at count : ℕ) → all ≡ xs ++ ys → at + length all ≤ length old → count ≡ length xs → written ≡ with_items_at old at xs → with_items_at written (at + count) ys ≡ with_items_at old at all
written_on old xs ys all written at count is room counted done =
    let here : at + length (xs ++ ys) ≤ length old = omega (arith, room, ap length is) in
    ap (λ n. with_items_at written (at + n) ys) counted
    ∙ ap (λ w. with_items_at w (at + length xs) ys) done
    ∙ items_twice old xs ys at here
    ∙ ap (with_items_at old at) (sym is)
