-- Bytes and offsets with more parts behind them.
use Rattle.std.proofs.Common.{◌≡◌, ℕ, ◌+◌, List, ◌++◌, length, map, sym, ap, ap₂, ◌∙◌, append_assoc, length-append}
use Rattle.std.specs.List.{concat, flat_map}
use Rattle.std.proofs.lemmas.List.Folds.{concat-append}
use Rattle.zarrs_array_bytes.specs.Pieces.{ends}
use Rattle.zarrs_array_bytes.specs.Update.{with_parts}
use Rattle.zarrs_array_bytes.proofs.OffsetLemmas.{flat_map-concat, ends-append}

-- one list of parts behind another
pub with_parts-append : (items offsets : List ℕ) (xs ys : List (List ℕ)) → with_parts (with_parts (items, offsets) xs) ys ≡ with_parts (items, offsets) (xs ++ ys)
with_parts-append items offsets xs ys =
    let bytes : (items ++ concat xs) ++ concat ys ≡ items ++ concat (xs ++ ys) = append_assoc items (concat xs) (concat ys) ∙ ap (λ zs. items ++ zs) (sym (concat-append xs ys)) in
    let count : length (items ++ concat xs) ≡ length items + length (concat xs) = length-append items (concat xs) in
    let numbers : (offsets ++ ends (length items) xs) ++ ends (length (items ++ concat xs)) ys ≡ offsets ++ ends (length items) (xs ++ ys) =
    append_assoc offsets (ends (length items) xs) (ends (length (items ++ concat xs)) ys)
    ∙ ap (λ n. offsets ++ (ends (length items) xs ++ ends n ys)) count
    ∙ ap (λ zs. offsets ++ zs) (sym (ends-append (length items) xs ys)) in
    ap₂ (λ a b. (a, b)) bytes numbers

-- bytes and ends that are put behind others are more parts
pub with_parts_is : {X : Type 0} (f : X → List ℕ) (xs : List X) (items offsets all numbers : List ℕ) → all ≡ items ++ flat_map f xs → numbers ≡ offsets ++ ends (length items) (map f xs) → (all, numbers) ≡ with_parts (items, offsets) (map f xs)
with_parts_is f xs items offsets all numbers bytes ended = ap₂ (λ a b. (a, b)) (bytes ∙ ap (λ ys. items ++ ys) (flat_map-concat f xs)) ended
