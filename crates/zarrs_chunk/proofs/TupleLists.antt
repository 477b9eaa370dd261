-- Lists of tuples, each in a vector of its own.
use Rattle.std.proofs.Common.{◌≡◌, ℕ, List, [], ◌∷◌, map, refl, ap, ◌∙◌, Vec, Global}
use Rattle.std.specs.List.{AllZip}
use Rattle.std.specs.Vec.{vec_len}

items_same : (xs ys : List ℕ) → AllZip (λ x y. y ≡ x) xs ys → ys ≡ xs
items_same [] [] h = refl
items_same [] (y ∷ ys) h = absurd h
items_same (x ∷ xs) [] h = absurd h
items_same (x ∷ xs) (y ∷ ys) h = ap (λ z. z ∷ ys) h.0 ∙ ap (λ zs. x ∷ zs) (items_same xs ys h.1)

-- clones of tuples have the same numbers
pub map-items-clones : (tuples copies : List (Vec ℕ Global)) → AllZip (λ v w. AllZip (λ x y. y ≡ x) v.items w.items × (vec_len w ≡ vec_len v)) tuples copies → map (λ tuple. tuple.items) copies ≡ map (λ tuple. tuple.items) tuples
map-items-clones [] [] h = refl
map-items-clones [] (w ∷ copies) h = absurd h
map-items-clones (v ∷ tuples) [] h = absurd h
map-items-clones (v ∷ tuples) (w ∷ copies) h =
    ap (λ xs. xs ∷ map (λ tuple. tuple.items) copies) (items_same v.items w.items h.0.0) ∙ ap (λ xs. v.items ∷ xs) (map-items-clones tuples copies h.1)
