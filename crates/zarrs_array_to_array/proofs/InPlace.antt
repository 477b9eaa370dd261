-- Lists whose items are moved one after another where they stand.
use Rattle.std.proofs.Common.{◌≡◌, ℕ, zero, suc, ◌+◌, ◌<◌, List, [], ◌∷◌, ◌++◌, length, map, take, drop, set, get_or, arith, refl, ap, sym, ◌∙◌}
use Rattle.std.proofs.Math.Seq.{set-append_seam}
use Rattle.std.proofs.lemmas.List.{drop_more, take_more, map-append, length-map, length-take-le, append_assoc}

at_seam : (front : List ℕ) (x : ℕ) (back : List ℕ) (at : ℕ) → length front ≡ at → get_or (front ++ x ∷ back) at 0 ≡ x
at_seam [] x back zero e = refl
at_seam [] x back (suc at) e = absurd (omega arith)
at_seam (y ∷ front) x back zero e = absurd (omega arith)
at_seam (y ∷ front) x back (suc at) e = at_seam front x back at (omega arith)

-- the item at an index that isn't reached is still the one that stood there
pub item_at : (move : ℕ → ℕ) (items now : List ℕ) (index : ℕ) → index < length items → now ≡ map move (take index items) ++ drop index items → get_or now index 0 ≡ get_or items index 0
item_at move items now index lt is =
    let front : List ℕ = map move (take index items) in
    let long : length front ≡ index = length-map (take index items) move ∙ length-take-le index items (omega arith) in
    ap (λ xs. get_or xs index 0) (is ∙ ap (λ xs. front ++ xs) (drop_more items index 0 lt)) ∙ at_seam front (get_or items index 0) (drop (index + 1) items) index long

-- one item more
pub item_moved : (move : ℕ → ℕ) (items now : List ℕ) (index : ℕ) → index < length items → now ≡ map move (take index items) ++ drop index items
    → set now index (move (get_or items index 0)) ≡ map move (take (index + 1) items) ++ drop (index + 1) items
item_moved move items now index lt is =
    let front : List ℕ = map move (take index items) in
    let item : ℕ = get_or items index 0 in
    let back : List ℕ = drop (index + 1) items in
    let long : length front ≡ index = length-map (take index items) move ∙ length-take-le index items (omega arith) in
    ap (λ xs. set xs index (move item)) (is ∙ ap (λ xs. front ++ xs) (drop_more items index 0 lt))
    ∙ ap (λ k. set (front ++ item ∷ back) k (move item)) (sym long)
    ∙ set-append_seam front item back (move item)
    ∙ sym (append_assoc front (move item ∷ []) back)
    ∙ ap (λ xs. xs ++ back) (sym (map-append move (take index items) (item ∷ [])))
    ∙ ap (λ xs. map move xs ++ back) (sym (take_more items index 0 lt))
