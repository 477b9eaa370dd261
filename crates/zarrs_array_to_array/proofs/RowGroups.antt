-- The elements of a row, group by group.
use Rattle.std.proofs.Common.{◌≡◌, ℕ, zero, suc, ◌+◌, ◌-◌, ◌*◌, ◌<◌, ◌≤◌, List, [], ◌∷◌, ◌++◌, length, take, drop, map, arith, refl, ap, ap₂, ◌∙◌, sym, append_assoc, length-append, drop-drop, length-take-le}
use Rattle.std.specs.List.{flat_map, range_with_len}
use Rattle.std.proofs.lemmas.List.{take_at, drop_at, length-drop}
use Rattle.std.proofs.lemmas.List.Concat.{flat_map-append}
use Rattle.zarrs_array_to_array.specs.Axes.{stretch}
use Rattle.zarrs_array_to_array.specs.Strides.{row}
use Rattle.zarrs_array_to_array.proofs.PlaneRows.{flat_map-row_more}

-- ---- one element more

-- the bytes of an element that lies inside
pub length-stretch : (len size : ℕ) (items : List ℕ) (place : ℕ) → place * size + len ≤ length items → length (stretch len size items place) ≡ len
length-stretch len size items place h =
    let rest : length (drop (place * size) items) ≡ length items - place * size = length-drop (place * size) items in
    length-take-le (place * size + len - place * size) (drop (place * size) items) (omega (arith, rest)) ∙ (omega arith)

-- so many of them
pub length-row : (len size : ℕ) (items : List ℕ) (front step n : ℕ) → ((k : ℕ) → k < n → (front + k * step) * size + len ≤ length items) → length (flat_map (stretch len size items) (row front step n)) ≡ n * len
length-row len size items front step zero h = omega arith
length-row len size items front step (suc n) h =
    let e : suc n ≡ n + 1 = omega arith in
    let spread : (n + 1) * len ≡ n * len + len = omega arith in
    ap (λ m. length (flat_map (stretch len size items) (row front step m))) e
    ∙ ap length (flat_map-row_more (stretch len size items) front step n)
    ∙ length-append (flat_map (stretch len size items) (row front step n)) (stretch len size items (front + n * step))
    ∙ ap₂ (λ a b. a + b) (length-row len size items front step n (λ k l. h k (omega arith))) (length-stretch len size items (front + n * step) (h n (omega arith)))
    ∙ sym spread ∙ ap (λ m. m * len) (sym e)

pub put_next : (done init items next part : List ℕ) (at k len : ℕ) → length done ≡ at → items ≡ done ++ drop at init → k ≡ len → part ≡ next → take at items ++ (part ++ drop k (drop at items)) ≡ (done ++ next) ++ drop (at + len) init
put_next done init items next part at k len e is n same =
    let front : take at items ≡ done = ap (take at) is ∙ take_at done (drop at init) at e in
    let behind : drop at items ≡ drop at init = ap (drop at) is ∙ drop_at done (drop at init) at e in
    let back : drop k (drop at items) ≡ drop (at + len) init = ap₂ drop n behind ∙ drop-drop len at init in
    ap₂ (λ xs ys. xs ++ (part ++ ys)) front back ∙ ap (λ p. done ++ (p ++ drop (at + len) init)) same ∙ sym (append_assoc done next (drop (at + len) init))

-- ---- one group more

row_more_of : (front step from m : ℕ) → map (λ index. front + index * step) (range_with_len from m) ≡ row (front + from * step) step m
row_more_of front step from zero = refl
row_more_of front step from (suc m) = moved (suc m) 0 from from (omega arith)
  where
    moved : (n at from here : ℕ) → here ≡ from + at → map (λ index. front + index * step) (range_with_len here n) ≡ map (λ index. front + from * step + index * step) (range_with_len at n)
    moved zero at from here e = refl
    moved (suc n) at from here e =
        let spread : (from + at) * step ≡ from * step + at * step = omega arith in
        let first : front + here * step ≡ front + from * step + at * step = ap (λ h. front + h * step) e ∙ (omega (arith, spread)) in
        ap₂ (λ x xs. x ∷ xs) first (moved n (at + 1) from (here + 1) (omega arith))

split : (f : ℕ → ℕ) (a m n : ℕ) → map f (range_with_len a (m + n)) ≡ map f (range_with_len a m) ++ map f (range_with_len (a + m) n)
split f a zero n = (let e : 0 + n ≡ n = omega arith in let s : a ≡ a + 0 = omega arith in ap (λ k. map f (range_with_len a k)) e ∙ ap (λ k. map f (range_with_len k n)) s)
split f a (suc m) n =
    let e : suc m + n ≡ suc (m + n) = omega arith in
    let s : a + 1 + m ≡ a + suc m = omega arith in
    ap (λ k. map f (range_with_len a k)) e ∙ ap (λ xs. f a ∷ xs) (split f (a + 1) m n ∙ ap (λ k. map f (range_with_len (a + 1) m) ++ map f (range_with_len k n)) s)

-- a group behind the groups before it
pub group_more : (out : List ℕ) (f : ℕ → List ℕ) (front step m n next : ℕ) → next ≡ m + n → (out ++ flat_map f (row front step m)) ++ flat_map f (row (front + m * step) step n) ≡ out ++ flat_map f (row front step next)
group_more out f front step m n next e =
    append_assoc out (flat_map f (row front step m)) (flat_map f (row (front + m * step) step n))
    ∙ ap (λ xs. out ++ xs) (sym (flat_map-append f (row front step m) (row (front + m * step) step n))
    ∙ ap (flat_map f) (ap (λ xs. row front step m ++ xs) (sym (row_more_of front step m n)) ∙ sym (split (λ index. front + index * step) 0 m n ∙ (let z : 0 + m ≡ m = omega arith in ap (λ k. row front step m ++ map (λ index. front + index * step) (range_with_len k n)) z))
    ∙ ap (λ k. row front step k) (sym e)))

-- an element of a group is an element of the row
pub group_inside : (front step size len at k : ℕ) → (front + at * step + k * step) * size + len ≡ (front + (at + k) * step) * size + len
group_inside front step size len at k =
    let spread : (at + k) * step ≡ at * step + k * step = add-mul at k step in
    ap (λ n. n * size + len) (omega (arith, spread))
  where
    add-mul : (a b c : ℕ) → (a + b) * c ≡ a * c + b * c
    add-mul a b c = omega arith
