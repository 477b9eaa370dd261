-- The tuples of a box and their numbers, one axis more at a time.
use Rattle.std.proofs.Common.{◌≡◌, ℕ, zero, suc, ◌+◌, ◌*◌, ◌<◌, ◌≤◌, ◌==◌, ◌||◌, Bool, true, false, List, [], ◌∷◌, ◌++◌, length, get_or, drop, take, map, arith, refl, ap, ◌∙◌, sym}
use Rattle.std.specs.List.{flat_map, range_with_len, list_any}
use Rattle.std.proofs.lemmas.Bool.Decides.{nat_tests}
use Rattle.std.proofs.lemmas.List.{take_more, append-nil, map-append, drop_more, drop_all, length-append, length-map}
use Rattle.std.proofs.lemmas.List.Concat.{flat_map-append}
use Rattle.zarrs_chunk.specs.ChunkShape.{product}
use Rattle.zarrs_chunk.specs.Levels.{number_behind, numbers_behind, box_places, rows_behind}
use Rattle.zarrs_chunk.specs.Runs.{joined_runs}
use Rattle.zarrs_chunk.specs.Tuples.{row_major, box_tuples}

-- one more piece
pub flat_map-take_more : {X A : Type 0} (f : X → List A) (xs : List X) (i : ℕ) (d : X) → i < length xs → flat_map f (take (i + 1) xs) ≡ flat_map f (take i xs) ++ f (get_or xs i d)
flat_map-take_more f xs i d h =
    ap (flat_map f) (take_more xs i d h)
    ∙ flat_map-append f (take i xs) (get_or xs i d ∷ [])
    ∙ ap (λ ys. flat_map f (take i xs) ++ ys) (append-nil (f (get_or xs i d)))

number_step : (front size index b rest number : ℕ) → b ≡ front * size + index → front * (size * rest) + (index * rest + number) ≡ b * rest + number
number_step front size index b rest number e =
    let moved : front * (size * rest) + (index * rest + number) ≡ (front * size + index) * rest + number = omega arith in
    moved ∙ ap (λ n. n * rest + number) (sym e)

number_each : (front size index b : ℕ) (sizes : List ℕ) (tuples : List (List ℕ)) → b ≡ front * size + index → map (number_behind front (size ∷ sizes)) (map (λ tuple. index ∷ tuple) tuples) ≡ map (number_behind b sizes) tuples
number_each front size index b sizes [] e = refl
number_each front size index b sizes (tuple ∷ tuples) e =
    ap (λ n. n ∷ map (number_behind front (size ∷ sizes)) (map (λ tuple. index ∷ tuple) tuples)) (number_step front size index b (product sizes) (row_major sizes tuple) e)
    ∙ ap (λ ns. number_behind b sizes tuple ∷ ns) (number_each front size index b sizes tuples e)

-- one front: its row of next fronts has the same numbers behind it
row_level : (front size : ℕ) (sizes : List ℕ) (tuples : List (List ℕ)) (len start b : ℕ) → b ≡ front * size + start → map (number_behind front (size ∷ sizes)) (flat_map (λ index. map (λ tuple. index ∷ tuple) tuples) (range_with_len start len)) ≡ flat_map (λ c. map (number_behind c sizes) tuples) (range_with_len b len)
row_level front size sizes tuples zero start b e = refl
row_level front size sizes tuples (suc len) start b e =
    map-append (number_behind front (size ∷ sizes)) (map (λ tuple. start ∷ tuple) tuples) (flat_map (λ index. map (λ tuple. index ∷ tuple) tuples) (range_with_len (start + 1) len))
    ∙ ap (λ ns. ns ++ map (number_behind front (size ∷ sizes)) (flat_map (λ index. map (λ tuple. index ∷ tuple) tuples) (range_with_len (start + 1) len))) (number_each front size start b sizes tuples e)
    ∙ ap (λ ns. map (number_behind b sizes) tuples ++ ns) (row_level front size sizes tuples len (start + 1) (b + 1) (omega (arith, e)))

-- the next axis, behind all fronts
pub numbers_behind-next : (size start len : ℕ) (sizes starts lengths fronts : List ℕ) → numbers_behind (size ∷ sizes) (start ∷ starts) (len ∷ lengths) fronts ≡ numbers_behind sizes starts lengths (rows_behind size start len fronts)
numbers_behind-next size start len sizes starts lengths [] = refl
numbers_behind-next size start len sizes starts lengths (front ∷ fronts) =
    ap (λ ns. ns ++ numbers_behind (size ∷ sizes) (start ∷ starts) (len ∷ lengths) fronts) (row_level front size sizes (box_tuples starts lengths) len start (front * size + start) refl)
    ∙ ap (λ ns. numbers_behind sizes starts lengths (range_with_len (front * size + start) len) ++ ns) (numbers_behind-next size start len sizes starts lengths fronts)
    ∙ sym (flat_map-append (λ front. map (number_behind front sizes) (box_tuples starts lengths)) (range_with_len (front * size + start) len) (rows_behind size start len fronts))

-- the step of a loop over the axes
pub numbers_behind-more : (sizes starts lengths fronts : List ℕ) (axis : ℕ) → axis < length sizes → axis < length starts → axis < length lengths → numbers_behind (drop axis sizes) (drop axis starts) (drop axis lengths) fronts ≡ numbers_behind (drop (axis + 1) sizes) (drop (axis + 1) starts) (drop (axis + 1) lengths) (rows_behind (get_or sizes axis 0) (get_or starts axis 0) (get_or lengths axis 0) fronts)
numbers_behind-more sizes starts lengths fronts axis p q r =
    rw (drop_more sizes axis 0 p, drop_more starts axis 0 q, drop_more lengths axis 0 r) (numbers_behind-next (get_or sizes axis 0) (get_or starts axis 0) (get_or lengths axis 0) (drop (axis + 1) sizes) (drop (axis + 1) starts) (drop (axis + 1) lengths) fronts)

-- with no axis left the fronts are the numbers
numbers_behind-nil : (lengths fronts : List ℕ) → numbers_behind [] [] lengths fronts ≡ fronts
numbers_behind-nil lengths [] = refl
numbers_behind-nil lengths (front ∷ fronts) =
    let e : front * 1 + 0 ≡ front = omega arith in
    ap (λ n. n ∷ numbers_behind [] [] lengths fronts) e ∙ ap (λ ns. front ∷ ns) (numbers_behind-nil lengths fronts)

pub numbers_behind-end : (sizes starts lengths fronts : List ℕ) (axis : ℕ) → length sizes ≤ axis → length starts ≤ axis → numbers_behind (drop axis sizes) (drop axis starts) lengths fronts ≡ fronts
numbers_behind-end sizes starts lengths fronts axis p q =
    ap (λ ns. numbers_behind ns (drop axis starts) lengths fronts) (drop_all axis sizes p)
    ∙ ap (λ ns. numbers_behind [] ns lengths fronts) (drop_all axis starts q)
    ∙ numbers_behind-nil lengths fronts

number_from_zero : (sizes : List ℕ) (tuples : List (List ℕ)) → map (number_behind 0 sizes) tuples ≡ map (row_major sizes) tuples
number_from_zero sizes [] = refl
number_from_zero sizes (tuple ∷ tuples) =
    let e : 0 * product sizes + row_major sizes tuple ≡ row_major sizes tuple = omega arith in
    ap (λ n. n ∷ map (number_behind 0 sizes) tuples) e ∙ ap (λ ns. row_major sizes tuple ∷ ns) (number_from_zero sizes tuples)

-- before the first axis
pub numbers_behind-start : (sizes starts lengths : List ℕ) → numbers_behind sizes starts lengths (0 ∷ []) ≡ box_places sizes starts lengths
numbers_behind-start sizes starts lengths =
    append-nil (map (number_behind 0 sizes) (box_tuples starts lengths)) ∙ number_from_zero sizes (box_tuples starts lengths)

flat_map-nothing : {X A : Type 0} (f : X → List A) (xs : List X) → ((x : X) → f x ≡ []) → flat_map f xs ≡ []
flat_map-nothing f [] h = refl
flat_map-nothing f (x ∷ xs) h = rw (h x) (flat_map-nothing f xs h)

rows-nothing : (start len : ℕ) (tuples : List (List ℕ)) (b : Bool) → (b ≡ true → tuples ≡ []) → ((len == 0) || b) ≡ true → flat_map (λ index. map (λ tuple. index ∷ tuple) tuples) (range_with_len start len) ≡ []
rows-nothing start len tuples true h e =
    flat_map-nothing (λ index. map (λ tuple. index ∷ tuple) tuples) (range_with_len start len) (λ index. ap (map (λ tuple. index ∷ tuple)) (h refl))
rows-nothing start zero tuples false h e = refl
rows-nothing start (suc len) tuples false h e = absurd (grind (arith, nat_tests))

-- a box with an axis of length 0 has no tuples
pub box_tuples-nothing : (starts lengths : List ℕ) → length starts ≡ length lengths → list_any (λ len. len == 0) lengths ≡ true → box_tuples starts lengths ≡ []
box_tuples-nothing [] [] e h = absurd (cc)
box_tuples-nothing [] (len ∷ lengths) e h = absurd (omega arith)
box_tuples-nothing (start ∷ starts) [] e h = absurd (omega arith)
box_tuples-nothing (start ∷ starts) (len ∷ lengths) e h =
    rows-nothing start len (box_tuples starts lengths) (list_any (λ len. len == 0) lengths) (box_tuples-nothing starts lengths (omega arith)) h

length-rows : (start len : ℕ) (tuples : List (List ℕ)) → length (flat_map (λ index. map (λ tuple. index ∷ tuple) tuples) (range_with_len start len)) ≡ len * length tuples
length-rows start zero tuples = omega arith
length-rows start (suc len) tuples =
    let r = length-rows (start + 1) len tuples in
    let a = length-append (map (λ tuple. start ∷ tuple) tuples) (flat_map (λ index. map (λ tuple. index ∷ tuple) tuples) (range_with_len (start + 1) len)) in
    let m = length-map tuples (λ tuple. start ∷ tuple) in
    omega (arith, a, m, r)

-- a box has as many tuples as the product of its lengths
pub length-box_tuples : (starts lengths : List ℕ) → length starts ≡ length lengths → length (box_tuples starts lengths) ≡ product lengths
length-box_tuples [] [] e = refl
length-box_tuples [] (len ∷ lengths) e = absurd (omega arith)
length-box_tuples (start ∷ starts) [] e = absurd (omega arith)
length-box_tuples (start ∷ starts) (len ∷ lengths) e =
    length-rows start len (box_tuples starts lengths) ∙ ap (λ n. len * n) (length-box_tuples starts lengths (omega arith))

-- one run more
pub joined_runs-push : (runs : List (ℕ × ℕ)) (start len : ℕ) → joined_runs (runs ++ (start, len) ∷ []) ≡ joined_runs runs ++ range_with_len start len
joined_runs-push runs start len =
    flat_map-append (λ (run : ℕ × ℕ). range_with_len run.0 run.1) runs ((start, len) ∷ [])
    ∙ ap (λ ns. joined_runs runs ++ ns) (append-nil (range_with_len start len))
