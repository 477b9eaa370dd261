-- The numbers of all tuples, row behind row.
use Rattle.std.proofs.Common.{◌≡◌, ℕ, zero, suc, ◌+◌, ◌*◌, ◌<◌, List, [], ◌∷◌, ◌++◌, length, map, arith, refl, ap, ap₂, ◌∙◌, sym}
use Rattle.std.specs.List.{flat_map, range_with_len}
use Rattle.std.proofs.lemmas.List.{append-nil, map-append}
use Rattle.std.proofs.lemmas.List.FromFn.{map-range_with_len_more}
use Rattle.std.proofs.lemmas.List.Concat.{flat_map-append}
use Rattle.std.proofs.lemmas.Simd.{map-map}
use Rattle.std.proofs.lemmas.Nat.{div-mul-add, mod-mul-add}
use Rattle.zarrs_chunk.specs.ChunkShape.{product}
use Rattle.zarrs_array_to_array.specs.Strides.{stepped, row, next_rows, all_behind, all_stepped}
use Rattle.zarrs_chunk.specs.Indices.{tuple_of_number}
use Rattle.zarrs_chunk.proofs.NumberedTuples.{map_rows}

-- ---- one axis more

pub row_more : (front step n : ℕ) → row front step (n + 1) ≡ row front step n ++ (front + n * step) ∷ []
row_more front step n = map-range_with_len_more (λ index. front + index * step) 0 n n (omega arith)

-- ---- what is behind fronts is behind each of them

next_rows-append : (step size : ℕ) (xs ys : List ℕ) → next_rows step size (xs ++ ys) ≡ next_rows step size xs ++ next_rows step size ys
next_rows-append step size xs ys = flat_map-append (λ front. row front step size) xs ys

pub all_behind-append : (sizes steps xs ys : List ℕ) → all_behind sizes steps (xs ++ ys) ≡ all_behind sizes steps xs ++ all_behind sizes steps ys
all_behind-append [] steps xs ys = refl
all_behind-append (size ∷ sizes) [] xs ys = refl
all_behind-append (size ∷ sizes) (step ∷ steps) xs ys =
    ap (all_behind sizes steps) (next_rows-append step size xs ys) ∙ all_behind-append sizes steps (next_rows step size xs) (next_rows step size ys)

pub all_behind-nil : (sizes steps : List ℕ) → all_behind sizes steps [] ≡ []
all_behind-nil [] steps = refl
all_behind-nil (size ∷ sizes) [] = refl
all_behind-nil (size ∷ sizes) (step ∷ steps) = all_behind-nil sizes steps

-- a row moved on
row_moved : (by front step from n : ℕ) → map (λ index. by + front + index * step) (range_with_len from n) ≡ map (λ number. by + number) (map (λ index. front + index * step) (range_with_len from n))
row_moved by front step from zero = refl
row_moved by front step from (suc n) =
    let e : by + front + from * step ≡ by + (front + from * step) = omega arith in
    ap₂ (λ x xs. x ∷ xs) e (row_moved by front step (from + 1) n)

pub next_rows-moved : (by step size : ℕ) (fronts : List ℕ) → next_rows step size (map (λ number. by + number) fronts) ≡ map (λ number. by + number) (next_rows step size fronts)
next_rows-moved by step size [] = refl
next_rows-moved by step size (front ∷ fronts) =
    ap₂ (λ xs ys. xs ++ ys) (row_moved by front step 0 size) (next_rows-moved by step size fronts)
    ∙ sym (map-append (λ number. by + number) (row front step size) (next_rows step size fronts))

pub all_behind-moved : (by : ℕ) (sizes steps fronts : List ℕ) → all_behind sizes steps (map (λ number. by + number) fronts) ≡ map (λ number. by + number) (all_behind sizes steps fronts)
all_behind-moved by [] steps fronts = refl
all_behind-moved by (size ∷ sizes) [] fronts = refl
all_behind-moved by (size ∷ sizes) (step ∷ steps) fronts =
    ap (all_behind sizes steps) (next_rows-moved by step size fronts) ∙ all_behind-moved by sizes steps (next_rows step size fronts)

-- behind one front
pub all_behind-one : (front : ℕ) (sizes steps : List ℕ) → all_behind sizes steps (front ∷ []) ≡ map (λ number. front + number) (all_stepped sizes steps)
all_behind-one front sizes steps =
    let e : front ≡ front + 0 = omega arith in
    ap (λ n. all_behind sizes steps (n ∷ [])) e ∙ all_behind-moved front sizes steps (0 ∷ [])

-- ---- each number is its tuple's

pub behind_row : (sizes steps : List ℕ) (step from n : ℕ) → all_behind sizes steps (map (λ index. 0 + index * step) (range_with_len from n)) ≡ flat_map (λ index. map (λ number. index * step + number) (all_stepped sizes steps)) (range_with_len from n)
behind_row sizes steps step from zero = all_behind-nil sizes steps
behind_row sizes steps step from (suc n) =
    let first : 0 + from * step ≡ from * step = omega arith in
    all_behind-append sizes steps ((0 + from * step) ∷ []) (map (λ index. 0 + index * step) (range_with_len (from + 1) n))
    ∙ ap₂ (λ xs ys. xs ++ ys) (ap (λ f. all_behind sizes steps (f ∷ [])) first ∙ all_behind-one (from * step) sizes steps) (behind_row sizes steps step (from + 1) n)

step_of : (size step index rest : ℕ) (sizes steps : List ℕ) → rest < product sizes → stepped (step ∷ steps) (tuple_of_number (size ∷ sizes) (index * product sizes + rest)) ≡ index * step + stepped steps (tuple_of_number sizes rest)
step_of size step index rest sizes steps l =
    ap₂ (λ i r. i * step + stepped steps (tuple_of_number sizes r)) (div-mul-add index (product sizes) rest l) (mod-mul-add index (product sizes) rest l)

-- the numbers of all tuples are those of the tuples, in order
pub all_stepped-numbered : (sizes steps : List ℕ) → length steps ≡ length sizes → all_stepped sizes steps ≡ map (λ place. stepped steps (tuple_of_number sizes place)) (range_with_len 0 (product sizes))
all_stepped-numbered [] [] e = refl
all_stepped-numbered [] (step ∷ steps) e = absurd (omega arith)
all_stepped-numbered (size ∷ sizes) [] e = absurd (omega arith)
all_stepped-numbered (size ∷ sizes) (step ∷ steps) e =
    let number : ℕ → ℕ = λ place. stepped steps (tuple_of_number sizes place) in
    let counted : List ℕ = range_with_len 0 (product sizes) in
    let zero_is : 0 * product sizes ≡ 0 = omega arith in
    ap (all_behind sizes steps) (append-nil (row 0 step size))
    ∙ behind_row sizes steps step 0 size
    ∙ ap (λ xs. flat_map (λ index. map (λ n. index * step + n) xs) (range_with_len 0 size)) (all_stepped-numbered sizes steps (omega arith))
    ∙ (λ i. flat_map (λ index. map-map (λ n. index * step + n) number counted i) (range_with_len 0 size))
    ∙ sym (map_rows (λ place. stepped (step ∷ steps) (tuple_of_number (size ∷ sizes) place)) (λ index rest. index * step + stepped steps (tuple_of_number sizes rest)) (product sizes) 0 size (λ index rest l. step_of size step index rest sizes steps l))
    ∙ ap (λ m. map (λ place. stepped (step ∷ steps) (tuple_of_number (size ∷ sizes) place)) (range_with_len m (size * product sizes))) zero_is
