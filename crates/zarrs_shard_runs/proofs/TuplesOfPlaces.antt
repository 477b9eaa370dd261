-- Lists of the tuples of places.
use Rattle.std.proofs.Common.{◌≡◌, ℕ, ◌+◌, ◌-◌, ◌*◌, ◌<◌, ◌≤◌, ◌^◌, ◌==◌, ◌&&◌, ◌++◌, nat_eq, nat_lt, Bool, true, List, [], ◌∷◌, Vec, Global, Result, Ok, Err, Some, if◌then◌else◌, length, drop, get_or, map, arith, refl, ap, sym, subst, ◌∙◌}
use Rattle.std.specs.Cmp.Lexicographic.{pointwise}
use Rattle.std.specs.List.{All, list_all, range_with_len}
use Rattle.std.proofs.Math.Nat.{mul-le-mul_left}
use Rattle.std.proofs.lemmas.Bool.{and_from, and_parts, eq-eqb, eqb-true}
use Rattle.std.proofs.lemmas.List.{append_assoc, map_push}
use Rattle.std.proofs.lemmas.List.Folds.{list_all-append}
use Rattle.zarrs_chunk.proofs.Consecutive.{range-append}
use Rattle.zarrs_chunk.proofs.Inside.{is_tuple_inside-at, is_tuple_inside-length, lt_test}
use Rattle.zarrs_chunk.proofs.Products.{product_drop, product_positive-drop}
use Rattle.zarrs_chunk.proofs.WholeAxes.{product_drop-le}
use Rattle.zarrs_chunk.specs.Answer.{◌>>=◌, demand}
use Rattle.zarrs_chunk.specs.ChunkShape.{product}
use Rattle.zarrs_chunk.specs.Indices.{IsTupleOfNumber}
use Rattle.zarrs_chunk.specs.Numbering.{are_tuples_inside, numbers_of_tuples}
use Rattle.zarrs_chunk.specs.Selection.{indices, places_of, tuples_seen}
use Rattle.zarrs_chunk.specs.Tuples.{is_tuple_inside, row_major}
use Rattle.zarrs_chunk.specs.declared.codec_error.CodecError.{CodecError}
use Rattle.zarrs_chunk.specs.declared.codec_error.CodecError.TheVariants.{IncompatibleDimensionality, OutOfBounds, Overflow}
use Rattle.zarrs_shard_runs.specs.RunSelection.{HavePlaces}

-- one place more
pub have_more : (sizes : List ℕ) (tuples : List (Vec ℕ Global)) (tuple : Vec ℕ Global) (places : List ℕ) (start place : ℕ) → start ≤ place → IsTupleOfNumber sizes place (Some tuple.items)
    → HavePlaces sizes tuples (places ++ range_with_len start (place - start)) → HavePlaces sizes (tuples ++ tuple ∷ []) (places ++ range_with_len start (place + 1 - start))
have_more sizes tuples tuple places start place l t h =
    let row = range_with_len start (place - start) in
    let next : row ++ place ∷ [] ≡ range_with_len start (place + 1 - start) =
    ap (λ p. row ++ p ∷ []) (let e : place ≡ start + (place - start) = omega (arith, l) in e)
    ∙ sym (range-append start (place - start) 1)
    ∙ ap (range_with_len start) (let e : place - start + 1 ≡ place + 1 - start = omega (arith, l) in e) in
    let more = map_push (λ (tuple : Vec ℕ Global). tuple.items) tuples tuple in
    record {
      inside = ap (are_tuples_inside sizes) more
          ∙ list_all-append (λ (tuple : List ℕ). is_tuple_inside sizes tuple) (tuples_seen tuples) (tuple.items ∷ [])
          ∙ and_from _ _ h.inside (and_from _ _ t.0 refl);
      numbers = ap (numbers_of_tuples sizes) more
          ∙ map_push (row_major sizes) (tuples_seen tuples) tuple.items
          ∙ (λ i. h.numbers i ++ t.1 i ∷ [])
          ∙ append_assoc places row (place ∷ [])
          ∙ ap (λ ns. places ++ ns) next;
    }

-- each tuple inside has as many numbers as there are axes
all_axes : (sizes : List ℕ) (tuples : List (List ℕ)) → list_all (is_tuple_inside sizes) tuples ≡ true → list_all (λ tuple. length tuple == length sizes) tuples ≡ true
all_axes sizes [] h = refl
all_axes sizes (tuple ∷ tuples) h =
    let parts = and_parts _ _ h in
    and_from _ _ (eq-eqb (length tuple) (length sizes) (is_tuple_inside-length sizes tuple parts.0)) (all_axes sizes tuples parts.1)

-- they select the places
pub tuples_select : (sizes : List ℕ) (tuples : List (Vec ℕ Global)) (places : List ℕ) → product sizes < 2 ^ 64 → HavePlaces sizes tuples places → places_of (indices (map (λ tuple. tuple.items) tuples)) sizes ≡ Ok places
tuples_select sizes tuples places small h =
    let seen = tuples_seen tuples in
    passed (list_all (λ tuple. length tuple == length sizes) seen) (list_all (λ tuple. is_tuple_inside sizes tuple) seen) (nat_lt (product sizes) (2 ^ 64)) (map (row_major sizes) seen) (all_axes sizes seen h.inside) h.inside (lt_test (product sizes) (2 ^ 64) small) ∙ ap (λ (ps : List ℕ). Ok ps) h.numbers
  where
    passed : (a b c : Bool) (ps : List ℕ) → a ≡ true → b ≡ true → c ≡ true
        → ◌≡◌ {A = Result (List ℕ) CodecError} ((demand a IncompatibleDimensionality >>= (λ _. demand b OutOfBounds)) >>= (λ _. (if c then Ok (product sizes) else Err Overflow) >>= (λ _. Ok ps))) (Ok ps)
    passed a b c ps p q r = (λ i. ((demand (p i) IncompatibleDimensionality >>= (λ _. demand (q i) OutOfBounds)) >>= (λ _. (if r i then Ok (product sizes) else Err Overflow) >>= (λ _. Ok ps))))

-- ---- boxes

-- a size is no larger than the number of elements
pub size_small : (sizes : List ℕ) (axis : ℕ) → All (λ size. 0 < size) sizes → axis < length sizes → get_or sizes axis 0 ≤ product sizes
size_small sizes axis p l =
    let a = product_drop sizes axis l in
    let b = product_drop-le sizes axis p in
    let c = product_positive-drop sizes (axis + 1) p in
    let m : get_or sizes axis 0 * 1 ≤ get_or sizes axis 0 * product (drop (axis + 1) sizes) = mul-le-mul_left (get_or sizes axis 0) c in
    omega (arith, a, b, m)

-- an index of a tuple inside has room for one more
pub index_small : (sizes others tuple : List ℕ) (axis : ℕ) → others ≡ sizes → All (λ size. 0 < size) others → product sizes < 2 ^ 64 → is_tuple_inside sizes tuple ≡ true → axis < length sizes → get_or tuple axis 0 + 1 < 2 ^ 64
index_small sizes others tuple axis e p small h l =
    let a = size_small sizes axis (subst (All (λ size. 0 < size)) e p) l in
    let b = is_tuple_inside-at sizes tuple axis h l in
    omega (arith, a, b, small)

pub same_runs : (runs others : List (ℕ × ℕ)) → pointwise (λ (x : ℕ × ℕ) (y : ℕ × ℕ). nat_eq x.0 y.0 && nat_eq x.1 y.1) runs others ≡ true → runs ≡ others
same_runs [] [] h = refl
same_runs [] (other ∷ others) h = absurd cc
same_runs (run ∷ runs) [] h = absurd cc
same_runs (run ∷ runs) (other ∷ others) h =
    let parts = and_parts _ _ h in
    let both = and_parts _ _ parts.0 in
    let first = eqb-true run.0 other.0 both.0 in
    let second = eqb-true run.1 other.1 both.1 in
    let rest = same_runs runs others parts.1 in
    λ i. (first i, second i) ∷ rest i
