-- The places of an inner chunk: those of the first one, further on.
use Rattle.std.proofs.Common.{◌≡◌, ℕ, zero, suc, ◌+◌, ◌*◌, ◌/◌, ◌%◌, ◌<◌, ◌≤◌, ◌^◌, ◌++◌, ◌-◌, ◌==◌, true, Result, Ok, Err, IfOk, Vec, Global, List, [], ◌∷◌, length, map, drop, get_or, replicate, arith, refl, ap, ap₂, sym, subst, ◌∙◌}
use Rattle.std.specs.List.{All, range_with_len}
use Rattle.std.proofs.Math.Nat.{zero-div, zero-mod}
use Rattle.std.proofs.lemmas.List.{drop_all, drop_more, get_or_append_left, get_or-append-add, length-append}
use Rattle.std.proofs.lemmas.List.Elements.{All-cons, All-head, All-tail}
use Rattle.std.proofs.lemmas.List.{map-append}
use Rattle.std.proofs.lemmas.List.FromFn.{get_or-map-range_with_len}
use Rattle.std.proofs.lemmas.Nat.{div-mul-add, mod-mul-add}
use Rattle.std.proofs.lemmas.Simd.{map-map}
use Rattle.zarrs_chunk.specs.Answer.{Gives}
use Rattle.zarrs_chunk.specs.ChunkShape.{product}
use Rattle.zarrs_chunk.specs.Indices.{tuple_of_number}
use Rattle.zarrs_chunk.specs.Levels.{number_behind}
use Rattle.zarrs_chunk.specs.Region.{Region}
use Rattle.zarrs_chunk.specs.Runs.{joined_runs, places_in, AreFilled, EndWithin}
use Rattle.zarrs_chunk.specs.Selection.{subset, places_of}
use Rattle.zarrs_chunk.specs.Tuples.{row_major, is_tuple_inside}
use Rattle.zarrs_chunk.specs.declared.codec_error.CodecError.{CodecError}
use Rattle.zarrs_chunk.proofs.Inside.{is_tuple_inside-at, number_behind-more, number_behind-end}
use Rattle.zarrs_chunk.proofs.NumberedTuples.{tuple_of_number-inside, row_major-tuple_of_number, length-tuple_of_number}
use Rattle.zarrs_codec.proofs.Fences.{second_true}
use Rattle.zarrs_array_to_array.proofs.PlaneRows.{places_are_bytes}
use Rattle.zarrs_chunk.proofs.WholeAxes.{product_drop-le}
use Rattle.zarrs_chunk.proofs.Products.{product_drop, product_positive, product_positive-drop}
use Rattle.zarrs_chain_meaning.specs.sharding.InnerChunks.{is_divided, grid, inner_chunk_count, place_in_shard, inner_chunk_places}
use Rattle.zarrs_grid.specs.ChunkTuples.{tuple_in_array}
use Rattle.zarrs_chain_meaning.specs.sharding.ShardSteps.{inner_start, inner_region}
use Rattle.zarrs_chain_meaning.proofs.InnerChunks.{is_cut, places_long, grid_positive}
use Rattle.zarrs_chain_meaning.proofs.ShardGrid.{places_found, start_at}
use Rattle.zarrs_shard_bytes.specs.InnerPlaces.{places_from, AreFirstRuns, GivesFirstRuns, IsInGrid}

-- ---- where an inner chunk begins

-- the number of the first indices of a tuple
abbrev pub front : List ℕ → List ℕ → ℕ → ℕ
front counts tuple zero = 0
front counts tuple (suc axis) = front counts tuple axis * get_or counts axis 0 + get_or tuple axis 0

front_more : (counts tuple : List ℕ) (axis : ℕ) → front counts tuple (axis + 1) ≡ front counts tuple axis * get_or counts axis 0 + get_or tuple axis 0
front_more counts tuple axis = let e : axis + 1 ≡ suc axis = omega arith in ap (front counts tuple) e

front_behind : (counts tuple : List ℕ) (axis : ℕ) → length tuple ≡ length counts → axis ≤ length counts → number_behind (front counts tuple axis) (drop axis counts) (drop axis tuple) ≡ row_major counts tuple
front_behind counts tuple zero e l = omega arith
front_behind counts tuple (suc axis) e l =
    let at : suc axis ≡ axis + 1 = omega arith in
    ap (λ n. number_behind (front counts tuple (suc axis)) (drop n counts) (drop n tuple)) at
    ∙ number_behind-more counts tuple (front counts tuple axis) axis (omega arith) (omega (arith, e))
    ∙ front_behind counts tuple axis e (omega arith)

-- behind all axes it is the tuple's number
pub front_all : (counts : List ℕ) (number axis : ℕ) → number < product counts → axis ≡ length counts → number ≡ front counts (tuple_of_number counts number) axis
front_all counts number axis l e =
    let tuple = tuple_of_number counts number in
    sym (row_major-tuple_of_number counts number l)
    ∙ sym (front_behind counts tuple axis (length-tuple_of_number counts number) (omega (arith, e)))
    ∙ number_behind-end counts tuple (front counts tuple axis) axis (omega (arith, e))

-- its last index, and the number of those before it
pub last_index : (counts tuple : List ℕ) (axis rest : ℕ) → is_tuple_inside counts tuple ≡ true → axis < length counts → rest ≡ front counts tuple (axis + 1) → rest % get_or counts axis 0 ≡ get_or tuple axis 0
last_index counts tuple axis rest h l e =
    ap (λ n. n % get_or counts axis 0) (e ∙ front_more counts tuple axis) ∙ mod-mul-add (front counts tuple axis) (get_or counts axis 0) (get_or tuple axis 0) (is_tuple_inside-at counts tuple axis h l)

pub front_left : (counts tuple : List ℕ) (axis rest : ℕ) → is_tuple_inside counts tuple ≡ true → axis < length counts → rest ≡ front counts tuple (axis + 1) → rest / get_or counts axis 0 ≡ front counts tuple axis
front_left counts tuple axis rest h l e =
    ap (λ n. n / get_or counts axis 0) (e ∙ front_more counts tuple axis) ∙ div-mul-add (front counts tuple axis) (get_or counts axis 0) (get_or tuple axis 0) (is_tuple_inside-at counts tuple axis h l)

-- the place where it begins, over the last axes alone
abbrev pub start_behind : List ℕ → List ℕ → List ℕ → ℕ → ℕ
start_behind shape sizes numbers axis = row_major (drop axis sizes) (inner_start (drop axis shape) (drop axis numbers))

-- one axis more, from the back
pub start_more : (shape sizes numbers : List ℕ) (axis : ℕ) → axis < length shape → length sizes ≡ length shape → length numbers ≡ length shape
    → start_behind shape sizes numbers axis ≡ get_or numbers axis 0 * get_or shape axis 0 * product (drop (axis + 1) sizes) + start_behind shape sizes numbers (axis + 1)
start_more shape sizes numbers axis l e h =
    λ i. row_major (drop_more sizes axis 0 (omega (arith, l, e)) i) (start_at shape numbers axis l (omega (arith, l, h)) i)

row_major-nil : (sizes : List ℕ) → row_major sizes [] ≡ 0
row_major-nil [] = refl
row_major-nil (size ∷ sizes) = refl

start-nil : (shape : List ℕ) → inner_start shape [] ≡ []
start-nil [] = refl
start-nil (part ∷ shape) = refl

pub start_less : (shape sizes numbers : List ℕ) (axis : ℕ) → start_behind shape sizes numbers axis ≤ row_major sizes (inner_start shape numbers)
start_less shape sizes numbers zero = omega arith
start_less [] sizes numbers (suc axis) = let z = row_major-nil (drop (suc axis) sizes) in omega (arith, z)
start_less (part ∷ shape) [] numbers (suc axis) = omega arith
start_less (part ∷ shape) (size ∷ sizes) [] (suc axis) =
    let z : row_major (drop axis sizes) (inner_start (drop axis shape) []) ≡ 0 = ap (row_major (drop axis sizes)) (start-nil (drop axis shape)) ∙ row_major-nil (drop axis sizes) in
    omega (arith, z)
start_less (part ∷ shape) (size ∷ sizes) (number ∷ numbers) (suc axis) = let h = start_less shape sizes numbers axis in omega (arith, h)

-- ---- tuples

tuples_added : (shape sizes numbers tuple : List ℕ) → length sizes ≡ length shape → length numbers ≡ length shape → length tuple ≡ length shape
    → row_major sizes (tuple_in_array shape numbers tuple) ≡ row_major sizes (inner_start shape numbers) + row_major sizes tuple
tuples_added [] [] [] [] a b c = omega arith
tuples_added [] (size ∷ sizes) numbers tuple a b c = absurd (omega (arith, a))
tuples_added [] [] (number ∷ numbers) tuple a b c = absurd (omega (arith, b))
tuples_added [] [] [] (index ∷ tuple) a b c = absurd (omega (arith, c))
tuples_added (part ∷ shape) [] numbers tuple a b c = absurd (omega (arith, a))
tuples_added (part ∷ shape) (size ∷ sizes) [] tuple a b c = absurd (omega (arith, b))
tuples_added (part ∷ shape) (size ∷ sizes) (number ∷ numbers) [] a b c = absurd (omega (arith, c))
tuples_added (part ∷ shape) (size ∷ sizes) (number ∷ numbers) (index ∷ tuple) a b c =
    let h = tuples_added shape sizes numbers tuple (omega (arith, a)) (omega (arith, b)) (omega (arith, c)) in
    let spread : (number * part + index) * product sizes ≡ number * part * product sizes + index * product sizes = omega arith in
    omega (arith, h, spread)

tuple_zeros : (sizes : List ℕ) → tuple_of_number sizes 0 ≡ replicate (length sizes) 0
tuple_zeros [] = refl
tuple_zeros (size ∷ sizes) = ap₂ (λ index tuple. index ∷ tuple) (zero-div (product sizes)) (ap (tuple_of_number sizes) (zero-mod (product sizes)) ∙ tuple_zeros sizes)

row_major_zeros : (sizes : List ℕ) (count : ℕ) → row_major sizes (replicate count 0) ≡ 0
row_major_zeros [] count = refl
row_major_zeros (size ∷ sizes) zero = refl
row_major_zeros (size ∷ sizes) (suc count) = let h = row_major_zeros sizes count in omega (arith, h)

start_zeros : (shape : List ℕ) → inner_start shape (replicate (length shape) 0) ≡ replicate (length shape) 0
start_zeros [] = refl
start_zeros (part ∷ shape) = let z : 0 * part ≡ 0 = omega arith in λ i. z i ∷ start_zeros shape i

pub divided_long : (shape sizes : List ℕ) → is_divided shape sizes ≡ true → length sizes ≡ length shape
divided_long [] [] d = refl
divided_long [] (size ∷ sizes) d = absurd cc
divided_long (part ∷ shape) [] d = absurd cc
divided_long (part ∷ shape) (size ∷ sizes) d = ap suc (divided_long shape sizes (second_true (size % part == 0) (is_divided shape sizes) d))

pub grid_long : (shape sizes : List ℕ) → is_divided shape sizes ≡ true → length (grid shape sizes) ≡ length shape
grid_long [] [] d = refl
grid_long [] (size ∷ sizes) d = absurd cc
grid_long (part ∷ shape) [] d = absurd cc
grid_long (part ∷ shape) (size ∷ sizes) d = ap suc (grid_long shape sizes (second_true (size % part == 0) (is_divided shape sizes) d))

-- the first inner chunk begins at the first place
pub first_start : (shape sizes : List ℕ) → is_divided shape sizes ≡ true → inner_start shape (tuple_of_number (grid shape sizes) 0) ≡ replicate (length shape) 0
first_start shape sizes d =
    ap (inner_start shape) (tuple_zeros (grid shape sizes) ∙ ap (λ n. replicate n 0) (grid_long shape sizes d)) ∙ start_zeros shape

-- ---- places

-- where an inner chunk begins
pub start_is : (shape sizes : List ℕ) (number : ℕ) → is_divided shape sizes ≡ true → place_in_shard shape sizes number 0 ≡ row_major sizes (inner_start shape (tuple_of_number (grid shape sizes) number))
start_is shape sizes number d =
    let numbers = tuple_of_number (grid shape sizes) number in
    let tuple = tuple_of_number shape 0 in
    let sum = tuples_added shape sizes numbers tuple (divided_long shape sizes d) (length-tuple_of_number (grid shape sizes) number ∙ grid_long shape sizes d) (length-tuple_of_number shape 0) in
    let none : row_major sizes tuple ≡ 0 = ap (row_major sizes) (tuple_zeros shape) ∙ row_major_zeros sizes (length shape) in
    omega (arith, sum, none)

place_moved : (shape sizes : List ℕ) (number inside : ℕ) → is_divided shape sizes ≡ true → place_in_shard shape sizes number 0 + place_in_shard shape sizes 0 inside ≡ place_in_shard shape sizes number inside
place_moved shape sizes number inside d =
    let long : (n : ℕ) → length (tuple_of_number (grid shape sizes) n) ≡ length shape = λ n. length-tuple_of_number (grid shape sizes) n ∙ grid_long shape sizes d in
    let here = tuples_added shape sizes (tuple_of_number (grid shape sizes) number) (tuple_of_number shape inside) (divided_long shape sizes d) (long number) (length-tuple_of_number shape inside) in
    let first = tuples_added shape sizes (tuple_of_number (grid shape sizes) 0) (tuple_of_number shape inside) (divided_long shape sizes d) (long 0) (length-tuple_of_number shape inside) in
    let none : row_major sizes (inner_start shape (tuple_of_number (grid shape sizes) 0)) ≡ 0 = ap (row_major sizes) (first_start shape sizes d) ∙ row_major_zeros sizes (length shape) in
    omega (arith, here, first, none, start_is shape sizes number d)

-- the places of an inner chunk
pub places_moved : (shape sizes : List ℕ) (number : ℕ) (runs : List (ℕ × ℕ)) → is_divided shape sizes ≡ true → joined_runs runs ≡ inner_chunk_places shape sizes 0
    → places_from (place_in_shard shape sizes number 0) runs ≡ inner_chunk_places shape sizes number
places_moved shape sizes number runs d e =
    ap (map (λ place. place_in_shard shape sizes number 0 + place)) e
    ∙ map-map (λ place. place_in_shard shape sizes number 0 + place) (place_in_shard shape sizes 0) (range_with_len 0 (product shape))
    ∙ (λ i. map (λ inside. place_moved shape sizes number inside d i) (range_with_len 0 (product shape)))

-- the places of the first inner chunk
pub first_places : (shape sizes : List ℕ) (region : Region) → is_divided shape sizes ≡ true → 0 < inner_chunk_count shape sizes → product sizes < 2 ^ 64
    → record { starts = replicate (length shape) 0; lengths = shape } ≡ region → places_of (subset region) sizes ≡ Ok (inner_chunk_places shape sizes 0)
first_places shape sizes region d some small e =
    let start = first_start shape sizes d in
    let is : region ≡ inner_region shape (tuple_of_number (grid shape sizes) 0) = sym e ∙ (λ i. record { starts = sym start i; lengths = shape }) in
    ap (λ (r : Region). places_of (subset r) sizes) is ∙ places_found shape sizes 0 d (tuple_of_number-inside (grid shape sizes) 0 some) small

-- ---- runs

range_ends : (limit start len : ℕ) → 0 < len → All (λ place. place < limit) (range_with_len start len) → start + len ≤ limit
range_ends limit start zero l h = absurd (omega (arith, l))
range_ends limit start (suc zero) l h = let b = h 0 0 (omega arith) in omega (arith, b)
range_ends limit start (suc (suc len)) l h =
    let b = range_ends limit (start + 1) (suc len) (omega arith) (All-tail (λ place. place < limit) start (range_with_len (start + 1) (suc len)) h) in
    omega (arith, b)

all_left : (P : ℕ → Type 0) (xs ys : List ℕ) → All P (xs ++ ys) → All P xs
all_left P xs ys h = λ k d l. subst P (get_or_append_left xs ys d k l) (h k d (omega (arith, l, length-append xs ys)))

all_right : (P : ℕ → Type 0) (xs ys : List ℕ) → All P (xs ++ ys) → All P ys
all_right P xs ys h = λ k d l. subst P (get_or-append-add xs ys k d) (h (length xs + k) d (omega (arith, l, length-append xs ys)))

-- runs that aren't empty end where their places do
pub runs_end : (limit : ℕ) (runs : List (ℕ × ℕ)) → AreFilled runs → All (λ place. place < limit) (joined_runs runs) → EndWithin limit runs
runs_end limit [] f h = λ k d l. absurd (omega (arith, l))
runs_end limit (run ∷ runs) f h =
    All-cons (λ (r : ℕ × ℕ). r.0 + r.1 ≤ limit) run runs
    (range_ends limit run.0 run.1 (f 0 run (omega arith)) (all_left (λ place. place < limit) (range_with_len run.0 run.1) (joined_runs runs) h))
    (runs_end limit runs (All-tail (λ (r : ℕ × ℕ). 0 < r.1) run runs f) (all_right (λ place. place < limit) (range_with_len run.0 run.1) (joined_runs runs) h))

-- those of an inner chunk end within the chunk
pub moved_within : (shape sizes : List ℕ) (number : ℕ) (runs : List (ℕ × ℕ)) → All (λ part. 0 < part) shape → is_divided shape sizes ≡ true → number < inner_chunk_count shape sizes → joined_runs runs ≡ inner_chunk_places shape sizes 0 → AreFilled runs
    → All (λ run. place_in_shard shape sizes number 0 + (run.0 + run.1) ≤ product sizes) runs
moved_within shape sizes number runs p d l e f =
    let start = place_in_shard shape sizes number 0 in
    let cut = is_cut shape sizes p d in
    let below : All (λ place. place < product sizes - start) (joined_runs runs) = λ k d' b.
    let inside : k < product shape = omega (arith, b, ap length e, places_long shape sizes 0) in
    let here : get_or (joined_runs runs) k d' ≡ place_in_shard shape sizes 0 k = ap (λ ps. get_or ps k d') e ∙ get_or-map-range_with_len (place_in_shard shape sizes 0) 0 (product shape) k k d' inside (omega arith) in
    let whole = cut.place_below number k l inside in
    omega (arith, here, whole, place_moved shape sizes number k d) in
    let ends = runs_end (product sizes - start) runs f below in
    let first = cut.place_below number 0 l (product_positive shape p) in
    λ k d' b. let h = ends k d' b in omega (arith, h, first)

-- ---- moved runs

pub range_moved : (start from len : ℕ) → map (λ place. start + place) (range_with_len from len) ≡ range_with_len (start + from) len
range_moved start from zero = refl
range_moved start from (suc len) =
    let e : start + (from + 1) ≡ start + from + 1 = omega arith in
    ap (λ ps. (start + from) ∷ ps) (range_moved start (from + 1) len ∙ ap (λ n. range_with_len n len) e)

-- what moved runs cover
pub runs_moved : (start : ℕ) (runs : List (ℕ × ℕ)) → joined_runs (map (λ run. (start + run.0, run.1)) runs) ≡ places_from start runs
runs_moved start [] = refl
runs_moved start (run ∷ runs) =
    ap₂ (λ xs ys. xs ++ ys) (sym (range_moved start run.0 run.1)) (runs_moved start runs)
    ∙ sym (map-append (λ place. start + place) (range_with_len run.0 run.1) (joined_runs runs))

-- ---- the loop

-- what is reached of the place where an inner chunk begins, from the last axis to this one
pub record IsReached (shape sizes counts : List ℕ) (number axis rest step place : ℕ) : Type 0 where
  pub axes : axis ≤ length counts
  pub rest_is : rest ≡ front counts (tuple_of_number counts number) axis
  pub step_is : step ≡ product (drop axis sizes)
  pub place_is : place ≡ start_behind shape sizes (tuple_of_number counts number) axis

-- so many axes
pub axes_are : (shape sizes counts : List ℕ) (number : ℕ) → IsInGrid shape sizes counts number → (length counts ≡ length shape) × (length sizes ≡ length shape)
axes_are shape sizes counts number g = (ap length g.counts_are ∙ grid_long shape sizes g.divided, divided_long shape sizes g.divided)

pub reached_start : (shape sizes counts : List ℕ) (number : ℕ) → IsInGrid shape sizes counts number → IsReached shape sizes counts number (length counts) number 1 0
reached_start shape sizes counts number g =
    let axes = axes_are shape sizes counts number g in
    let none : drop (length counts) sizes ≡ [] = drop_all (length counts) sizes (omega (arith, axes.0, axes.1)) in
    record {
      axes = omega arith;
      rest_is = front_all counts number (length counts) g.below refl;
      step_is = sym (ap product none);
      place_is = sym (ap (λ (xs : List ℕ). row_major xs (inner_start (drop (length counts) shape) (drop (length counts) (tuple_of_number counts number)))) none);
    }

pub reached_next : (shape sizes counts : List ℕ) (number before axis rest step place : ℕ) → IsInGrid shape sizes counts number → before ≡ axis + 1 → IsReached shape sizes counts number before rest step place
    → IsReached shape sizes counts number axis (rest / get_or counts axis 0) (step * get_or sizes axis 0) (place + rest % get_or counts axis 0 * get_or shape axis 0 * step)
reached_next shape sizes counts number before axis rest step place g e r =
    let axes = axes_are shape sizes counts number g in
    let tuple = tuple_of_number counts number in
    let inside = tuple_of_number-inside counts number g.below in
    let here : axis < length counts = omega (arith, r.axes, e) in
    let rest_is : rest ≡ front counts tuple (axis + 1) = r.rest_is ∙ ap (front counts tuple) e in
    let step_is : step ≡ product (drop (axis + 1) sizes) = r.step_is ∙ ap (λ n. product (drop n sizes)) e in
    let place_is : place ≡ start_behind shape sizes tuple (axis + 1) = r.place_is ∙ ap (start_behind shape sizes tuple) e in
    let index = last_index counts tuple axis rest inside here rest_is in
    let long : length tuple ≡ length shape = length-tuple_of_number counts number ∙ axes.0 in
    let more = start_more shape sizes tuple axis (omega (arith, here, axes.0)) axes.1 long in
    let turn : product (drop (axis + 1) sizes) * get_or sizes axis 0 ≡ get_or sizes axis 0 * product (drop (axis + 1) sizes) = omega arith in
    let term : rest % get_or counts axis 0 * get_or shape axis 0 * step ≡ get_or tuple axis 0 * get_or shape axis 0 * product (drop (axis + 1) sizes) = λ i. index i * get_or shape axis 0 * step_is i in
    record {
      axes = omega (arith, here);
      rest_is = front_left counts tuple axis rest inside here rest_is;
      step_is = ap (λ n. n * get_or sizes axis 0) step_is ∙ turn ∙ sym (product_drop sizes axis (omega (arith, here, axes.0, axes.1)));
      place_is = omega (arith, place_is, term, more);
    }

-- all numbers on the way are below the number of the chunk's elements
pub record AreSmall (size part rest step place : ℕ) : Type 0 where
  pub part_small : rest * part < 2 ^ 64
  pub row_small : rest * part * step < 2 ^ 64
  pub place_small : place + rest * part * step < 2 ^ 64
  pub step_small : step * size < 2 ^ 64

pub reached_small : (shape sizes counts : List ℕ) (number before axis rest step place : ℕ) → IsInGrid shape sizes counts number → before ≡ axis + 1 → IsReached shape sizes counts number before rest step place
    → AreSmall (get_or sizes axis 0) (get_or shape axis 0) (rest % get_or counts axis 0) step place
reached_small shape sizes counts number before axis rest step place g e r =
    let next = reached_next shape sizes counts number before axis rest step place g e r in
    let tuple = tuple_of_number counts number in
    let start : row_major sizes (inner_start shape tuple) ≡ place_in_shard shape sizes number 0 =
    ap (λ (c : List ℕ). row_major sizes (inner_start shape (tuple_of_number c number))) g.counts_are ∙ sym (start_is shape sizes number g.divided) in
    let below : number < inner_chunk_count shape sizes = omega (arith, g.below, ap product g.counts_are) in
    let whole = (is_cut shape sizes g.positive g.divided).place_below number 0 below (product_positive shape g.positive) in
    let less = start_less shape sizes tuple axis in
    let place_small : place + rest % get_or counts axis 0 * get_or shape axis 0 * step < 2 ^ 64 = omega (arith, next.place_is, less, start, whole, g.small) in
    let some : 0 < step = omega (arith, r.step_is, product_positive-drop sizes before g.sizes_positive) in
    let up = places_are_bytes (rest % get_or counts axis 0 * get_or shape axis 0) step some in
    record {
      part_small = omega (arith, place_small, up);
      row_small = omega (arith, place_small);
      place_small = place_small;
      step_small = omega (arith, next.step_is, product_drop-le sizes axis g.sizes_positive, g.small);
    }

pub reached_end : (shape sizes counts : List ℕ) (number axis rest step place : ℕ) → IsInGrid shape sizes counts number → axis ≡ 0 → IsReached shape sizes counts number axis rest step place → place ≡ place_in_shard shape sizes number 0
reached_end shape sizes counts number axis rest step place g e r =
    r.place_is ∙ ap (start_behind shape sizes (tuple_of_number counts number)) e
    ∙ ap (λ (c : List ℕ). row_major sizes (inner_start shape (tuple_of_number c number))) g.counts_are ∙ sym (start_is shape sizes number g.divided)

-- ---- the first runs

pub first_given : (shape sizes : List ℕ) (r : Result (Vec (ℕ × ℕ) Global) CodecError) → Gives places_in r (Ok (inner_chunk_places shape sizes 0)) → IfOk r (λ v. AreFilled v.items) → GivesFirstRuns shape sizes r
first_given shape sizes (Ok runs) g f =
    record { is = record { places = sym (ok_places (inner_chunk_places shape sizes 0) (joined_runs runs.items) g.is); filled = f }; no_fault = refl }
  where
    ok_places : (xs ys : List ℕ) → ◌≡◌ {A = Result (List ℕ) CodecError} (Ok xs) (Ok ys) → xs ≡ ys
    ok_places xs ys e = cc
first_given shape sizes (Err cause) g f =
    record { is = λ quiet. absurd (none (inner_chunk_places shape sizes 0) (g.is quiet)); no_fault = g.no_fault }
  where
    none : (xs : List ℕ) → ◌≡◌ {A = Result (List ℕ) CodecError} (Ok xs) (Err cause) → ⊥
    none xs e = cc

pub some_chunks : (shape sizes : List ℕ) → All (λ part. 0 < part) shape → All (λ size. 0 < size) sizes → is_divided shape sizes ≡ true → 0 < inner_chunk_count shape sizes
some_chunks shape sizes p q d = product_positive (grid shape sizes) (grid_positive shape sizes q (is_cut shape sizes p d))

-- the box of the first inner chunk
pub region_is : (shape lengths : List ℕ) (region : Region) → lengths ≡ shape → ◌≡◌ {A = Result Region CodecError} (Ok (record { starts = replicate (length lengths) 0; lengths = lengths })) (Ok region) → record { starts = replicate (length shape) 0; lengths = shape } ≡ region
region_is shape lengths region e h = (λ i. record { starts = replicate (length (sym e i)) 0; lengths = sym e i }) ∙ ok_region (record { starts = replicate (length lengths) 0; lengths = lengths }) region h
  where
    ok_region : (a b : Region) → ◌≡◌ {A = Result Region CodecError} (Ok a) (Ok b) → a ≡ b
    ok_region a b e = cc

-- ---- an inner chunk as the loop over all of them has it

pub in_grid : (shape sizes counts parts others given : List ℕ) (number : ℕ) → parts ≡ shape → others ≡ sizes → given ≡ counts → counts ≡ grid shape sizes → All (λ n. 0 < n) parts → All (λ n. 0 < n) others → All (λ n. 0 < n) given
    → is_divided shape sizes ≡ true → number < inner_chunk_count shape sizes → product sizes < 2 ^ 64 → IsInGrid parts others given number
in_grid shape sizes counts parts others given number p o g c a b d e l s = record {
  positive = a;
  sizes_positive = b;
  counts_positive = d;
  divided = (λ i. is_divided (p i) (o i)) ∙ e;
  counts_are = g ∙ c ∙ (λ i. grid (sym p i) (sym o i));
  below = let n = ap product (g ∙ c) in omega (arith, l, n);
  small = let n = ap product o in omega (arith, s, n);
}

-- the runs of the first inner chunk, so many elements further on, are those of the inner chunk of a number
pub record IsNext (shape sizes : List ℕ) (number start : ℕ) (runs : List (ℕ × ℕ)) : Type 0 where
  pub places : places_from start runs ≡ inner_chunk_places shape sizes number
  pub count : length (joined_runs runs) ≡ product shape
  pub inside : All (λ run. start + (run.0 + run.1) ≤ product sizes) runs

pub is_next : (shape sizes parts others : List ℕ) (number start : ℕ) (runs given : List (ℕ × ℕ)) → parts ≡ shape → others ≡ sizes → All (λ n. 0 < n) parts → is_divided shape sizes ≡ true → number < inner_chunk_count shape sizes
    → AreFirstRuns shape sizes runs → given ≡ runs → start ≡ place_in_shard parts others number 0 → IsNext shape sizes number start given
is_next shape sizes parts others number start runs given p o positive d l first g e =
    let at : start ≡ place_in_shard shape sizes number 0 = e ∙ (λ i. place_in_shard (p i) (o i) number 0) in
    let within = moved_within shape sizes number runs (subst (All (λ n. 0 < n)) p positive) d l first.places first.filled in
    record {
      places = (λ i. places_from (at i) (g i)) ∙ places_moved shape sizes number runs d first.places;
      count = ap (λ (rs : List (ℕ × ℕ)). length (joined_runs rs)) g ∙ ap length first.places ∙ places_long shape sizes 0;
      inside = subst (λ (rs : List (ℕ × ℕ)). All (λ run. start + (run.0 + run.1) ≤ product sizes) rs) (sym g) (subst (λ (n : ℕ). All (λ run. n + (run.0 + run.1) ≤ product sizes) runs) (sym at) within);
    }

-- ---- the moved runs

pub moved_end : (start count : ℕ) (runs : List (ℕ × ℕ)) → All (λ run. start + (run.0 + run.1) ≤ count) runs → EndWithin count (map (λ run. (start + run.0, run.1)) runs)
moved_end start count [] h = λ k d l. absurd (omega (arith, l))
moved_end start count (run ∷ runs) h =
    let first : start + (run.0 + run.1) ≤ count = All-head (λ (r : ℕ × ℕ). start + (r.0 + r.1) ≤ count) run runs h in
    All-cons (λ (r : ℕ × ℕ). r.0 + r.1 ≤ count) (start + run.0, run.1) (map (λ (r : ℕ × ℕ). (start + r.0, r.1)) runs) (omega (arith, first))
    (moved_end start count runs (All-tail (λ (r : ℕ × ℕ). start + (r.0 + r.1) ≤ count) run runs h))
