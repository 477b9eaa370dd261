-- Axes at the end that a box covers whole join into runs.
use Rattle.std.proofs.Common.{◌≡◌, ℕ, zero, suc, ◌+◌, ◌-◌, ◌*◌, ◌<◌, ◌≤◌, true, List, [], ◌∷◌, ◌++◌, length, get_or, drop, arith, refl, ap, ◌∙◌, sym}
use Rattle.std.specs.List.{All, flat_map, range_with_len}
use Rattle.std.proofs.lemmas.List.{drop_all}
use Rattle.std.proofs.lemmas.List.Concat.{flat_map-append}
use Rattle.std.proofs.Math.Nat.{mul-le-mul_right}
use Rattle.zarrs_chunk.specs.ChunkShape.{product}
use Rattle.zarrs_chunk.specs.Levels.{numbers_behind, box_places, IsFitting, AreWhole, rows_behind}
use Rattle.zarrs_chunk.specs.Runs.{joined_runs}
use Rattle.zarrs_chunk.specs.Tuples.{is_box_inside}
use Rattle.std.proofs.lemmas.List.Elements.{All-push}
use Rattle.zarrs_chunk.proofs.BoxTuples.{numbers_behind-more, numbers_behind-end, numbers_behind-start}
use Rattle.zarrs_chunk.proofs.Consecutive.{range-append}
use Rattle.zarrs_chunk.proofs.Inside.{is_box_inside-at}
use Rattle.zarrs_chunk.proofs.Products.{product_drop}

-- the numbers that the numbers of a list stand for, `whole` for each
abbrev pub spread : ℕ → List ℕ → List ℕ
spread whole numbers = flat_map (λ number. range_with_len (number * whole) whole) numbers

-- a row for each front, each number of which stands for as many as `whole` says
abbrev pub spread_rows : ℕ → ℕ → ℕ → ℕ → List ℕ → List ℕ
spread_rows size start len whole fronts = flat_map (λ front. range_with_len ((front * size + start) * whole) (len * whole)) fronts

spread-range : (whole n b : ℕ) → spread whole (range_with_len b n) ≡ range_with_len (b * whole) (n * whole)
spread-range whole zero b = ap (range_with_len (b * whole)) (let e : 0 ≡ 0 * whole = omega arith in e)
spread-range whole (suc n) b =
    ap (λ ns. range_with_len (b * whole) whole ++ ns) (spread-range whole n (b + 1))
    ∙ ap (λ c. range_with_len (b * whole) whole ++ range_with_len c (n * whole)) (let e : (b + 1) * whole ≡ b * whole + whole = omega arith in e)
    ∙ sym (range-append (b * whole) whole (n * whole))
    ∙ ap (range_with_len (b * whole)) (let e : whole + n * whole ≡ suc n * whole = omega arith in e)

pub spread-rows : (whole size start len : ℕ) (fronts : List ℕ) → spread whole (rows_behind size start len fronts) ≡ spread_rows size start len whole fronts
spread-rows whole size start len [] = refl
spread-rows whole size start len (front ∷ fronts) =
    flat_map-append (λ number. range_with_len (number * whole) whole) (range_with_len (front * size + start) len) (rows_behind size start len fronts)
    ∙ ap (λ ns. ns ++ spread whole (rows_behind size start len fronts)) (spread-range whole len (front * size + start))
    ∙ ap (λ ns. range_with_len ((front * size + start) * whole) (len * whole) ++ ns) (spread-rows whole size start len fronts)

whole_rows : (whole size : ℕ) (fronts : List ℕ) → spread_rows size 0 size whole fronts ≡ spread (size * whole) fronts
whole_rows whole size [] = refl
whole_rows whole size (front ∷ fronts) =
    ap (λ b. range_with_len b (size * whole) ++ spread_rows size 0 size whole fronts) (let e : (front * size + 0) * whole ≡ front * (size * whole) = omega arith in e)
    ∙ ap (λ ns. range_with_len (front * (size * whole)) (size * whole) ++ ns) (whole_rows whole size fronts)

spread-one : (numbers : List ℕ) → spread 1 numbers ≡ numbers
spread-one [] = refl
spread-one (number ∷ numbers) =
    ap (λ b. b ∷ spread 1 numbers) (let e : number * 1 ≡ number = omega arith in e) ∙ ap (λ ns. number ∷ ns) (spread-one numbers)

-- behind fronts, axes that are covered whole have all numbers
pub whole_behind : (n axes : ℕ) (sizes starts lengths fronts : List ℕ) → axes + n ≡ length sizes → length starts ≡ length sizes → length lengths ≡ length sizes → AreWhole axes (length sizes) sizes starts lengths → numbers_behind (drop axes sizes) (drop axes starts) (drop axes lengths) fronts ≡ spread (product (drop axes sizes)) fronts
whole_behind zero axes sizes starts lengths fronts e f g w =
    numbers_behind-end sizes starts (drop axes lengths) fronts axes (omega arith) (omega arith)
    ∙ sym (ap (λ (ns : List ℕ). spread (product ns) fronts) (drop_all axes sizes (omega arith)) ∙ spread-one fronts)
whole_behind (suc n) axes sizes starts lengths fronts e f g w =
    let size = get_or sizes axes 0 in
    let whole = product (drop (axes + 1) sizes) in
    let is = w axes (omega arith) (omega arith) in
    numbers_behind-more sizes starts lengths fronts axes (omega arith) (omega arith) (omega arith)
    ∙ whole_behind n (axes + 1) sizes starts lengths (rows_behind size (get_or starts axes 0) (get_or lengths axes 0) fronts) (omega arith) f g (λ k p q. w k (omega arith) q)
    ∙ ap (λ start. spread whole (rows_behind size start (get_or lengths axes 0) fronts)) is.0
    ∙ ap (λ len. spread whole (rows_behind size 0 len fronts)) is.1
    ∙ spread-rows whole size 0 size fronts
    ∙ whole_rows whole size fronts
    ∙ ap (λ t. spread t fronts) (sym (product_drop sizes axes (omega arith)))

-- behind the fronts over the axes before `last` there are its rows, each number of which stands for all axes after it
pub rows_before_whole : (sizes starts lengths fronts : List ℕ) (last axes : ℕ) → axes ≡ last + 1 → axes ≤ length sizes → length starts ≡ length sizes → length lengths ≡ length sizes → AreWhole axes (length sizes) sizes starts lengths → numbers_behind (drop last sizes) (drop last starts) (drop last lengths) fronts ≡ spread_rows (get_or sizes last 0) (get_or starts last 0) (get_or lengths last 0) (product (drop axes sizes)) fronts
rows_before_whole sizes starts lengths fronts last axes e h f g w =
    let size = get_or sizes last 0 in
    let start = get_or starts last 0 in
    let len = get_or lengths last 0 in
    numbers_behind-more sizes starts lengths fronts last (omega arith) (omega arith) (omega arith)
    ∙ ap (λ n. numbers_behind (drop n sizes) (drop n starts) (drop n lengths) (rows_behind size start len fronts)) (sym e)
    ∙ whole_behind (length sizes - axes) axes sizes starts lengths (rows_behind size start len fronts) (omega arith) f g w
    ∙ spread-rows (product (drop axes sizes)) size start len fronts

-- a row ends within the elements, and so does what its numbers stand for
row_room : (place size rest start len total : ℕ) → start + len ≤ size → (place + 1) * (size * rest) ≤ total → (place * size + start) * rest + len * rest ≤ total
row_room place size rest start len total h room =
    let m : place * size + start + len ≤ (place + 1) * size = omega arith in
    omega (arith, mul-le-mul_right rest m)

pub whole_row_fits : (sizes starts lengths fronts : List ℕ) (last axes k : ℕ) → axes ≡ last + 1 → last < length sizes → is_box_inside sizes starts lengths ≡ true → IsFitting (product sizes) (product (drop last sizes)) fronts → k < length fronts → (get_or fronts k 0 * get_or sizes last 0 + get_or starts last 0) * product (drop axes sizes) + get_or lengths last 0 * product (drop axes sizes) ≤ product sizes
whole_row_fits sizes starts lengths fronts last axes k e h inside fitting l =
    rw e (row_room (get_or fronts k 0) (get_or sizes last 0) (product (drop (last + 1) sizes)) (get_or starts last 0) (get_or lengths last 0) (product sizes)
    (is_box_inside-at sizes starts lengths last inside h)
    (rw (← product_drop sizes last h) (fitting k l)))

-- the product of the last axes is no more than that of all
pub product_drop-le : (sizes : List ℕ) (axis : ℕ) → All (λ size. 0 < size) sizes → product (drop axis sizes) ≤ product sizes
product_drop-le [] zero h = omega arith
product_drop-le [] (suc axis) h = omega arith
product_drop-le (size ∷ sizes) zero h = omega arith
product_drop-le (size ∷ sizes) (suc axis) h =
    let r = product_drop-le sizes axis (λ k d l. h (suc k) d (omega arith)) in
    let one : 1 ≤ size = h 0 0 (omega arith) in
    omega (arith, r, mul-le-mul_right (product sizes) one)

-- a box that covers all axes whole is one run
pub all_whole : (sizes starts lengths : List ℕ) (axes : ℕ) → axes ≡ 0 → length starts ≡ length sizes → length lengths ≡ length sizes → AreWhole axes (length sizes) sizes starts lengths → joined_runs ((0, product sizes) ∷ []) ≡ box_places sizes starts lengths
all_whole sizes starts lengths axes e f g w =
    ap (λ b. range_with_len b (product sizes) ++ []) (let z : 0 ≡ 0 * product sizes = omega arith in z)
    ∙ sym (whole_behind (length sizes) 0 sizes starts lengths (0 ∷ []) (omega arith) f g (λ k p q. w k (omega arith) q))
    ∙ numbers_behind-start sizes starts lengths

-- one run that isn't empty
pub one_filled : (len : ℕ) → 0 < len → All (λ (run : ℕ × ℕ). 0 < run.1) ((0, len) ∷ [])
one_filled len h = All-push (λ (run : ℕ × ℕ). 0 < run.1) [] (0, len) (λ k d l. absurd (omega arith)) h

-- a row that stands for something
pub positive_whole : (a b : ℕ) → 0 < a → 0 < b → 0 < a * b
positive_whole a b p q =
    let one : 1 ≤ a = p in
    omega (arith, mul-le-mul_right b one)
