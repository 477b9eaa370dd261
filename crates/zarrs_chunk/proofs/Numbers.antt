-- Numbers of tuples, and tuples of numbers.
use Rattle.std.proofs.Common.{◌≡◌, ℕ, ◌+◌, ◌*◌, ◌/◌, ◌%◌, ◌^◌, ◌<◌, ◌≤◌, ◌∙◌, ◌&&◌, if◌then◌else◌, Bool, true, false, Some, None, List, length, get_or, drop, set, nat_lt, arith, refl, ap, sym}
use Rattle.std.specs.List.{All}
use Rattle.std.proofs.lemmas.Bool.Decides.{nat_tests}
use Rattle.std.proofs.lemmas.Bool.{and_from}
use Rattle.std.proofs.lemmas.List.{drop_more, drop-set}
use Rattle.std.proofs.Math.Nat.{div-add-mod, mod-lt}
use Rattle.zarrs_chunk.specs.ChunkShape.{product}
use Rattle.zarrs_chunk.specs.Levels.{number_behind}
use Rattle.zarrs_chunk.specs.Tuples.{row_major, is_tuple_inside}
use Rattle.zarrs_chunk.proofs.Inside.{is_tuple_inside-length, number_behind-more, number_behind-end, number_behind-drop-le}

-- ---- ravel

-- the number of a tuple inside, where 64 bits hold it
fits : (inside : Bool) (number : ℕ) → inside ≡ true → number < 2 ^ 64 → (if inside && nat_lt number (2 ^ 64) then Some number else None) ≡ Some number
fits inside number h l =
    let t : nat_lt number (2 ^ 64) ≡ true = grind (arith, nat_tests) in
    rw (h, t) refl

overflows : (inside : Bool) (number : ℕ) → inside ≡ true → 2 ^ 64 ≤ number → (if inside && nat_lt number (2 ^ 64) then Some number else None) ≡ None
overflows inside number h l =
    let t : nat_lt number (2 ^ 64) ≡ false = grind (arith, nat_tests) in
    rw (h, t) refl

-- where one axis more passes 64 bits, so does the whole number
pub ravel_overflows : (sizes tuple : List ℕ) (number axis : ℕ) → is_tuple_inside sizes tuple ≡ true → axis < length sizes → number_behind number (drop axis sizes) (drop axis tuple) ≡ row_major sizes tuple → 2 ^ 64 ≤ number * get_or sizes axis 0 + get_or tuple axis 0 → (if is_tuple_inside sizes tuple && nat_lt (row_major sizes tuple) (2 ^ 64) then Some (row_major sizes tuple) else None) ≡ None
ravel_overflows sizes tuple number axis inside h e passes =
    let l : axis < length tuple = omega (arith, is_tuple_inside-length sizes tuple inside) in
    let more = number_behind-more sizes tuple number axis h l ∙ e in
    let le = number_behind-drop-le sizes tuple (number * get_or sizes axis 0 + get_or tuple axis 0) (axis + 1) inside in
    overflows (is_tuple_inside sizes tuple) (row_major sizes tuple) inside (omega (arith, more, le))

-- behind all axes, the number is the tuple's
pub ravel_ends : (sizes tuple : List ℕ) (number axis : ℕ) → is_tuple_inside sizes tuple ≡ true → length sizes ≤ axis → number < 2 ^ 64 → number_behind number (drop axis sizes) (drop axis tuple) ≡ row_major sizes tuple → Some number ≡ (if is_tuple_inside sizes tuple && nat_lt (row_major sizes tuple) (2 ^ 64) then Some (row_major sizes tuple) else None)
ravel_ends sizes tuple number axis inside h small e =
    let same : number ≡ row_major sizes tuple = sym (number_behind-end sizes tuple number axis h) ∙ e in
    ap (λ n. Some n) same ∙ sym (fits (is_tuple_inside sizes tuple) (row_major sizes tuple) inside (omega (arith, same)))

-- ---- unravel

quotient_step : (rest size total number : ℕ) → (rest / size) * (size * total) + ((rest % size) * total + number) ≡ rest * total + number
quotient_step rest size total number =
    let e = div-add-mod rest size in
    let m : (rest / size) * (size * total) + ((rest % size) * total + number) ≡ (size * (rest / size) + rest % size) * total + number = omega arith in
    m ∙ ap (λ n. n * total + number) e

-- one axis more, from the back
pub unravel_number : (sizes tuple : List ℕ) (axis rest : ℕ) → axis < length sizes → length tuple ≡ length sizes → number_behind (rest / get_or sizes axis 0) (drop axis sizes) (drop axis (set tuple axis (rest % get_or sizes axis 0))) ≡ number_behind rest (drop (axis + 1) sizes) (drop (axis + 1) tuple)
unravel_number sizes tuple axis rest h e =
    rw (drop_more sizes axis 0 h, drop-set tuple axis (rest % get_or sizes axis 0) (omega arith)) (quotient_step rest (get_or sizes axis 0) (product (drop (axis + 1) sizes)) (row_major (drop (axis + 1) sizes) (drop (axis + 1) tuple)))

pub unravel_inside : (sizes tuple : List ℕ) (axis rest : ℕ) → axis < length sizes → length tuple ≡ length sizes → All (λ size. 0 < size) sizes → is_tuple_inside (drop (axis + 1) sizes) (drop (axis + 1) tuple) ≡ true → is_tuple_inside (drop axis sizes) (drop axis (set tuple axis (rest % get_or sizes axis 0))) ≡ true
unravel_inside sizes tuple axis rest h e positive inside =
    let below : rest % get_or sizes axis 0 < get_or sizes axis 0 = mod-lt rest (positive axis 0 h) in
    let t : nat_lt (rest % get_or sizes axis 0) (get_or sizes axis 0) ≡ true = grind (arith, nat_tests) in
    rw (drop_more sizes axis 0 h, drop-set tuple axis (rest % get_or sizes axis 0) (omega arith)) (and_from _ _ t inside)
