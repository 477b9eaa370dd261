-- Tuples whose numbers stand one after another.
use Rattle.std.proofs.Common.{◌≡◌, ℕ, zero, suc, ◌+◌, ◌*◌, ◌<◌, ◌≤◌, ◌==◌, ◌&&◌, Bool, true, false, List, [], ◌∷◌, ◌++◌, get_or, length, take, drop, arith, refl, ap, sym, ◌∙◌, mul-suc, length-drop}
use Rattle.std.specs.Bool.{nat_eq}
use Rattle.std.specs.List.{flat_map}
use Rattle.std.proofs.lemmas.Bool.{and_from, eq-eqb}
use Rattle.std.proofs.lemmas.Bool.Decides.{nat_tests}
use Rattle.std.proofs.lemmas.List.{drop-drop, length-take-le, take-append-drop}
use Rattle.std.proofs.lemmas.Nat.{row_fits_turned}
use Rattle.zarrs_chunk.specs.IndexTuples.{rows}
use Rattle.zarrs_chunk.specs.Numbering.{are_of_axes}

pub length-rows : (axes count : ℕ) (numbers : List ℕ) → length (rows axes count numbers) ≡ count
length-rows axes zero numbers = refl
length-rows axes (suc count) numbers = ap suc (length-rows axes count (drop axes numbers))

-- a tuple's numbers stand behind those of the tuples before it
pub row_at : (axes count index : ℕ) (numbers : List ℕ) → index < length (rows axes count numbers) → get_or (rows axes count numbers) index [] ≡ take axes (drop (index * axes) numbers)
row_at axes zero index numbers l = absurd (omega arith)
row_at axes (suc count) zero numbers l =
    let none : 0 ≡ 0 * axes = omega arith in
    ap (λ n. take axes (drop n numbers)) none
row_at axes (suc count) (suc index) numbers l =
    let next : axes + index * axes ≡ suc index * axes = omega arith in
    row_at axes count index (drop axes numbers) (omega (arith, l))
    ∙ ap (take axes) (drop-drop (index * axes) axes numbers ∙ ap (λ n. drop n numbers) next)

-- and end within all the numbers
pub row_ends : (axes count index : ℕ) (numbers : List ℕ) → axes * count ≡ length numbers → index < length (rows axes count numbers) → index * axes + axes ≤ length numbers
row_ends axes count index numbers e l =
    omega (arith, e, row_fits_turned index axes axes count (omega (arith, l, length-rows axes count numbers)) (omega arith))

more_left : (axes count : ℕ) (numbers : List ℕ) → axes * suc count ≡ length numbers → axes * count ≡ length (drop axes numbers)
more_left axes count numbers e = omega (arith, e, mul-suc axes count, length-drop axes numbers)

first_length : (axes count : ℕ) (numbers : List ℕ) → axes * suc count ≡ length numbers → length (take axes numbers) ≡ axes
first_length axes count numbers e = length-take-le axes numbers (omega (arith, e, mul-suc axes count))

-- all of them have so many numbers
pub rows_of_axes : (axes count : ℕ) (numbers : List ℕ) → axes * count ≡ length numbers → are_of_axes axes (rows axes count numbers) ≡ true
rows_of_axes axes zero numbers e = refl
rows_of_axes axes (suc count) numbers e =
    and_from _ _ (eq-eqb _ _ (first_length axes count numbers e)) (rows_of_axes axes count (drop axes numbers) (more_left axes count numbers e))

-- and they are all the numbers
pub rows_joined : (axes count : ℕ) (numbers : List ℕ) → axes * count ≡ length numbers → flat_map (λ tuple. tuple) (rows axes count numbers) ≡ numbers
rows_joined axes zero numbers e = sym (none numbers (omega (arith, e)))
  where
    none : (xs : List ℕ) → length xs ≡ 0 → xs ≡ []
    none [] l = refl
    none (x ∷ xs) l = absurd (omega arith)
rows_joined axes (suc count) numbers e =
    ap (λ rest. take axes numbers ++ rest) (rows_joined axes count (drop axes numbers) (more_left axes count numbers e)) ∙ take-append-drop axes numbers

-- where there are some, no other number of numbers is right
pub rows_of_other_axes : (axes count other : ℕ) (numbers : List ℕ) → 0 < count → axes * count ≡ length numbers → are_of_axes other (rows axes count numbers) ≡ nat_eq axes other
rows_of_other_axes axes zero other numbers l e = absurd (omega arith)
rows_of_other_axes axes (suc count) other numbers l e = by_test (nat_eq axes other) refl
  where
    first : (length (take axes numbers) == other) ≡ nat_eq axes other
    first = ap (λ n. n == other) (first_length axes count numbers e)

    by_test : (test : Bool) → nat_eq axes other ≡ test → are_of_axes other (rows axes (suc count) numbers) ≡ nat_eq axes other
    by_test true is =
        let same : axes ≡ other = grind (arith, nat_tests) in
        ap (λ n. are_of_axes n (rows axes (suc count) numbers)) (sym same) ∙ rows_of_axes axes (suc count) numbers e ∙ sym is
    by_test false is = ap (λ b. b && are_of_axes other (rows axes count (drop axes numbers))) (first ∙ is) ∙ sym is
