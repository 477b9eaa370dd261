-- Tuples of no numbers.
use Rattle.std.proofs.Common.{◌≡◌, ℕ, ◌==◌, true, List, [], ◌∷◌, length, Ok, arith, refl}
use Rattle.std.proofs.lemmas.Bool.{and_parts, eqb-true}
use Rattle.zarrs_chunk.specs.Numbering.{are_of_axes, are_tuples_inside}
use Rattle.zarrs_chunk.specs.Selection.{indices, bounds_of}

-- they all lie inside a chunk without axes
none_outside : (tuples : List (List ℕ)) → are_of_axes 0 tuples ≡ true → are_tuples_inside [] tuples ≡ true
none_outside [] h = refl
none_outside ([] ∷ tuples) h = none_outside tuples (and_parts true (are_of_axes 0 tuples) h).1
none_outside ((index ∷ tuple) ∷ tuples) h =
    let none = eqb-true (length (index ∷ tuple)) 0 (and_parts (length (index ∷ tuple) == 0) (are_of_axes 0 tuples) h).0 in
    absurd (omega (arith, none))

pub none_refused : (sizes : List ℕ) (tuples : List (List ℕ)) → length sizes ≡ 0 → are_of_axes (length sizes) tuples ≡ true → bounds_of (indices tuples) sizes ≡ Ok tt
none_refused [] tuples l h = rw (h, none_outside tuples h) refl
none_refused (size ∷ sizes) tuples l h = absurd (omega (arith, l))
