-- A number belongs to one tuple, and what the test for a tuple decides.
use Rattle.std.proofs.Common.{◌≡◌, ◌↔◌, ℕ, ◌+◌, ◌*◌, ◌<◌, ◌≤◌, ◌∙◌, true, List, [], ◌∷◌, arith, refl, ap, sym}
use Rattle.std.proofs.lemmas.Bool.{and_parts}
use Rattle.std.proofs.Math.Nat.{mul-le-mul_right}
use Rattle.zarrs_chunk.specs.ChunkShape.{product}
use Rattle.zarrs_chunk.specs.InsideByAxis.{IsInShape}
use Rattle.zarrs_chunk.specs.Tuples.{row_major, is_tuple_inside}
use Rattle.zarrs_chunk.proofs.Inside.{is_tuple_inside-length, is_tuple_inside-at, is_tuple_inside-all, row_major-below}

-- the lower front has the lower number
not_lower : (one other front rest total : ℕ) → front < total → one * total + front ≡ other * total + rest → one < other → ⊥
not_lower one other front rest total h e l =
    let step : one + 1 ≤ other = omega arith in
    omega (arith, mul-le-mul_right total step)

same_front : (one other front rest total : ℕ) → front < total → rest < total → one * total + front ≡ other * total + rest → one ≡ other
same_front one other front rest total p q e =
    let below : one < other → ⊥ = not_lower one other front rest total p e in
    let above : other < one → ⊥ = not_lower other one rest front total q (sym e) in
    omega arith

pub same_tuple : (sizes one other : List ℕ) → is_tuple_inside sizes one ≡ true → is_tuple_inside sizes other ≡ true → row_major sizes one ≡ row_major sizes other → one ≡ other
same_tuple [] [] [] p q e = refl
same_tuple [] [] (index ∷ other) p q e = absurd (cc)
same_tuple [] (index ∷ one) other p q e = absurd (cc)
same_tuple (size ∷ sizes) [] other p q e = absurd (cc)
same_tuple (size ∷ sizes) (index ∷ one) [] p q e = absurd (cc)
same_tuple (size ∷ sizes) (index ∷ one) (place ∷ other) p q e =
    let b = row_major-below sizes one (and_parts _ _ p).1 in
    let d = row_major-below sizes other (and_parts _ _ q).1 in
    let first : index ≡ place = same_front index place (row_major sizes one) (row_major sizes other) (product sizes) b d e in
    let numbers : row_major sizes one ≡ row_major sizes other = rest_of index place (row_major sizes one) (row_major sizes other) (product sizes) first e in
    ap (λ i. i ∷ one) first ∙ ap (λ t. place ∷ t) (same_tuple sizes one other (and_parts _ _ p).1 (and_parts _ _ q).1 numbers)
  where
    rest_of : (a b r s t : ℕ) → a ≡ b → a * t + r ≡ b * t + s → r ≡ s
    rest_of a b r s t e f = let g : a * t + r ≡ a * t + s = f ∙ ap (λ n. n * t + s) (sym e) in omega arith

pub inside_by_axis : (sizes tuple : List ℕ) → (is_tuple_inside sizes tuple ≡ true) ↔ IsInShape sizes tuple
inside_by_axis sizes tuple = (
  (λ h. record { axes = is_tuple_inside-length sizes tuple h; below = λ axis l. is_tuple_inside-at sizes tuple axis h l }),
  (λ r. is_tuple_inside-all sizes tuple r.axes r.below),
)
