-- Two axes, the second one first.
use Rattle.std.proofs.Common.{◌≡◌, ◌*◌, ◌∷◌, [], List, ℕ, length, get_or, ap, arith}
use Rattle.zarrs_chunk.specs.ChunkShape.{product}
use Rattle.zarrs_array_to_array.specs.declared.transpose.axis.Axis.{Axis}
use Rattle.zarrs_array_to_array.specs.Axes.{behind}
use Rattle.zarrs_array_to_array.specs.Orders.{permuted}
use Rattle.zarrs_array_to_array.specs.Strides.{all_stepped, next_rows, strides}

-- the axes of a chunk of these two sizes, the second one first
abbrev pub swapped : List ℕ → List Axis
swapped sizes =
    record { size = get_or sizes 1 0; step = 1 } ∷ record { size = get_or sizes 0 0; step = get_or sizes 1 0 } ∷ []

-- their places are those of the axes in the other order
pub swapped_places : (sizes : List ℕ) → length sizes ≡ 2 → behind (swapped sizes) (0 ∷ []) ≡ all_stepped (permuted (1 ∷ 0 ∷ []) sizes) (permuted (1 ∷ 0 ∷ []) (strides sizes))
swapped_places [] e = absurd (omega arith)
swapped_places (a ∷ []) e = absurd (omega arith)
swapped_places (a ∷ b ∷ []) e =
    let one : b ≡ b * 1 = omega arith in
    ap (λ (step : ℕ). next_rows step a (next_rows 1 b (0 ∷ []))) one
swapped_places (a ∷ b ∷ c ∷ sizes) e = absurd (omega arith)

-- and there are as many as elements
pub swapped_count : (sizes : List ℕ) → length sizes ≡ 2 → product sizes ≡ get_or sizes 1 0 * (get_or sizes 0 0 * 1)
swapped_count [] e = absurd (omega arith)
swapped_count (a ∷ []) e = absurd (omega arith)
swapped_count (a ∷ b ∷ []) e = grind arith
swapped_count (a ∷ b ∷ c ∷ sizes) e = absurd (omega arith)
