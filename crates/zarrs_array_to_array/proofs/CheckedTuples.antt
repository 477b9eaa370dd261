-- What a check of tuples that passed proves.
use Rattle.std.proofs.Common.{◌≡◌, ℕ, Bool, true, false, Ok, List, length, refl}
use Rattle.zarrs_chunk.specs.Answer.{demand, ◌>>=◌}
use Rattle.zarrs_chunk.specs.Numbering.{are_of_axes, are_tuples_inside}
use Rattle.zarrs_chunk.specs.Selection.{indices, bounds_of}
use Rattle.zarrs_chunk.specs.declared.codec_error.CodecError.{CodecError}
use Rattle.zarrs_chunk.specs.declared.codec_error.CodecError.TheVariants.{IncompatibleDimensionality, OutOfBounds}

passed : (a b : Bool) (e f : CodecError) → Ok tt ≡ (demand a e >>= λ _. demand b f) → b ≡ true
passed true true e f h = refl
passed true false e f h = absurd (cc)
passed false b e f h = absurd (cc)

-- the tuples lie inside
pub tuples_inside : (tuples : List (List ℕ)) (sizes : List ℕ) → Ok tt ≡ bounds_of (indices tuples) sizes → are_tuples_inside sizes tuples ≡ true
tuples_inside tuples sizes h =
    passed (are_of_axes (length sizes) tuples) (are_tuples_inside sizes tuples) IncompatibleDimensionality OutOfBounds h
