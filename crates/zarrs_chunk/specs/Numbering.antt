-- Lists of index tuples that are tested and numbered in one pass.
use Rattle.std.specs.Prelude.{◌≡◌, ◌==◌, ℕ, Bool, true, false, List, map, length, Result, MatchResult}
use Rattle.std.specs.List.{list_all}
use Rattle.zarrs_chunk.specs.Answer.{Excused, memory}
use Rattle.zarrs_chunk.specs.Tuples.{row_major, is_tuple_inside}
use Rattle.zarrs_chunk.specs.declared.codec_error.CodecError.{CodecError}
use Rattle.zarrs_chunk.specs.declared.codec_error.CodecError.TheVariants.{OutOfBounds}

-- each of the tuples has so many numbers
abbrev pub are_of_axes : ℕ → List (List ℕ) → Bool
are_of_axes axes tuples = list_all (λ tuple. length tuple == axes) tuples

-- each of the tuples lies inside
abbrev pub are_tuples_inside : List ℕ → List (List ℕ) → Bool
are_tuples_inside sizes tuples = list_all (λ tuple. is_tuple_inside sizes tuple) tuples

-- the row-major numbers of the tuples, in list order
abbrev pub numbers_of_tuples : List ℕ → List (List ℕ) → List ℕ
numbers_of_tuples sizes tuples = map (row_major sizes) tuples

-- the call is Ok only where this test for what lies inside passes, and returns `OutOfBounds` where it doesn't; `OutOfMemory` may come at any time
abbrev pub IsOkInside : {T : Type 0} → Bool → Result T CodecError → Type 0
IsOkInside inside result =
    MatchResult result (λ _. inside ≡ true) (λ e. Excused (memory e) ((inside ≡ false) × (e ≡ OutOfBounds)))
