-- What holds of the places of a selection, where it is in bounds.
use Rattle.std.proofs.Common.{◌≡◌, ◌==◌, ℕ, zero, suc, ◌<◌, ◌^◌, Bool, true, false, Ok, Err, List, [], ◌∷◌, length, get_or, map, nat_lt, arith, refl, IfOk, if◌then◌else◌}
use Rattle.std.specs.List.{All, list_all}
use Rattle.std.specs.List.Sorted.{IsStrictlyIncreasing}
use Rattle.std.proofs.lemmas.Bool.{and_parts}
use Rattle.zarrs_chunk.specs.Answer.{demand, ◌>>=◌}
use Rattle.zarrs_chunk.specs.ChunkShape.{product}
use Rattle.zarrs_chunk.specs.Region.{Region}
use Rattle.zarrs_chunk.specs.Selection.{Selection, subset, indices, places_of}
use Rattle.zarrs_chunk.specs.Tuples.{row_major, box_tuples, is_box_inside, is_tuple_inside}
use Rattle.zarrs_chunk.specs.declared.codec_error.CodecError.{CodecError}
use Rattle.zarrs_chunk.specs.declared.codec_error.CodecError.TheVariants.{IncompatibleDimensionality, OutOfBounds, Overflow}
use Rattle.zarrs_chunk.proofs.Inside.{row_major-below, from_lt_test}
use Rattle.zarrs_chunk.proofs.Rising.{Rises-box, Rises-below, Rises-increasing, Rises-room}

-- what holds where both tests pass holds of each answer
where_passed : (P : List ℕ → Type 0) (axes inside fits : Bool) (e f g : CodecError) (count : ℕ) (places : List ℕ) → (inside ≡ true → fits ≡ true → P places) → IfOk ((demand axes e >>= λ _. demand inside f) >>= λ _. ((if fits then Ok count else Err g) >>= λ _. Ok places)) P
where_passed P true true true e f g count places h = h refl refl
where_passed P true true false e f g count places h = tt
where_passed P true false fits e f g count places h = tt
where_passed P false inside fits e f g count places h = tt

pub subset_where_passed : (P : List ℕ → Type 0) (region : Region) (sizes : List ℕ) → (is_box_inside sizes region.starts region.lengths ≡ true → nat_lt (product sizes) (2 ^ 64) ≡ true → P (map (row_major sizes) (box_tuples region.starts region.lengths))) → IfOk (places_of (subset region) sizes) P
subset_where_passed P region sizes =
    where_passed P (length region.starts == length sizes) (is_box_inside sizes region.starts region.lengths) (nat_lt (product sizes) (2 ^ 64)) IncompatibleDimensionality OutOfBounds Overflow (product sizes) (map (row_major sizes) (box_tuples region.starts region.lengths))

tuples_below : (sizes : List ℕ) (tuples : List (List ℕ)) → list_all (λ tuple. is_tuple_inside sizes tuple) tuples ≡ true → All (λ place. place < product sizes) (map (row_major sizes) tuples)
tuples_below sizes [] h = λ k d l. absurd (omega arith)
tuples_below sizes (tuple ∷ tuples) h = λ k d.
    elim k as (λ j. j < length (map (row_major sizes) (tuple ∷ tuples)) → get_or (map (row_major sizes) (tuple ∷ tuples)) j d < product sizes) [
      | zero ↦ (λ l. row_major-below sizes tuple (and_parts _ _ h).0)
      | suc j ↦ (λ l. tuples_below sizes tuples (and_parts _ _ h).1 j d (omega arith))
    ]

pub places_below : (selection : Selection) (sizes : List ℕ) → IfOk (places_of selection sizes) (All (λ place. place < product sizes))
places_below (subset region) sizes =
    subset_where_passed (All (λ place. place < product sizes)) region sizes
    (λ h _. Rises-below 0 (product sizes) (map (row_major sizes) (box_tuples region.starts region.lengths)) (Rises-box sizes region.starts region.lengths h))
places_below (indices tuples) sizes =
    where_passed (All (λ place. place < product sizes)) (list_all (λ tuple. length tuple == length sizes) tuples) (list_all (λ tuple. is_tuple_inside sizes tuple) tuples) (nat_lt (product sizes) (2 ^ 64)) IncompatibleDimensionality OutOfBounds Overflow (product sizes) (map (row_major sizes) tuples)
    (λ h _. tuples_below sizes tuples h)

-- the same of places that are known
pub known_below : (selection : Selection) (sizes places : List ℕ) → places_of selection sizes ≡ Ok places → All (λ place. place < product sizes) places
known_below selection sizes places h = rw h at (places_below selection sizes)

pub places_rise : (region : Region) (sizes : List ℕ) → IfOk (places_of (subset region) sizes) IsStrictlyIncreasing
places_rise region sizes =
    subset_where_passed IsStrictlyIncreasing region sizes
    (λ h _. Rises-increasing 0 (product sizes) (map (row_major sizes) (box_tuples region.starts region.lengths)) (Rises-box sizes region.starts region.lengths h))

-- a subset has no more places than the chunk has elements
places_few : (region : Region) (sizes : List ℕ) → IfOk (places_of (subset region) sizes) (λ places. length places < 2 ^ 64)
places_few region sizes =
    subset_where_passed (λ places. length places < 2 ^ 64) region sizes
    (λ h fits. let room = Rises-room 0 (product sizes) (map (row_major sizes) (box_tuples region.starts region.lengths)) (Rises-box sizes region.starts region.lengths h) in
    omega (arith, room, from_lt_test (product sizes) (2 ^ 64) fits))

-- the same of places that are known
pub places_counted : (region : Region) (sizes places : List ℕ) → places_of (subset region) sizes ≡ Ok places → length places < 2 ^ 64
places_counted region sizes places h = rw h at (places_few region sizes)
