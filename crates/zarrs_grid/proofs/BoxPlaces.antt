-- The places of a box inside sizes.
use Rattle.std.proofs.Common.{◌≡◌, ◌≢◌, ℕ, ◌<◌, ◌^◌, ◌∙◌, true, Ok, List, length, map, get_or, arith, refl, ap, sym, eq-eqb}
use Rattle.std.specs.List.{range_with_len}
use Rattle.std.proofs.lemmas.List.FromFn.{length-map-range_with_len, get_or-map-range_with_len}
use Rattle.std.proofs.lemmas.List.Kept.{AllPairs-from_increasing}
use Rattle.std.proofs.lemmas.Simd.{map-map}
use Rattle.zarrs_chunk.specs.ChunkShape.{product}
use Rattle.zarrs_chunk.specs.Indices.{box_tuple}
use Rattle.zarrs_chunk.specs.Levels.{box_places}
use Rattle.zarrs_chunk.specs.Region.{Region}
use Rattle.zarrs_chunk.specs.Tuples.{row_major, is_box_inside}
use Rattle.zarrs_chunk.proofs.Inside.{is_box_inside-lengths, lt_test}
use Rattle.zarrs_chunk.proofs.NumberedTuples.{box_tuples-numbered}
use Rattle.zarrs_chunk.proofs.Rising.{Rises-box, Rises-increasing}
use Rattle.zarrs_grid.specs.Gathered.{places_in_list}

module _ (sizes starts lengths : List ℕ) (within : is_box_inside sizes starts lengths ≡ true) where
  axes : length starts ≡ length lengths
  axes = let e = is_box_inside-lengths sizes starts lengths within in e.0 ∙ sym e.1

  are : box_places sizes starts lengths ≡ map (λ k. row_major sizes (box_tuple starts lengths k)) (range_with_len 0 (product lengths))
  are =
      ap (map (row_major sizes)) (box_tuples-numbered starts lengths axes) ∙ map-map (row_major sizes) (box_tuple starts lengths) (range_with_len 0 (product lengths))

  pub box_count : length (box_places sizes starts lengths) ≡ product lengths
  box_count = ap (λ (xs : List ℕ). length xs) are ∙ length-map-range_with_len (λ k. row_major sizes (box_tuple starts lengths k)) 0 (product lengths)

  pub box_place_at : (k : ℕ) → k < product lengths → get_or (box_places sizes starts lengths) k 0 ≡ row_major sizes (box_tuple starts lengths k)
  box_place_at k l =
      ap (λ (xs : List ℕ). get_or xs k 0) are ∙ get_or-map-range_with_len (λ k. row_major sizes (box_tuple starts lengths k)) 0 (product lengths) k k 0 l (omega arith)

  -- no two are the same
  pub box_places_apart : (j k : ℕ) → k < j → j < product lengths
      → get_or (box_places sizes starts lengths) j 0 ≢ get_or (box_places sizes starts lengths) k 0
  box_places_apart j k l h = λ e.
      let rises = AllPairs-from_increasing (box_places sizes starts lengths)
      (Rises-increasing 0 (product sizes) (box_places sizes starts lengths) (Rises-box sizes starts lengths within)) in
      let below = rises k j 0 l (omega (arith, h, box_count)) in
      omega (arith, below, e)

-- they are found without an error
pub box_placed : (sizes : List ℕ) (box : Region) → is_box_inside sizes box.starts box.lengths ≡ true → product sizes < 2 ^ 64
    → places_in_list (product sizes) sizes box ≡ Ok (box_places sizes box.starts box.lengths)
box_placed sizes box within small =
    let long = is_box_inside-lengths sizes box.starts box.lengths within in
    rw (lt_test (product sizes) (2 ^ 64) small, eq-eqb (product sizes) (product sizes) refl, eq-eqb (length box.starts) (length sizes) long.0, within) refl
