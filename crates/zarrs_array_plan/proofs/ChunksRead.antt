-- An array as its chunks: what reads of parts give.
use Rattle.std.proofs.Common.{◌≡◌, ◌∙◌, ℕ, suc, true, List, [], ◌∷◌, length, map, get_or, arith, refl, ap₂, sym, nat_lt}
use Rattle.std.specs.List.{Contains}
use Rattle.std.proofs.lemmas.Bool.{and_parts}
use Rattle.std.proofs.lemmas.Nat.{div-mul-add, mod-mul-add}
use Rattle.std.proofs.lemmas.Simd.{map-map}
use Rattle.zarrs_chunk.specs.Tuples.{row_major, box_tuples, is_tuple_inside}
use Rattle.zarrs_chunk.proofs.BoxLaws.{tuples_of_box_inside}
use Rattle.zarrs_chunk.proofs.Inside.{from_lt_test}
use Rattle.zarrs_data_type.specs.Element.{Chunk, absent}
use Rattle.zarrs_grid.specs.ChunkTuples.{quotients, remainders, tuple_in_array}
use Rattle.zarrs_grid.specs.Parts.{starts_in_chunk, part_lengths}
use Rattle.zarrs_grid.specs.RegionElements.{chunk_element}
use Rattle.zarrs_grid.proofs.Cut.{listed_touches}
use Rattle.zarrs_grid.proofs.Tuples.{Touches-length, part_in_chunk}
use Rattle.zarrs_array_plan.specs.ChunkArrays.{element_by_chunks, PartsAreRead}

-- the chunk of a tuple that a chunk has, and the tuple in it, are that chunk and that tuple
record IsFoundAgain (shape numbers tuple at : List ℕ) : Type 0 where
  pub chunk_again : quotients shape at ≡ numbers
  pub tuple_again : remainders shape at ≡ tuple

found_again : (shape numbers tuple : List ℕ) → length numbers ≡ length shape → is_tuple_inside shape tuple ≡ true
    → IsFoundAgain shape numbers tuple (tuple_in_array shape numbers tuple)
found_again [] [] [] e h = record { chunk_again = refl; tuple_again = refl }
found_again [] [] (index ∷ tuple) e h = absurd (cc)
found_again [] (number ∷ numbers) tuple e h = absurd (omega arith)
found_again (size ∷ shape) [] tuple e h = absurd (omega arith)
found_again (size ∷ shape) (number ∷ numbers) [] e h = absurd (cc)
found_again (size ∷ shape) (number ∷ numbers) (index ∷ tuple) e h =
    let both = and_parts (nat_lt index size) (is_tuple_inside shape tuple) h in
    let below = from_lt_test index size both.0 in
    let rest = found_again shape numbers tuple (omega arith) both.1 in
    record {
      chunk_again = ap₂ (λ i t. i ∷ t) (div-mul-add number size index below) rest.chunk_again;
      tuple_again = ap₂ (λ i t. i ∷ t) (mod-mul-add number size index below) rest.tuple_again;
    }

-- so the array's element at a tuple of a chunk is the chunk's
pub element_in_chunk : (chunks : List ℕ → Chunk) (shape numbers tuple : List ℕ) → length numbers ≡ length shape → is_tuple_inside shape tuple ≡ true
    → element_by_chunks shape chunks (tuple_in_array shape numbers tuple) ≡ get_or (chunks numbers) (row_major shape tuple) absent
element_in_chunk chunks shape numbers tuple e h =
    let again = found_again shape numbers tuple e h in
    ap₂ (λ ns t. get_or (chunks ns) (row_major shape t) absent) again.chunk_again again.tuple_again

-- two functions that are alike at what a list has
pub map_alike : {X Y : Type 0} (f g : X → Y) (xs : List X) → ((x : X) → Contains xs x → f x ≡ g x) → map f xs ≡ map g xs
map_alike f g [] h = refl
map_alike f g (x ∷ xs) h =
    ap₂ (λ y ys. y ∷ ys) (h x (0, omega arith, refl)) (map_alike f g xs (λ y c. h y (suc c.0, omega (arith, c.1), c.2)))

pub parts_read : PartsAreRead
parts_read chunks shape region numbers g c =
    let starts = starts_in_chunk shape numbers region.starts in
    let lengths = part_lengths shape numbers region.starts region.lengths in
    let touches = listed_touches shape region numbers g c in
    let inside = part_in_chunk shape numbers region.starts region.lengths touches in
    let long = Touches-length shape numbers region.starts region.lengths touches in
    map_alike (chunk_element (element_by_chunks shape chunks) shape numbers) (λ tuple. get_or (chunks numbers) (row_major shape tuple) absent)
    (box_tuples starts lengths)
    (λ tuple has. element_in_chunk chunks shape numbers tuple long (tuples_of_box_inside shape starts lengths tuple inside has))
    ∙ sym (map-map (λ place. get_or (chunks numbers) place absent) (row_major shape) (box_tuples starts lengths))
