-- The parts of a window of a shard in the inner chunks that it touches, and an answer that is put together of them.
use Rattle.std.proofs.Common.{◌≡◌, ◌⊎◌, inl, inr, ℕ, zero, suc, ◌+◌, ◌*◌, ◌/◌, ◌%◌, ◌<◌, ◌≤◌, ◌-◌, min, max, ◌∙◌, nat_eq, nat_le, true, List, [], ◌∷◌, length, map, get_or, arith, refl, ap, ap₂, sym, subst}
use Rattle.std.specs.List.{All, Contains}
use Rattle.std.proofs.lemmas.Bool.{and_from, and_parts, eqb-true}
use Rattle.std.proofs.lemmas.List.Elements.{All-head, All-tail, Contains-get_or}
use Rattle.std.proofs.lemmas.Nat.{div_below, div-add-mod', mod-mul-add}
use Rattle.std.proofs.lemmas.Simd.{map-map}
use Rattle.std.proofs.Math.Nat.{mul-pos}
use Rattle.zarrs_array_bytes.specs.Update.{update}
use Rattle.zarrs_chain_meaning.specs.sharding.InnerChunks.{is_divided, grid, inner_chunk_of, place_inside}
use Rattle.zarrs_chunk.proofs.BoxLaws.{tuples_of_box_inside}
use Rattle.zarrs_chunk.proofs.Inside.{from_le_test, from_lt_test, is_box_inside-lengths, le_test, row_major-below}
use Rattle.zarrs_chunk.proofs.NumberedTuples.{tuple_of_number-row_major}
use Rattle.zarrs_chunk.specs.ChunkShape.{product}
use Rattle.zarrs_chunk.specs.Levels.{box_places}
use Rattle.zarrs_chunk.specs.Region.{Region}
use Rattle.zarrs_chunk.specs.Tuples.{row_major, box_tuples, is_box_inside, is_tuple_inside}
use Rattle.zarrs_grid.proofs.Cut.{listed, listed_touches}
use Rattle.zarrs_grid.proofs.OneAxis.{begins_before, ends_behind, quotient_le, some_touched}
use Rattle.zarrs_grid.proofs.PartsJoined.{all_joined, part_joined}
use Rattle.zarrs_grid.proofs.Tuples.{InBox, Touches, Touches-length, chunk_again, part_in_chunk, part_in_region}
use Rattle.zarrs_grid.specs.ChunkTuples.{quotients, remainders, tuple_in_array}
use Rattle.zarrs_grid.specs.JoinedParts.{HasChunks}
use Rattle.zarrs_grid.specs.Parts.{starts_in_chunk, part_lengths}
use Rattle.zarrs_grid.specs.RegionElements.{region_elements, elements_of_part, chunk_element, places_in_region}
use Rattle.zarrs_grid.specs.Touched.{FitsGrid, touched_count, touched_counts, touched_chunks}
use Rattle.zarrs_shard_runs.specs.BoxParts.{IsShardWindow, PartsArePlaced, PartsArePut, put_parts, read_part}

-- ---- the window as a region of the grid of inner chunks

pub fits : (shape sizes : List ℕ) (window : Region) → IsShardWindow shape sizes window → FitsGrid shape window
fits shape sizes window w =
    let long = as_long shape sizes w.divided in
    let axes = is_box_inside-lengths sizes window.starts window.lengths w.inside in
    record { positive = w.positive; starts = axes.0 ∙ long; lengths = axes.1 ∙ long }
  where
    as_long : (shape sizes : List ℕ) → is_divided shape sizes ≡ true → length sizes ≡ length shape
    as_long [] [] d = refl
    as_long [] (size ∷ sizes) d = absurd (cc)
    as_long (part ∷ shape) [] d = absurd (cc)
    as_long (part ∷ shape) (size ∷ sizes) d = ap suc (as_long shape sizes (and_parts (nat_eq (size % part) 0) (is_divided shape sizes) d).1)

-- along an axis, the inner chunks that a range touches are some of those that there are
touched_below : (part size start len : ℕ) → 0 < part → size % part ≡ 0 → start + len ≤ size
    → start / part + touched_count part start len ≤ size / part
touched_below part size start zero p d h =
    let low = quotient_le part start size p (omega arith) in
    omega (arith, low)
touched_below part size start (suc more) p d h =
    let whole = div-add-mod' size part in
    let last : (start + more) / part < size / part = div_below (start + more) part (size / part) p (omega (arith, whole, d, h)) in
    let first = quotient_le part start (start + more) p (omega arith) in
    omega (arith, last, first)

-- so the box of those that a window touches lies inside the grid
pub touched_inside : (shape sizes starts lengths : List ℕ) → All (λ part. 0 < part) shape → is_divided shape sizes ≡ true
    → is_box_inside sizes starts lengths ≡ true
    → is_box_inside (grid shape sizes) (quotients shape starts) (touched_counts shape starts lengths) ≡ true
touched_inside [] [] [] [] p d b = refl
touched_inside [] [] [] (len ∷ lengths) p d b = absurd (cc)
touched_inside [] [] (start ∷ starts) lengths p d b = absurd (cc)
touched_inside [] (size ∷ sizes) starts lengths p d b = absurd (cc)
touched_inside (part ∷ shape) [] starts lengths p d b = absurd (cc)
touched_inside (part ∷ shape) (size ∷ sizes) [] lengths p d b = absurd (cc)
touched_inside (part ∷ shape) (size ∷ sizes) (start ∷ starts) [] p d b = absurd (cc)
touched_inside (part ∷ shape) (size ∷ sizes) (start ∷ starts) (len ∷ lengths) p d b =
    let divides = and_parts (nat_eq (size % part) 0) (is_divided shape sizes) d in
    let boxes = and_parts (nat_le (start + len) size) (is_box_inside sizes starts lengths) b in
    let some = All-head (λ part. 0 < part) part shape p in
    let here = touched_below part size start len some (eqb-true (size % part) 0 divides.0) (from_le_test (start + len) size boxes.0) in
    and_from _ _ (le_test _ _ here)
    (touched_inside shape sizes starts lengths (All-tail (λ part. 0 < part) part shape p) divides.1 boxes.1)

pub numbers_inside : (shape sizes : List ℕ) (window : Region) (numbers : List ℕ) → IsShardWindow shape sizes window
    → Contains (touched_chunks shape window) numbers
    → is_tuple_inside (grid shape sizes) numbers ≡ true
numbers_inside shape sizes window numbers w c =
    tuples_of_box_inside (grid shape sizes) (quotients shape window.starts) (touched_counts shape window.starts window.lengths) numbers
    (touched_inside shape sizes window.starts window.lengths w.positive w.divided w.inside) c

-- ---- each part

-- it has elements
part_filled : (shape starts lengths numbers : List ℕ) → All (λ part. 0 < part) shape → length starts ≡ length shape
    → length lengths ≡ length shape
    → InBox (quotients shape starts) (touched_counts shape starts lengths) numbers → 0 < product (part_lengths shape numbers starts lengths)
part_filled [] starts lengths numbers p e f r = omega arith
part_filled (size ∷ shape) [] lengths numbers p e f r = absurd (omega arith)
part_filled (size ∷ shape) (start ∷ starts) [] numbers p e f r = absurd (omega arith)
part_filled (size ∷ shape) (start ∷ starts) (len ∷ lengths) [] p e f r = absurd r
part_filled (size ∷ shape) (start ∷ starts) (len ∷ lengths) (number ∷ numbers) p e f r =
    let some = All-head (λ part. 0 < part) size shape p in
    let begins = begins_before size start len number some r.1 r.0 in
    let ends = ends_behind size start number some r.0 in
    mul-pos (on_axis (number * size) size start len some begins ends (some_touched size start len number r.1 r.0))
    (part_filled shape starts lengths numbers (All-tail (λ part. 0 < part) size shape p) (omega arith) (omega arith) r.2)
  where
    on_axis : (base size start len : ℕ) → 0 < size → base < start + len → start < base + size → 0 < len
        → 0 < min (start + len) (base + size) - max start base
    on_axis base size start len p h l i = omega arith

pub parts_placed : PartsArePlaced
parts_placed shape sizes window numbers w c =
    let g = fits shape sizes window w in
    let r = listed_touches shape window numbers g c in
    let numbered = numbers_inside shape sizes window numbers w c in
    record {
      number = row_major-below (grid shape sizes) numbers numbered;
      numbered = numbered;
      inside = part_in_chunk shape numbers window.starts window.lengths r;
      filled = part_filled shape window.starts window.lengths numbers g.positive g.starts g.lengths (listed shape window numbers g c);
      in_region = part_in_region shape numbers window.starts window.lengths r;
    }

-- ---- what is read of it

mapped_same : {A : Type 0} (f g : List ℕ → A) (tuples : List (List ℕ)) → All (λ tuple. f tuple ≡ g tuple) tuples → map f tuples ≡ map g tuples
mapped_same f g [] same = refl
mapped_same f g (tuple ∷ tuples) same =
    ap₂ (λ x xs. x ∷ xs) (All-head (λ tuple. f tuple ≡ g tuple) tuple tuples same)
    (mapped_same f g tuples (All-tail (λ tuple. f tuple ≡ g tuple) tuple tuples same))

-- each tuple of a box inside sizes is inside them
pub all_inside : (sizes starts lengths : List ℕ) → is_box_inside sizes starts lengths ≡ true
    → All (λ tuple. is_tuple_inside sizes tuple ≡ true) (box_tuples starts lengths)
all_inside sizes starts lengths b = λ k d l.
    tuples_of_box_inside sizes starts lengths (get_or (box_tuples starts lengths) k d) b (Contains-get_or (box_tuples starts lengths) k d l)

-- a tuple of an inner chunk is what is left of its tuple in the shard
remainders_again : (shape numbers tuple : List ℕ) → length numbers ≡ length shape → is_tuple_inside shape tuple ≡ true
    → remainders shape (tuple_in_array shape numbers tuple) ≡ tuple
remainders_again [] numbers [] e h = refl
remainders_again [] numbers (index ∷ tuple) e h = absurd (cc)
remainders_again (size ∷ shape) [] tuple e h = absurd (omega arith)
remainders_again (size ∷ shape) (number ∷ numbers) [] e h = absurd (cc)
remainders_again (size ∷ shape) (number ∷ numbers) (index ∷ tuple) e h =
    ap₂ (λ i t. i ∷ t) (mod-mul-add number size index (from_lt_test _ _ (and_parts _ _ h).0))
    (remainders_again shape numbers tuple (omega arith) (and_parts _ _ h).1)

-- the element at each tuple of the shard, where `read` gives the one at a place of an inner chunk
abbrev read_tuple : {A : Type 0} → (ℕ → ℕ → A) → List ℕ → List ℕ → List ℕ → A
read_tuple read shape sizes tuple = read (row_major (grid shape sizes) (quotients shape tuple)) (row_major shape (remainders shape tuple))

part_read : {A : Type 0} (read : ℕ → ℕ → A) (shape sizes : List ℕ) (window : Region) (numbers : List ℕ)
    → Touches shape numbers window.starts window.lengths
    → read_part read shape sizes window numbers ≡ elements_of_part (read_tuple read shape sizes) shape window numbers
part_read read shape sizes window numbers r =
    let starts = starts_in_chunk shape numbers window.starts in
    let lengths = part_lengths shape numbers window.starts window.lengths in
    let tuples = box_tuples starts lengths in
    let here = all_inside shape starts lengths (part_in_chunk shape numbers window.starts window.lengths r) in
    let axes = Touches-length shape numbers window.starts window.lengths r in
    map-map (read (row_major (grid shape sizes) numbers)) (row_major shape) tuples
    ∙ mapped_same (λ tuple. read (row_major (grid shape sizes) numbers) (row_major shape tuple))
    (chunk_element (read_tuple read shape sizes) shape numbers) tuples
    (λ k d l. λ i. read (row_major (grid shape sizes) (sym (chunk_again shape numbers (get_or tuples k d) axes (here k d l)) i))
    (row_major shape (sym (remainders_again shape numbers (get_or tuples k d) axes (here k d l)) i)))

window_read : {A : Type 0} (read : ℕ → ℕ → A) (shape sizes : List ℕ) (window : Region) → is_box_inside sizes window.starts window.lengths ≡ true
    → region_elements (read_tuple read shape sizes) window
    ≡ map (λ place. read (inner_chunk_of shape sizes place) (place_inside shape sizes place)) (box_places sizes window.starts window.lengths)
window_read read shape sizes window b =
    let at = λ (place : ℕ). read (inner_chunk_of shape sizes place) (place_inside shape sizes place) in
    let tuples = box_tuples window.starts window.lengths in
    let here = all_inside sizes window.starts window.lengths b in
    mapped_same (read_tuple read shape sizes) (λ tuple. at (row_major sizes tuple)) tuples
    (λ k d l. ap (read_tuple read shape sizes) (sym (tuple_of_number-row_major sizes (get_or tuples k d) (here k d l))))
    ∙ sym (map-map at (row_major sizes) tuples)

-- ---- part by part

-- a chunk is the first of a list, or behind it or before the list
step_over : (numbers : List ℕ) (rest done : List (List ℕ)) (other : List ℕ) → Contains (numbers ∷ rest) other ⊎ Contains done other
    → Contains rest other ⊎ Contains (numbers ∷ done) other
step_over numbers rest done other (inl c) = at c.0 c.1 c.2
  where
    at : (k : ℕ) → k < length (numbers ∷ rest) → get_or (numbers ∷ rest) k other ≡ other → Contains rest other ⊎ Contains (numbers ∷ done) other
    at zero l e = inr (0, omega arith, e)
    at (suc k) l e = inl (k, omega arith, e)
step_over numbers rest done other (inr c) = inr (suc c.0, omega (arith, c.1), c.2)

-- with the elements of some chunks in the answer, and those of all others put there, it is the region's
put_joined : {A : Type 0} (part : List ℕ → List A) (element : List ℕ → A) (shape : List ℕ) (region : Region)
    (chunks done : List (List ℕ)) (answer : List A)
    → FitsGrid shape region
    → ((numbers : List ℕ) → Contains (touched_chunks shape region) numbers → part numbers ≡ elements_of_part element shape region numbers)
    → All (Contains (touched_chunks shape region)) chunks
    → ((numbers : List ℕ) → Contains (touched_chunks shape region) numbers → Contains chunks numbers ⊎ Contains done numbers)
    → HasChunks element shape region done answer
    → put_parts part shape region chunks answer ≡ region_elements element region
put_joined part element shape region [] done answer g parts listed all has =
    all_joined element shape region done answer g
    (λ numbers c. elim (all numbers c) as (λ _. Contains done numbers) [ inl d ↦ absurd (omega (arith, d.1)) | inr d ↦ d ])
    has
put_joined {A} part element shape region (numbers ∷ rest) done answer g parts listed all has =
    let here = All-head (Contains (touched_chunks shape region)) numbers rest listed in
    let places = places_in_region shape region numbers in
    put_joined part element shape region rest (numbers ∷ done) (update answer places (part numbers)) g parts
    (All-tail (Contains (touched_chunks shape region)) numbers rest listed)
    (λ other c. step_over numbers rest done other (all other c))
    (subst (λ (new : List A). HasChunks element shape region (numbers ∷ done) (update answer places new)) (sym (parts numbers here))
    (part_joined element shape region numbers done answer g here has))

pub parts_put : {A : Type 0} → PartsArePut A
parts_put read shape sizes window answer w long =
    let g = fits shape sizes window w in
    let chunks = touched_chunks shape window in
    put_joined (read_part read shape sizes window) (read_tuple read shape sizes) shape window chunks [] answer g
    (λ numbers c. part_read read shape sizes window numbers (listed_touches shape window numbers g c))
    (λ k d l. Contains-get_or chunks k d l)
    (λ numbers c. inl c)
    (record { long = long; each = λ place default l c. absurd (omega (arith, c.1)) })
    ∙ window_read read shape sizes window w.inside
