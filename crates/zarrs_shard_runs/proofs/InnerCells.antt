-- The places of a window that lies in one inner chunk.
use Rattle.std.proofs.Common.{◌≡◌, ℕ, ◌+◌, ◌-◌, ◌*◌, ◌/◌, ◌%◌, ◌<◌, ◌≤◌, ◌==◌, nat_le, nat_lt, true, List, [], ◌∷◌, length, map, arith, refl, ap, subst, sym, ◌∙◌}
use Rattle.std.specs.List.{All, range_with_len}
use Rattle.std.proofs.lemmas.Bool.{and_from, and_parts, eqb-true}
use Rattle.std.proofs.lemmas.List.Elements.{All-head, All-tail}
use Rattle.std.proofs.lemmas.Nat.{div-add-mod', mod_below}
use Rattle.std.proofs.lemmas.Simd.{map-map}
use Rattle.zarrs_array_bytes.proofs.FlushLemmas.{same_elements}
use Rattle.zarrs_chain_meaning.proofs.InnerChunks.{is_cut}
use Rattle.zarrs_chain_meaning.specs.sharding.InnerChunks.{is_divided, grid, inner_chunk_count}
use Rattle.zarrs_grid.specs.ChunkTuples.{quotients, remainders}
use Rattle.zarrs_chunk.proofs.Inside.{from_le_test, from_lt_test, is_box_inside-lengths, le_test, lt_test, row_major-below}
use Rattle.zarrs_chunk.proofs.NumberedTuples.{box_tuples-numbered, tuple_of_number-inside, tuple_of_number-row_major}
use Rattle.zarrs_chunk.specs.ChunkShape.{product}
use Rattle.zarrs_chunk.specs.Indices.{box_tuple, indices_behind, tuple_of_number}
use Rattle.zarrs_chunk.specs.Levels.{box_places}
use Rattle.zarrs_chunk.specs.Region.{Region}
use Rattle.zarrs_chunk.specs.Tuples.{is_box_inside, is_tuple_inside, row_major}
use Rattle.zarrs_shard_runs.proofs.Numbers.{stay_div, stay_mod}
use Rattle.zarrs_shard_runs.specs.CutRuns.{cell, cells_at}
use Rattle.zarrs_shard_runs.specs.InnerBox.{IsInnerBox, lies_in_one}

-- ---- one axis

-- so much is left of a part from a range's first index on, where its last one is in the same part
pub left_of_part : (start len part : ℕ) → 0 < part → 0 < len → start / part ≡ (start + len - 1) / part → start % part + len ≤ part
left_of_part start len part p l e =
    let first = div-add-mod' start part in
    let last = div-add-mod' (start + len - 1) part in
    let same : start / part * part ≡ (start + len - 1) / part * part = ap (λ n. n * part) e in
    let below = mod_below (start + len - 1) part p in
    omega (arith, first, last, same, below, l)

pub same_part : (start len part : ℕ) → 0 < len → start % part + len ≤ part → start / part ≡ (start + len - 1) / part
same_part start len part l h =
    let last : start + (len - 1) ≡ start + len - 1 = omega (arith, l) in
    sym (stay_div start (len - 1) part (omega (arith, l, h))) ∙ ap (λ n. n / part) last

-- ---- tuples

-- a tuple of a box that lies in one inner chunk
record StaysInOne (shape sizes starts tuple : List ℕ) : Type 0 where
  pub inside : is_tuple_inside sizes (indices_behind starts tuple) ≡ true
  pub number : quotients shape (indices_behind starts tuple) ≡ quotients shape starts
  pub rest : remainders shape (indices_behind starts tuple) ≡ indices_behind (remainders shape starts) tuple

stays : (shape sizes starts lengths tuple : List ℕ) → All (λ part. 0 < part) shape → is_box_inside sizes starts lengths ≡ true → lies_in_one shape starts lengths ≡ true → is_tuple_inside lengths tuple ≡ true → StaysInOne shape sizes starts tuple
stays [] [] [] [] [] p b o t = record { inside = refl; number = refl; rest = refl }
stays [] [] [] [] (index ∷ tuple) p b o t = absurd cc
stays [] [] [] (len ∷ lengths) tuple p b o t = absurd cc
stays [] [] (start ∷ starts) lengths tuple p b o t = absurd cc
stays [] (size ∷ sizes) [] lengths tuple p b o t = absurd cc
stays [] (size ∷ sizes) (start ∷ starts) [] tuple p b o t = absurd cc
stays [] (size ∷ sizes) (start ∷ starts) (len ∷ lengths) tuple p b o t = absurd cc
stays (part ∷ shape) sizes [] lengths tuple p b o t = absurd cc
stays (part ∷ shape) sizes (start ∷ starts) [] tuple p b o t = absurd cc
stays (part ∷ shape) [] (start ∷ starts) (len ∷ lengths) tuple p b o t = absurd cc
stays (part ∷ shape) (size ∷ sizes) (start ∷ starts) (len ∷ lengths) [] p b o t = absurd cc
stays (part ∷ shape) (size ∷ sizes) (start ∷ starts) (len ∷ lengths) (index ∷ tuple) p b o t =
    let boxes = and_parts (nat_le (start + len) size) (is_box_inside sizes starts lengths) b in
    let ones = and_parts (start / part == (start + len - 1) / part) (lies_in_one shape starts lengths) o in
    let tuples = and_parts (nat_lt index len) (is_tuple_inside lengths tuple) t in
    let rest = stays shape sizes starts lengths tuple (All-tail (λ part. 0 < part) part shape p) boxes.1 ones.1 tuples.1 in
    let within = from_le_test (start + len) size boxes.0 in
    let low = from_lt_test index len tuples.0 in
    let left = left_of_part start len part (All-head (λ part. 0 < part) part shape p) (omega (arith, low)) (eqb-true (start / part) ((start + len - 1) / part) ones.0) in
    let stay : start % part + index < part = omega (arith, left, low) in
    let q = stay_div start index part stay in
    let r = stay_mod start index part stay in
    record {
      inside = and_from _ _ (lt_test (start + index) size (omega (arith, within, low))) rest.inside;
      number = λ i. q i ∷ rest.number i;
      rest = λ i. r i ∷ rest.rest i;
    }

-- it lies inside the inner chunk, by what is left of each index
pub inside_one : (shape starts lengths : List ℕ) → All (λ part. 0 < part) shape → All (λ len. 0 < len) lengths → lies_in_one shape starts lengths ≡ true → is_box_inside shape (remainders shape starts) lengths ≡ true
inside_one [] [] [] p f o = refl
inside_one [] [] (len ∷ lengths) p f o = absurd cc
inside_one [] (start ∷ starts) lengths p f o = absurd cc
inside_one (part ∷ shape) [] lengths p f o = absurd cc
inside_one (part ∷ shape) (start ∷ starts) [] p f o = absurd cc
inside_one (part ∷ shape) (start ∷ starts) (len ∷ lengths) p f o =
    let ones = and_parts (start / part == (start + len - 1) / part) (lies_in_one shape starts lengths) o in
    let left = left_of_part start len part (All-head (λ part. 0 < part) part shape p) (All-head (λ len. 0 < len) len lengths f) (eqb-true (start / part) ((start + len - 1) / part) ones.0) in
    and_from _ _ (le_test (start % part + len) part left) (inside_one shape starts lengths (All-tail (λ part. 0 < part) part shape p) (All-tail (λ len. 0 < len) len lengths f) ones.1)

-- ---- the inner chunk

start_inside : (sizes starts lengths : List ℕ) → is_box_inside sizes starts lengths ≡ true → All (λ len. 0 < len) lengths → is_tuple_inside sizes starts ≡ true
start_inside [] [] [] b f = refl
start_inside [] [] (len ∷ lengths) b f = absurd cc
start_inside [] (start ∷ starts) lengths b f = absurd cc
start_inside (size ∷ sizes) [] lengths b f = absurd cc
start_inside (size ∷ sizes) (start ∷ starts) [] b f = absurd cc
start_inside (size ∷ sizes) (start ∷ starts) (len ∷ lengths) b f =
    let boxes = and_parts (nat_le (start + len) size) (is_box_inside sizes starts lengths) b in
    let within = from_le_test (start + len) size boxes.0 in
    let some = All-head (λ len. 0 < len) len lengths f in
    and_from _ _ (lt_test start size (omega (arith, within, some))) (start_inside sizes starts lengths boxes.1 (All-tail (λ len. 0 < len) len lengths f))

-- the inner chunk is one of those that there are
pub number_below : (shape sizes starts lengths : List ℕ) → is_divided shape sizes ≡ true → All (λ part. 0 < part) shape → is_box_inside sizes starts lengths ≡ true → All (λ len. 0 < len) lengths → row_major (grid shape sizes) (quotients shape starts) < inner_chunk_count shape sizes
number_below shape sizes starts lengths d p b f =
    let inside = start_inside sizes starts lengths b f in
    let low = (is_cut shape sizes p d).chunk_below (row_major sizes starts) (row_major-below sizes starts inside) in
    subst (λ tuple. row_major (grid shape sizes) (quotients shape tuple) < inner_chunk_count shape sizes) (tuple_of_number-row_major sizes starts inside) low

-- ---- places

numbered : {A : Type 0} (f : ℕ → A) (sizes starts lengths : List ℕ) → length starts ≡ length lengths → map f (box_places sizes starts lengths) ≡ map (λ n. f (row_major sizes (box_tuple starts lengths n))) (range_with_len 0 (product lengths))
numbered f sizes starts lengths e =
    let counted : List ℕ = range_with_len 0 (product lengths) in
    ap (λ tuples. map f (map (row_major sizes) tuples)) (box_tuples-numbered starts lengths e)
    ∙ ap (map f) (map-map (row_major sizes) (box_tuple starts lengths) counted)
    ∙ map-map f (λ n. row_major sizes (box_tuple starts lengths n)) counted

module _ (shape sizes starts lengths : List ℕ) (positive : All (λ part. 0 < part) shape) (inside : is_box_inside sizes starts lengths ≡ true) (one : lies_in_one shape starts lengths ≡ true) (filled : All (λ len. 0 < len) lengths) where
  cell_at : (n : ℕ) → n < product lengths → cell shape sizes (row_major sizes (box_tuple starts lengths n)) ≡ (row_major (grid shape sizes) (quotients shape starts), row_major shape (box_tuple (remainders shape starts) lengths n))
  cell_at n l =
      let tuple = tuple_of_number lengths n in
      let it = stays shape sizes starts lengths tuple positive inside one (tuple_of_number-inside lengths n l) in
      let again = tuple_of_number-row_major sizes (indices_behind starts tuple) it.inside in
      λ i. (row_major (grid shape sizes) ((ap (quotients shape) again ∙ it.number) i), row_major shape ((ap (remainders shape) again ∙ it.rest) i))

  -- they are those of the box in the inner chunk
  pub cells_of_one : map (cell shape sizes) (box_places sizes starts lengths) ≡ cells_at (row_major (grid shape sizes) (quotients shape starts)) (box_places shape (remainders shape starts) lengths)
  cells_of_one =
      let number = row_major (grid shape sizes) (quotients shape starts) in
      let outer = is_box_inside-lengths sizes starts lengths inside in
      let inner = is_box_inside-lengths shape (remainders shape starts) lengths (inside_one shape starts lengths positive filled one) in
      numbered (cell shape sizes) sizes starts lengths (outer.0 ∙ sym outer.1)
      ∙ same_elements (λ n. cell shape sizes (row_major sizes (box_tuple starts lengths n))) (λ n. (number, row_major shape (box_tuple (remainders shape starts) lengths n))) 0 (product lengths) (λ n _ l. cell_at n (omega (arith, l)))
      ∙ sym (numbered (λ place. (number, place)) shape (remainders shape starts) lengths (inner.0 ∙ sym inner.1))

-- what is found is the window
pub is_inner_box : (shape sizes : List ℕ) (window region : Region) (number : ℕ) → is_divided shape sizes ≡ true → All (λ part. 0 < part) shape → is_box_inside sizes window.starts window.lengths ≡ true → All (λ len. 0 < len) window.lengths → lies_in_one shape window.starts window.lengths ≡ true
    → number ≡ row_major (grid shape sizes) (quotients shape window.starts) → region ≡ record { starts = remainders shape window.starts; lengths = window.lengths } → IsInnerBox shape sizes window (record { number = number; region = region })
is_inner_box shape sizes window region number d p b f one n r = record {
  cells = cells_of_one shape sizes window.starts window.lengths p b one f ∙ (λ i. cells_at (sym n i) (box_places shape (sym r i).starts (sym r i).lengths));
  number = subst (λ n. n < inner_chunk_count shape sizes) (sym n) (number_below shape sizes window.starts window.lengths d p b f);
  inside = subst (λ it. is_box_inside shape it.starts it.lengths ≡ true) (sym r) (inside_one shape window.starts window.lengths p f one);
  lengths = ap (λ it. it.lengths) r;
}
