-- The rows of tiles, read and written.
use Rattle.std.proofs.Common.{◌≡◌, ℕ, zero, suc, ◌+◌, ◌-◌, ◌*◌, ◌/◌, ◌<◌, ◌≤◌, List, [], ◌∷◌, ◌++◌, length, map, take, drop, arith, refl, ap, ap₂, ◌∙◌, sym, subst, inl, inr, append_assoc, drop-drop, length-append, length-take-le}
use Rattle.std.specs.List.{flat_map, range_with_len}
use Rattle.std.proofs.Math.Seq.{take-append-add, drop-append-add}
use Rattle.std.proofs.Math.Nat.{mul-le-mul_right, mul-le-mul_left}
use Rattle.std.proofs.lemmas.List.Concat.{flat_map-append}
use Rattle.std.proofs.lemmas.List.{take-append-le, drop-append-le, take-append-drop, take_at, drop_at, drop_all, length-drop, append-nil}
use Rattle.zarrs_array_bytes.proofs.Pieces.{take-drop-take}
use lib.Lanes.{put_chunk}
use Rattle.zarrs_array_to_array.specs.Axes.{stretch}
use Rattle.zarrs_array_to_array.specs.Strides.{row, next_rows}
use Rattle.zarrs_array_to_array.specs.Tiles.{AreVectors, HasTiles, column, columns, turned_rows, with_vectors}
use Rattle.zarrs_array_to_array.proofs.BlockRows.{stretch_is}
use Rattle.zarrs_array_to_array.proofs.RowGroups.{group_more, length-row, length-stretch}

-- ---- the rows of a tile

-- an element of a stretch
stretch_part : (size : ℕ) (items : List ℕ) (place k : ℕ) → k * size + size ≤ 16 → stretch size size (stretch 16 size items place) k ≡ stretch size size items (place + k)
stretch_part size items place k h =
    let spread : place * size + k * size ≡ (place + k) * size = grind arith in
    stretch_is size size (stretch 16 size items place) k
    ∙ ap (λ xs. take size (drop (k * size) xs)) (stretch_is 16 size items place)
    ∙ take-drop-take size (k * size) 16 (drop (place * size) items) (omega (arith, h))
    ∙ ap (take size) (drop-drop (k * size) (place * size) items ∙ ap (λ n. drop n items) spread)
    ∙ sym (stretch_is size size items (place + k))

-- a column of vectors from the places of a row has the elements of a row
column_from : (size : ℕ) (items : List ℕ) (front step k from n : ℕ) → k * size + size ≤ 16
    → column size (map (stretch 16 size items) (map (λ i. front + i * step) (range_with_len from n))) k ≡ flat_map (stretch size size items) (map (λ i. front + k + i * step) (range_with_len from n))
column_from size items front step k from zero h = refl
column_from size items front step k from (suc n) h =
    let there : front + from * step + k ≡ front + k + from * step = omega arith in
    ap₂ (λ xs ys. xs ++ ys) (stretch_part size items (front + from * step) k h ∙ ap (stretch size size items) there) (column_from size items front step k (from + 1) n h)

columns_from : (size : ℕ) (items : List ℕ) (front step n from count : ℕ) → (from + count) * size ≤ 16
    → map (column size (map (stretch 16 size items) (row front step n))) (range_with_len from count) ≡ map (λ k. flat_map (stretch size size items) (row (front + k) step n)) (range_with_len from count)
columns_from size items front step n from zero h = refl
columns_from size items front step n from (suc count) h =
    let spread : (from + suc count) * size ≡ from * size + size + count * size = grind arith in
    let next : from + 1 + count ≡ from + suc count = omega arith in
    ap₂ (λ x xs. x ∷ xs) (column_from size items front step from 0 n (omega (arith, spread, h))) (columns_from size items front step n (from + 1) count (rw next h))

-- a tile turned has as many elements of each of its rows
pub tile_turned : (size n : ℕ) (items : List ℕ) (front step : ℕ) (rows result : List (List ℕ)) → n * size ≡ 16 → rows ≡ map (stretch 16 size items) (row front step n) → result ≡ columns size n rows
    → result ≡ turned_rows size front step n items
tile_turned size n items front step rows result h is e =
    let z : 0 + n ≡ n = omega arith in
    e ∙ ap (columns size n) is ∙ columns_from size items front step n 0 n (rw z (omega (arith, h)))

stretches_are_whole : (size : ℕ) (items : List ℕ) (front step from n : ℕ) → ((k : ℕ) → k < from + n → (front + k * step) * size + 16 ≤ length items)
    → AreVectors (map (stretch 16 size items) (map (λ i. front + i * step) (range_with_len from n)))
stretches_are_whole size items front step from zero h k l = absurd (omega arith)
stretches_are_whole size items front step from (suc n) h zero l = length-stretch 16 size items (front + from * step) (h from (omega arith))
stretches_are_whole size items front step from (suc n) h (suc k) l = stretches_are_whole size items front step (from + 1) n (λ i b. h i (omega (arith, b))) k (omega (arith, l))

-- its rows are vectors, where the bytes are there
pub tile_is_whole : (size n : ℕ) (items : List ℕ) (front step : ℕ) (rows : List (List ℕ)) → ((k : ℕ) → k < n → (front + k * step) * size + 16 ≤ length items) → rows ≡ map (stretch 16 size items) (row front step n) → AreVectors rows
tile_is_whole size n items front step rows h is = subst AreVectors (sym is) (stretches_are_whole size items front step 0 n (λ k l. h k (omega (arith, l))))

-- the elements of its rows are there, where its vectors are
pub row_of_tile_inside : (size n front r step k len : ℕ) → n * size ≡ 16 → r < n → (front + k * step) * size + 16 ≤ len → (front + r + k * step) * size + size ≤ len
row_of_tile_inside size n front r step k len e l h =
    let spread : (front + r + k * step) * size + size ≡ (front + k * step) * size + (r + 1) * size = grind arith in
    omega (arith, spread, h, mul-le-mul_right {m = r + 1} {n = n} size (omega arith), e)

-- a tile turned has vectors too
pub turned_is_whole : (size n : ℕ) (items : List ℕ) (front step : ℕ) (result : List (List ℕ)) → n * size ≡ 16 → ((k : ℕ) → k < n → (front + k * step) * size + 16 ≤ length items) → result ≡ turned_rows size front step n items → AreVectors result
turned_is_whole size n items front step result e h is = subst AreVectors (sym is) (each 0 n (omega arith))
  where
    each : (from m : ℕ) → from + m ≤ n → AreVectors (map (λ k. flat_map (stretch size size items) (row (front + k) step n)) (range_with_len from m))
    each from zero l k b = absurd (omega arith)
    each from (suc m) l zero b =
        length-row size size items (front + from) step n
        (λ j c. row_of_tile_inside size n front from step j (length items) e (omega (arith, l)) (h j c)) ∙ e
    each from (suc m) l (suc k) b = each (from + 1) m (omega (arith, l)) k (omega (arith, b))

-- ---- rows written

-- a vector that is written over as many items
pub written_there : (items vector : List ℕ) (at k : ℕ) → k ≡ 16 → length vector ≡ 16 → at + 16 ≤ length items
    → take at items ++ (put_chunk 0 (take k (drop at items)) vector ++ drop k (drop at items)) ≡ take at items ++ (vector ++ drop 16 (drop at items))
written_there items vector at k e v h =
    let count : length (take k (drop at items)) ≡ length vector = length-take-le k (drop at items) (omega (arith, e, length-drop at items, h)) ∙ e ∙ sym v in
    ap₂ (λ xs n. take at items ++ (xs ++ drop n (drop at items))) (all_written (take k (drop at items)) vector count) e
  where
    all_written : (old new : List ℕ) → length old ≡ length new → put_chunk 0 old new ≡ new
    all_written [] [] e = refl
    all_written [] (x ∷ xs) e = absurd (omega (arith, e))
    all_written (x ∷ xs) [] e = absurd (omega (arith, e))
    all_written (x ∷ xs) (y ∷ ys) e = ap (λ zs. y ∷ zs) (all_written xs ys (omega (arith, e)))

-- a row with a vector in it is as long as the row
length_with : (len at : ℕ) (vector items : List ℕ) → length vector ≡ 16 → at + 16 ≤ len → len ≤ length items → length (take at items ++ (vector ++ drop (at + 16) (take len items))) ≡ len
length_with len at vector items v h l =
    let row : length (take len items) ≡ len = length-take-le len items l in
    let front : length (take at items) ≡ at = length-take-le at items (omega arith) in
    let back : length (drop (at + 16) (take len items)) ≡ length (take len items) - (at + 16) = length-drop (at + 16) (take len items) in
    length-append (take at items) (vector ++ drop (at + 16) (take len items)) ∙ ap (λ n. length (take at items) + n) (length-append vector (drop (at + 16) (take len items)))
    ∙ (omega (arith, row, front, back, v, h))

-- a vector in one row more
pub with_one_more : (len at : ℕ) (vectors : List (List ℕ)) (vector items : List ℕ) → AreVectors vectors → at + 16 ≤ len → (length vectors + 1) * len ≤ length items
    → take (length vectors * len + at) (with_vectors len at vectors items) ++ (vector ++ drop 16 (drop (length vectors * len + at) (with_vectors len at vectors items))) ≡ with_vectors len at (vectors ++ vector ∷ []) items
with_one_more len at [] vector items whole h l =
    let z : 0 * len + at ≡ at = omega arith in
    let sum : at + 16 ≡ 16 + at = omega arith in
    let row : length (take len items) ≡ len = length-take-le len items (omega (arith, l)) in
    let behind : drop 16 (drop at items) ≡ drop (at + 16) (take len items) ++ drop len items =
    drop-drop 16 at items ∙ ap (drop (at + 16)) (sym (take-append-drop len items)) ∙ drop-append-le (at + 16) (take len items) (drop len items) (omega (arith, row, h)) in
    ap (λ n. take n items ++ (vector ++ drop 16 (drop n items))) z
    ∙ ap (λ xs. take at items ++ (vector ++ xs)) behind
    ∙ ap (λ xs. take at items ++ xs) (sym (append_assoc vector (drop (at + 16) (take len items)) (drop len items)))
    ∙ sym (append_assoc (take at items) (vector ++ drop (at + 16) (take len items)) (drop len items))
with_one_more len at (one ∷ vectors) vector items whole h l =
    let first : List ℕ = take at items ++ (one ++ drop (at + 16) (take len items)) in
    let rest : List ℕ = with_vectors len at vectors (drop len items) in
    let p : ℕ = length vectors * len + at in
    let spread : (length vectors + 1 + 1) * len ≡ len + (length vectors + 1) * len = grind arith in
    let count : length first ≡ len = length_with len at one items (whole 0 (omega arith)) h (omega (arith, l, spread)) in
    let there : (suc (length vectors)) * len + at ≡ length first + p = omega (arith, count) in
    ap (λ n. take n (first ++ rest) ++ (vector ++ drop 16 (drop n (first ++ rest)))) there
    ∙ ap₂ (λ xs ys. xs ++ (vector ++ drop 16 ys)) (take-append-add first rest p) (drop-append-add first rest p)
    ∙ append_assoc first (take p rest) (vector ++ drop 16 (drop p rest))
    ∙ ap (λ xs. first ++ xs) (with_one_more len at vectors vector (drop len items) (λ k b. whole (suc k) (omega (arith, b))) h (omega (arith, l, spread, length-drop len items)))

-- ---- rows begun

-- each row of `len` bytes begins with a list of `taken` bytes, and goes on as it was
abbrev pub begun : (ℕ → List ℕ) → ℕ → ℕ → ℕ → ℕ → List ℕ → List ℕ
begun f len taken from zero items = items
begun f len taken from (suc n) items = (f from ++ drop taken (take len items)) ++ begun f len taken (from + 1) n (drop len items)

-- with nothing they are what they were
pub begun_with_nothing : (f : ℕ → List ℕ) (len from n : ℕ) (items : List ℕ) → ((r : ℕ) → f r ≡ []) → begun f len 0 from n items ≡ items
begun_with_nothing f len from zero items none = refl
begun_with_nothing f len from (suc n) items none =
    ap₂ (λ xs ys. (xs ++ take len items) ++ ys) (none from) (begun_with_nothing f len (from + 1) n (drop len items) none) ∙ take-append-drop len items

-- with as many bytes as a row has they are these lists
pub begun_whole : (f : ℕ → List ℕ) (len from n : ℕ) (items : List ℕ) → length items ≡ n * len
    → begun f len len from n items ≡ flat_map f (range_with_len from n)
begun_whole f len from zero items e = only items e
  where
    only : (items : List ℕ) → length items ≡ 0 * len → items ≡ []
    only [] e = refl
    only (x ∷ xs) e = absurd (omega (arith, e))
begun_whole f len from (suc n) items e =
    let spread : suc n * len ≡ len + n * len = omega arith in
    let row : length (take len items) ≡ len = length-take-le len items (omega (arith, e, spread)) in
    ap₂ (λ xs ys. (f from ++ xs) ++ ys) (drop_all len (take len items) (omega (arith, row)))
    (begun_whole f len (from + 1) n (drop len items) (omega (arith, length-drop len items, e, spread)))
    ∙ ap (λ xs. xs ++ flat_map f (range_with_len (from + 1) n)) (append-nil (f from))

-- one row, in which a list is written where the first one ends or before: `here` is what stands before it
row_goes_on : (done here part items rest : List ℕ) (len at taken : ℕ) → length done ≡ taken → length here ≡ at → (behind : List ℕ) → done ≡ here ++ behind → at ≤ taken → taken ≤ at + 16 → at + 16 ≤ len → len ≤ length items
    → take at ((done ++ drop taken (take len items)) ++ rest) ++ (part ++ drop (at + 16) (take len ((done ++ drop taken (take len items)) ++ rest))) ≡ (here ++ part) ++ drop (at + 16) (take len items)
row_goes_on done here part items rest len at taken d h behind is l m k fits =
    let row : length (take len items) ≡ len = length-take-le len items fits in
    let whole : length (done ++ drop taken (take len items)) ≡ len = length-append done (drop taken (take len items)) ∙ (omega (arith, d, length-drop taken (take len items), row, l, m, k)) in
    let front : take at ((done ++ drop taken (take len items)) ++ rest) ≡ here =
    take-append-le at (done ++ drop taken (take len items)) rest (omega (arith, whole, k))
    ∙ take-append-le at done (drop taken (take len items)) (omega (arith, d, l))
    ∙ ap (take at) is ∙ take_at here behind at h in
    let first : take len ((done ++ drop taken (take len items)) ++ rest) ≡ done ++ drop taken (take len items) = take_at (done ++ drop taken (take len items)) rest len whole in
    let far : at + 16 ≡ length done + (at + 16 - taken) = omega (arith, d, m) in
    let sum : taken + (at + 16 - taken) ≡ at + 16 = omega (arith, m) in
    let back : drop (at + 16) (done ++ drop taken (take len items)) ≡ drop (at + 16) (take len items) =
    ap (λ n. drop n (done ++ drop taken (take len items))) far
    ∙ drop-append-add done (drop taken (take len items)) (at + 16 - taken)
    ∙ drop-drop (at + 16 - taken) taken (take len items)
    ∙ ap (λ n. drop n (take len items)) sum in
    ap₂ (λ xs ys. xs ++ (part ++ ys)) front (ap (drop (at + 16)) first ∙ back) ∙ sym (append_assoc here part (drop (at + 16) (take len items)))

-- so many elements of a row that begins so far behind the first one
abbrev pub elements_of : ℕ → ℕ → ℕ → List ℕ → ℕ → ℕ → List ℕ
elements_of size front step bytes count r = flat_map (stretch size size bytes) (row (front + r) step count)

-- a tile is written into rows that are begun
pub tile_goes_on : (size front step w len : ℕ) (bytes : List ℕ) (at done next from n : ℕ) (items : List ℕ) → w * size ≡ 16 → next ≡ at + w → at ≤ done → done ≤ next → next * size ≤ len → n * len ≤ length items
    → ((r k : ℕ) → r < from + n → k < done → (front + r + k * step) * size + size ≤ length bytes)
    → with_vectors len (at * size) (map (λ r. flat_map (stretch size size bytes) (row (front + at * step + r) step w)) (range_with_len from n)) (begun (elements_of size front step bytes done) len (done * size) from n items)
    ≡ begun (elements_of size front step bytes next) len (next * size) from n items
tile_goes_on size front step w len bytes at done next from zero items e x l m fits room inside = refl
tile_goes_on size front step w len bytes at done next from (suc n) items e x l m fits room inside =
    let f : ℕ → List ℕ = stretch size size bytes in
    let of : ℕ → ℕ → List ℕ = elements_of size front step bytes in
    let spread : suc n * len ≡ len + n * len = omega arith in
    let rest : List ℕ = begun (of done) len (done * size) (from + 1) n (drop len items) in
    let first : List ℕ = of done from ++ drop (done * size) (take len items) in
    let last : next * size ≡ at * size + 16 = ap (λ n. n * size) x ∙ (omega (arith, e)) in
    let counted : length (of done from) ≡ done * size = length-row size size bytes (front + from) step done (λ k b. inside from k (omega arith) b) in
    let before : length (of at from) ≡ at * size = length-row size size bytes (front + from) step at (λ k b. inside from k (omega arith) (omega arith)) in
    let behind : List ℕ = flat_map f (row (front + from + at * step) step (done - at)) in
    let cut : of done from ≡ of at from ++ behind = sym (group_more [] f (front + from) step at (done - at) done (omega (arith, l))) in
    let short : done * size ≤ next * size = mul-le-mul_right {m = done} {n = next} size m in
    let row_len : length (take len items) ≡ len = length-take-le len items (omega (arith, room, spread)) in
    let whole : length first ≡ len =
    length-append (of done from) (drop (done * size) (take len items))
    ∙ (omega (arith, counted, length-drop (done * size) (take len items), row_len, short, fits)) in
    let place : front + at * step + from ≡ front + from + at * step = omega arith in
    ap₂ (λ xs ys. xs ++ ys)
    (row_goes_on (of done from) (of at from) (flat_map f (row (front + at * step + from) step w)) items rest len (at * size) (done * size) counted before behind cut
    (mul-le-mul_right {m = at} {n = done} size l) (omega (arith, short, last)) (omega (arith, fits, last)) (omega (arith, room, spread))
    ∙ ap₂ (λ xs n. xs ++ drop n (take len items))
    (ap (λ p. of at from ++ flat_map f (row p step w)) place ∙ group_more [] f (front + from) step at w next x)
    (sym last))
    (ap (with_vectors len (at * size) (map (λ r. flat_map f (row (front + at * step + r) step w)) (range_with_len (from + 1) n))) (drop_at first rest len whole)
    ∙ tile_goes_on size front step w len bytes at done next (from + 1) n (drop len items) e x l m fits (omega (arith, length-drop len items, room, spread)) (λ r k b c. inside r k (omega (arith, b)) c))

-- rows that begin one behind another, one row after another
pub rows_joined : (f : ℕ → List ℕ) (step count front from n : ℕ) → flat_map (λ r. flat_map f (row (front + r) step count)) (range_with_len from n) ≡ flat_map f (next_rows step count (map (λ i. front + i * 1) (range_with_len from n)))
rows_joined f step count front from zero = refl
rows_joined f step count front from (suc n) =
    let one : front + from ≡ front + from * 1 = omega arith in
    ap₂ (λ xs ys. xs ++ ys) (ap (λ p. flat_map f (row p step count)) one) (rows_joined f step count front (from + 1) n)
    ∙ sym (flat_map-append f (row (front + from * 1) step count) (next_rows step count (map (λ i. front + i * 1) (range_with_len (from + 1) n))))

-- ---- the sizes that have tiles

-- a tile has as many rows as sixteen bytes have elements
pub tile_is_square : (size : ℕ) → HasTiles size → 16 / size * size ≡ 16
tile_is_square size tiles =
    elim tiles [ inl e ↦ subst (λ n. 16 / n * n ≡ 16) (sym e) refl | inr rest ↦ elim rest [ inl e ↦ subst (λ n. 16 / n * n ≡ 16) (sym e) refl | inr rest' ↦ elim rest' [ inl e ↦ subst (λ n. 16 / n * n ≡ 16) (sym e) refl | inr e ↦ subst (λ n. 16 / n * n ≡ 16) (sym e) refl ] ] ]

-- and has rows
pub tile_has_rows : (size n : ℕ) → n * size ≡ 16 → 0 < n
tile_has_rows size zero e = absurd (omega (arith, e))
tile_has_rows size (suc n) e = omega arith

-- ---- groups of rows

-- rows behind the rows before them
pub rows_more : (out : List ℕ) (f : ℕ → List ℕ) (s m front at n k next : ℕ) → at ≡ front + n → next ≡ n + k
    → (out ++ flat_map f (next_rows s m (row front 1 n))) ++ flat_map f (next_rows s m (row at 1 k)) ≡ out ++ flat_map f (next_rows s m (row front 1 next))
rows_more out f s m front at n k next is e =
    let from : at ≡ front + n * 1 = omega (arith, is) in
    append_assoc out (flat_map f (next_rows s m (row front 1 n))) (flat_map f (next_rows s m (row at 1 k)))
    ∙ ap (λ xs. out ++ xs)
    (sym (flat_map-append f (next_rows s m (row front 1 n)) (next_rows s m (row at 1 k)))
    ∙ ap (flat_map f) (ap (λ p. next_rows s m (row front 1 n) ++ next_rows s m (row p 1 k)) from ∙ group_more [] (λ p. row p s m) front 1 n k next e))

-- where the last row of a group is there, its vectors are
pub vectors_inside : (size n front at s step k len : ℕ) → n * size ≡ 16 → s ≡ 1 → (front + (at + (n - 1)) * s + k * step) * size + size ≤ len → (front + at + k * step) * size + 16 ≤ len
vectors_inside size zero front at s step k len e one h = absurd (omega (arith, e))
vectors_inside size (suc n) front at s step k len e one h =
    let last : (at + (suc n - 1)) * s ≡ at + n = ap (λ m. (at + (suc n - 1)) * m) one ∙ (omega arith) in
    let here : (front + (at + n) + k * step) * size + size ≤ len = subst (λ m. (front + m + k * step) * size + size ≤ len) last h in
    let spread : (front + (at + n) + k * step) * size + size ≡ (front + at + k * step) * size + suc n * size = grind arith in
    omega (arith, here, spread, e)
