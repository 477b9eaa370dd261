-- The rows of a chunk, by the rows of its inner chunks.
use Rattle.std.proofs.Common.{◌≡◌, ℕ, zero, suc, ◌+◌, ◌-◌, ◌*◌, ◌/◌, ◌%◌, ◌<◌, ◌≤◌, ◌^◌, nat_eq, nat_lt, Bool, true, false, Option, Some, None, Result, Ok, get_or, ltb-true, zero-add, List, [], ◌∷◌, ◌++◌, length, map, take, drop, arith, refl, ap, ap₂, sym, subst, ◌∙◌, length-drop}
use Rattle.std.specs.Cmp.Lexicographic.{pointwise, same_text}
use Rattle.std.specs.List.{All, between, flat_map, range_with_len}
use Rattle.std.proofs.Math.Nat.{div-eq_of_lt, mod-eq_of_lt, mul-le-mul_right}
use Rattle.std.proofs.lemmas.Bool.{eqb-true, lt-ltb}
use Rattle.std.proofs.lemmas.List.{append-nil, append_assoc, get_or-map, get_or-take, get_or-drop, length-map, length-take, take_all}
use Rattle.std.proofs.lemmas.List.Concat.{flat_map-append}
use Rattle.std.proofs.lemmas.List.Elements.{All-head, All-tail}
use Rattle.std.proofs.lemmas.Nat.{div_below, mod_below, div-add-mod', div-mul-add, mod-mul-add, row_fits}
use Rattle.std.specs.declared.alloc.Global.{Global}
use Rattle.std.specs.declared.borrow.CowSlice.{CowSlice}
use Rattle.std.proofs.lemmas.List.FromFn.{fill_by_all, get_or-map-range_with_len, get_or-range_with_len, length-map-range_with_len, length-range_with_len}
use Rattle.zarrs_array_bytes.specs.Elements.{element_at, elements, piece}
use Rattle.zarrs_array_bytes.specs.Held.{Raw, flen, items_of, raw_of}
use Rattle.zarrs_array_bytes.specs.Pieces.{fixed_of}
use Rattle.zarrs_array_bytes.specs.Validity.{Holds, sizes_fit, validity}
use Rattle.zarrs_array_bytes.proofs.ElementLemmas.{length-flat_map_sized, length_piece, piece_at}
use Rattle.zarrs_array_bytes.proofs.ValidLemmas.{both_ok, length_due, length_found, then_ok}
use Rattle.zarrs_chunk.specs.Answer.{demand}
use Rattle.zarrs_chunk.specs.declared.codec_error.CodecError.{CodecError}
use Rattle.zarrs_chunk.specs.declared.codec_error.CodecError.TheVariants.{InvalidBytesLength, Overflow}
use Rattle.zarrs_data_type.specs.Element.{Chunk, Element, absent, plain}
use Rattle.zarrs_data_type.specs.ElementType.{ElementType, fixed, text, bytes, optional, element_size, fixed_size_of}
use Rattle.zarrs_array_bytes.proofs.RunLemmas.{piece_is, pieces_of_run}
use Rattle.zarrs_chunk.specs.ChunkShape.{product}
use Rattle.zarrs_chunk.proofs.Consecutive.{range-append}
use Rattle.zarrs_chunk.proofs.NumberedTuples.{factor_positive}
use Rattle.zarrs_array_bytes.specs.SameBytesLaws.{both_true}
use Rattle.zarrs_chain_meaning.specs.sharding.InnerChunks.{grid, is_divided, inner_chunk_count, inner_chunk_of, joined_inner_chunks, place_inside, IsCut}
use Rattle.zarrs_chain_meaning.proofs.NestedStages.{is_positive}
use Rattle.zarrs_shard_bytes.proofs.Sizes.{inner_smaller}
use Rattle.zarrs_shard_bytes.proofs.Sizes.{same_long}
use Rattle.zarrs_shard_bytes.specs.Rows.{AreContents, IsPart, chunks_in, element_bytes, part_bytes, found_in_part}

-- ---- lists made row by row

-- two functions that agree, one from one place on and one from another
pub same_along : {A : Type 0} (f g : ℕ → List A) (a b n : ℕ) → ((k : ℕ) → k < n → f (a + k) ≡ g (b + k)) → flat_map f (range_with_len a n) ≡ flat_map g (range_with_len b n)
same_along f g a b zero same = refl
same_along f g a b (suc n) same =
    let p : a ≡ a + 0 = omega arith in
    let q : b + 0 ≡ b = omega arith in
    ap₂ (λ xs ys. xs ++ ys) (ap f p ∙ same 0 (omega arith) ∙ ap g q)
    (same_along f g (a + 1) (b + 1) n (λ k l.
    let i : a + 1 + k ≡ a + suc k = omega arith in
    let j : b + suc k ≡ b + 1 + k = omega arith in
    ap f i ∙ same (suc k) (omega (arith, l)) ∙ ap g j))

rows : {A : Type 0} (f g : ℕ → List A) (total from n : ℕ) → ((k : ℕ) → k < from + n → flat_map f (range_with_len (k * total) total) ≡ g k) → flat_map f (range_with_len (from * total) (n * total)) ≡ flat_map g (range_with_len from n)
rows f g total from zero each = let z : 0 * total ≡ 0 = omega arith in ap (λ m. flat_map f (range_with_len (from * total) m)) z
rows f g total from (suc n) each =
    let count : suc n * total ≡ total + n * total = omega arith in
    let next : from * total + total ≡ (from + 1) * total = omega arith in
    ap (λ m. flat_map f (range_with_len (from * total) m)) count
    ∙ ap (flat_map f) (range-append (from * total) total (n * total))
    ∙ flat_map-append f (range_with_len (from * total) total) (range_with_len (from * total + total) (n * total))
    ∙ ap₂ (λ xs ys. xs ++ ys) (each from (omega arith)) (ap (λ m. flat_map f (range_with_len m (n * total))) next ∙ rows f g total (from + 1) n (λ k l. each k (omega (arith, l))))

pub rows_from_first : {A : Type 0} (f g : ℕ → List A) (total n all : ℕ) → all ≡ n * total → ((k : ℕ) → k < n → flat_map f (range_with_len (k * total) total) ≡ g k) → flat_map f (range_with_len 0 all) ≡ flat_map g (range_with_len 0 n)
rows_from_first f g total n all e each =
    let z : 0 ≡ 0 * total = omega arith in
    ap₂ (λ a m. flat_map f (range_with_len a m)) z e ∙ rows f g total 0 n (λ k l. each k (omega (arith, l)))

-- one more
pub more_rows : {A : Type 0} (g : ℕ → List A) (old now new : List A) (index : ℕ) → now ≡ old ++ flat_map g (range_with_len 0 index) → new ≡ now ++ g index → new ≡ old ++ flat_map g (range_with_len 0 (index + 1))
more_rows {A} g old now new index before added =
    let here : 0 + index ≡ index = omega arith in
    let done : List A = flat_map g (range_with_len 0 index) in
    let all : flat_map g (range_with_len 0 (index + 1)) ≡ done ++ g index =
    ap (flat_map g) (range-append 0 index 1) ∙ flat_map-append g (range_with_len 0 index) ((0 + index) ∷ []) ∙ ap (λ ys. done ++ ys) (append-nil (g (0 + index)) ∙ ap g here) in
    added ∙ ap (λ xs. xs ++ g index) before ∙ append_assoc old done (g index) ∙ ap (λ ys. old ++ ys) (sym all)

-- what is made of each item is made of each number
by_number : {X A : Type 0} (f : X → List A) (g : ℕ → List A) (xs : List X) (n : ℕ) → ((k : ℕ) (d : X) → k < length xs → f (get_or xs k d) ≡ g (n + k)) → flat_map f xs ≡ flat_map g (range_with_len n (length xs))
by_number f g [] n each = refl
by_number f g (x ∷ xs) n each =
    let here : n + 0 ≡ n = omega arith in
    ap₂ (λ ys zs. ys ++ zs) (each 0 x (omega arith) ∙ ap g here)
    (by_number f g xs (n + 1) (λ k d l.
    let next : n + suc k ≡ n + 1 + k = omega arith in
    each (suc k) d (omega (arith, l)) ∙ ap g next))

-- what is made of so many items from one on
pub of_some : {X V A : Type 0} (view : X → V) (none : V) (h : V → List A) (xs : List X) (from count : ℕ) → from + count ≤ length xs
    → flat_map (λ x. h (view x)) (take (from + count - from) (drop from xs)) ≡ flat_map (λ k. h (get_or (map view xs) (from + k) none)) (range_with_len 0 count)
of_some view none h xs from count l =
    let some = take (from + count - from) (drop from xs) in
    let long : length some ≡ count = omega (arith, length-take (from + count - from) (drop from xs), length-drop from xs, l) in
    by_number (λ x. h (view x)) (λ k. h (get_or (map view xs) (from + k) none)) some 0 (λ k d m.
    let inside : k < from + count - from = omega (arith, m, long) in
    let there : from + k < length xs = omega (arith, m, long, l) in
    let at : from + k ≡ from + (0 + k) = omega arith in
    ap (λ x. h (view x)) (get_or-take (from + count - from) (drop from xs) k d inside ∙ get_or-drop from xs k d)
    ∙ ap h (sym (get_or-map view xs (from + k) d none there) ∙ ap (λ i. get_or (map view xs) i none) at))
    ∙ ap (λ n. flat_map (λ k. h (get_or (map view xs) (from + k) none)) (range_with_len 0 n)) long

-- ---- axis by axis

grouped : (a b c : ℕ) → a + (b + c) ≡ a + b + c
grouped a b c = omega arith

-- what is found for a place
abbrev pub found_at : {A : Type 0} → (ℕ → ℕ → List A) → ℕ → ℕ → List ℕ → List ℕ → ℕ → List A
found_at found number first shape sizes place = found (number + inner_chunk_of shape sizes place) (first + place_inside shape sizes place)

axis_element : {A : Type 0} (found : ℕ → ℕ → List A) (number first part len : ℕ) (shape sizes : List ℕ) (index rest : ℕ) → rest < product sizes
    → found_at found number first (part ∷ shape) (len ∷ sizes) (index * product sizes + rest)
    ≡ found_at found (number + index / part * inner_chunk_count shape sizes) (first + index % part * product shape) shape sizes rest
axis_element found number first part len shape sizes index rest l =
    let q = div-mul-add index (product sizes) rest l in
    let r = mod-mul-add index (product sizes) rest l in
    ap₂ (λ a b. found a b)
    (ap₂ (λ a b. number + (a / part * inner_chunk_count shape sizes + inner_chunk_of shape sizes b)) q r ∙ grouped number (index / part * inner_chunk_count shape sizes) (inner_chunk_of shape sizes rest))
    (ap₂ (λ a b. first + (a % part * product shape + place_inside shape sizes b)) q r ∙ grouped first (index % part * product shape) (place_inside shape sizes rest))

pub axis_found : {A : Type 0} (found : ℕ → ℕ → List A) (number first part len : ℕ) (shape sizes : List ℕ)
    → found_in_part found number first (part ∷ shape) (len ∷ sizes)
    ≡ flat_map (λ index. found_in_part found (number + index / part * inner_chunk_count shape sizes) (first + index % part * product shape) shape sizes) (range_with_len 0 len)
axis_found found number first part len shape sizes =
    rows_from_first (found_at found number first (part ∷ shape) (len ∷ sizes)) _ (product sizes) len (len * product sizes) refl (λ index l.
    same_along (found_at found number first (part ∷ shape) (len ∷ sizes)) (found_at found (number + index / part * inner_chunk_count shape sizes) (first + index % part * product shape) shape sizes) (index * product sizes) 0 (product sizes) (λ rest m.
    let at : rest ≡ 0 + rest = omega arith in
    axis_element found number first part len shape sizes index rest m
    ∙ ap (found_at found (number + index / part * inner_chunk_count shape sizes) (first + index % part * product shape) shape sizes) at))

-- ---- a chunk that is one inner chunk

one_chunk : (sizes : List ℕ) (place : ℕ) → place < product sizes → inner_chunk_of sizes sizes place ≡ 0
one_chunk [] place l = refl
one_chunk (size ∷ sizes) place l =
    let some : 0 < product sizes = factor_positive place size (product sizes) l in
    let first : place / product sizes / size ≡ 0 = div-eq_of_lt (div_below place (product sizes) size some l) in
    let none : 0 * product (grid sizes sizes) + 0 ≡ 0 = omega arith in
    ap₂ (λ a b. a * product (grid sizes sizes) + b) first (one_chunk sizes (place % product sizes) (mod_below place (product sizes) some)) ∙ none

same_place : (sizes : List ℕ) (place : ℕ) → place < product sizes → place_inside sizes sizes place ≡ place
same_place [] place l = omega (arith, l)
same_place (size ∷ sizes) place l =
    let some : 0 < product sizes = factor_positive place size (product sizes) l in
    let first : place / product sizes % size ≡ place / product sizes = mod-eq_of_lt (div_below place (product sizes) size some l) in
    ap₂ (λ a b. a * product sizes + b) first (same_place sizes (place % product sizes) (mod_below place (product sizes) some)) ∙ div-add-mod' place (product sizes)

one_in_all : (sizes : List ℕ) → All is_positive sizes → inner_chunk_count sizes sizes ≡ 1
one_in_all [] p = refl
one_in_all (size ∷ sizes) p =
    let once : 1 * size + 0 ≡ size = omega arith in
    let first : size / size ≡ 1 = ap (λ n. n / size) (sym once) ∙ div-mul-add 1 size 0 (All-head is_positive size sizes p) in
    let one : 1 * 1 ≡ 1 = refl in
    ap₂ (λ a b. a * b) first (one_in_all sizes (All-tail is_positive size sizes p)) ∙ one

-- ---- rows

pub first_divides : (part len : ℕ) (shape sizes : List ℕ) → is_divided (part ∷ shape) (len ∷ sizes) ≡ true → len ≡ len / part * part
first_divides part len shape sizes d =
    let none : len % part ≡ 0 = eqb-true (len % part) 0 (both_true (nat_eq (len % part) 0) (is_divided shape sizes) d).0 in
    omega (arith, none, div-add-mod' len part)

module _ {A : Type 0} (found : ℕ → ℕ → List A) (number first part len : ℕ) (rest : List ℕ) (some : 0 < part) (p : All is_positive rest) (divides : len ≡ len / part * part) where
  row_element : (k i : ℕ) → i < part * product rest
      → found_at found number first (part ∷ rest) (len ∷ rest) (k * (part * product rest) + i) ≡ found (number + k) (first + i)
  row_element k i l =
      let total : ℕ = product rest in
      let more : 0 < total = factor_positive i part total l in
      let h : ℕ = i / total in
      let a : ℕ = i % total in
      let low : h < part = div_below i total part more l in
      let under : a < total = mod_below i total more in
      let whole : h * total + a ≡ i = div-add-mod' i total in
      let at : k * (part * total) + i ≡ (k * part + h) * total + a = omega (arith, whole) in
      let once : number + k * 1 + 0 ≡ number + k = omega arith in
      let back : first + h * total + a ≡ first + i = omega (arith, whole) in
      ap (found_at found number first (part ∷ rest) (len ∷ rest)) at
      ∙ axis_element found number first part len rest rest (k * part + h) a under
      ∙ ap₂ (λ x y. found x y)
      ((λ j. number + div-mul-add k part h low j * one_in_all rest p j + one_chunk rest a under j) ∙ once)
      ((λ j. first + mod-mul-add k part h low j * total + same_place rest a under j) ∙ back)

  row_part : found_in_part found number first (part ∷ rest) (len ∷ rest)
      ≡ flat_map (λ k. flat_map (found (number + k)) (range_with_len first (part * product rest))) (range_with_len 0 (len / part))
  row_part =
      let total : ℕ = part * product rest in
      let all : len * product rest ≡ len / part * total = ap (λ n. n * product rest) divides ∙ times (len / part) part (product rest) in
      rows_from_first (found_at found number first (part ∷ rest) (len ∷ rest)) _ total (len / part) (len * product rest) all (λ k l.
      same_along (found_at found number first (part ∷ rest) (len ∷ rest)) (found (number + k)) (k * total) first total (row_element k))
    where
      times : (a b c : ℕ) → a * b * c ≡ a * (b * c)
      times a b c = omega arith

-- what is found for a part that no axis behind the first divides, inner chunk by inner chunk
pub row_found : {A : Type 0} (found : ℕ → ℕ → List A) (number first : ℕ) (shape sizes : List ℕ) → All is_positive shape → is_divided shape sizes ≡ true → drop 1 shape ≡ drop 1 sizes
    → found_in_part found number first shape sizes
    ≡ flat_map (λ k. flat_map (found (number + k)) (range_with_len first (product shape))) (range_with_len 0 (inner_chunk_count shape sizes))
row_found found number first [] [] p d same =
    let here : first + 0 ≡ first = omega arith in
    ap (λ n. found (number + 0) n ++ []) here ∙ sym (append-nil (found (number + 0) first ++ []))
row_found found number first [] (len ∷ sizes) p d same = absurd cc
row_found found number first (part ∷ shape) [] p d same = absurd cc
row_found found number first (part ∷ shape) (len ∷ sizes) p d same =
    let some : 0 < part = All-head is_positive part shape p in
    let rest : All is_positive shape = All-tail is_positive part shape p in
    let divides = first_divides part len shape sizes d in
    let once : len / part * 1 ≡ len / part = omega arith in
    let count : len / part * product (grid shape shape) ≡ len / part = ap (λ n. len / part * n) (one_in_all shape rest) ∙ once in
    subst (λ (ss : List ℕ). found_in_part found number first (part ∷ shape) (len ∷ ss) ≡ flat_map (λ k. flat_map (found (number + k)) (range_with_len first (part * product shape))) (range_with_len 0 (len / part * product (grid shape ss)))) same
    (row_part found number first part len shape some rest divides ∙ ap (λ n. flat_map (λ k. flat_map (found (number + k)) (range_with_len first (part * product shape))) (range_with_len 0 n)) (sym count))

-- the bytes of so many elements of an inner chunk
run_bytes : (size : ℕ) (content : List ℕ) (first count : ℕ) → flat_map (piece size content) (range_with_len first count) ≡ between (first * size) ((first + count) * size) content
run_bytes size content first count = pieces_of_run size content first count ∙ ap (λ n. between (first * size) n content) (spread first count size)
  where
    spread : (a b c : ℕ) → a * c + b * c ≡ (a + b) * c
    spread a b c = omega arith

-- the bytes of a part that no axis behind the first divides, inner chunk by inner chunk
row_bytes : (size : ℕ) (contents : List (List ℕ)) (number first : ℕ) (shape sizes : List ℕ) → All is_positive shape → is_divided shape sizes ≡ true → drop 1 shape ≡ drop 1 sizes
    → part_bytes size contents number first shape sizes
    ≡ flat_map (λ k. between (first * size) ((first + product shape) * size) (get_or contents (number + k) [])) (range_with_len 0 (inner_chunk_count shape sizes))
row_bytes size contents number first shape sizes p d same =
    row_found (element_bytes size contents) number first shape sizes p d same
    ∙ same_along _ _ 0 0 (inner_chunk_count shape sizes) (λ k l. run_bytes size (get_or contents (number + (0 + k)) []) first (product shape))

-- what is appended of a row
pub row_appended : {X : Type 0} (view : X → List ℕ) (size : ℕ) (xs : List X) (number count first each : ℕ) (shape sizes : List ℕ) → IsPart size (map view xs) number count first each shape sizes → pointwise nat_eq (drop 1 shape) (drop 1 sizes) ≡ true
    → flat_map (λ x. between (first * size) ((first + each) * size) (view x)) (take (number + count - number) (drop number xs)) ≡ part_bytes size (map view xs) number first shape sizes
row_appended view size xs number count first each shape sizes part same =
    let inside : number + count ≤ length xs = omega (arith, part.below, length-map xs view) in
    of_some view [] (between (first * size) ((first + each) * size)) xs number count inside
    ∙ ap₂ (λ n m. flat_map (λ k. between (first * size) ((first + n) * size) (get_or (map view xs) (number + k) [])) (range_with_len 0 m)) part.elements part.len
    ∙ sym (row_bytes size (map view xs) number first shape sizes part.positive part.divided (same_text (drop 1 shape) (drop 1 sizes) (sym same)))

-- the row's inner chunks have the bytes
pub row_inside : {X : Type 0} (view : X → List ℕ) (size : ℕ) (xs : List X) (number count first each : ℕ) (shape sizes : List ℕ) → IsPart size (map view xs) number count first each shape sizes
    → All (λ x. (first + each) * size ≤ length (view x)) (take (number + count - number) (drop number xs))
row_inside view size xs number count first each shape sizes part = λ k d l.
    let some = take (number + count - number) (drop number xs) in
    let fits : number + count ≤ length xs = omega (arith, part.below, length-map xs view) in
    let long : length some ≡ count = omega (arith, length-take (number + count - number) (drop number xs), length-drop number xs, fits) in
    let there : number + k < length xs = omega (arith, l, long, fits) in
    let is : get_or (map view xs) (number + k) [] ≡ view (get_or some k d) =
    get_or-map view xs (number + k) d [] there ∙ ap view (sym (get_or-take (number + count - number) (drop number xs) k d (omega (arith, l, long)) ∙ get_or-drop number xs k d)) in
    subst (λ (ys : List ℕ). (first + each) * size ≤ length ys) is (part.inside (number + k) [] (omega (arith, there, length-map xs view)))

-- ---- the parts of a part

-- an axis is left where one behind the first is divided
pub some_axis : (shape sizes : List ℕ) → length shape ≡ length sizes → pointwise nat_eq (drop 1 shape) (drop 1 sizes) ≡ false → 0 < length shape
some_axis [] [] e h = absurd cc
some_axis [] (len ∷ sizes) e h = absurd (omega arith)
some_axis (part ∷ shape) sizes e h = omega arith

quotient_below : (index len part : ℕ) → 0 < part → len ≡ len / part * part → index < len → index / part < len / part
quotient_below index len part p e l = div_below index part (len / part) p (omega (arith, l, e))

pub along_some : (size : ℕ) (contents : List (List ℕ)) (number count first each : ℕ) (shape sizes : List ℕ) → IsPart size contents number count first each shape sizes → length shape ≡ length sizes → 0 < length shape → 0 < get_or sizes 0 0 / get_or shape 0 0
along_some size contents number count first each [] sizes part e some = absurd (omega arith)
along_some size contents number count first each (one ∷ shape) [] part e some = absurd (omega arith)
along_some size contents number count first each (one ∷ shape) (len ∷ sizes) part e some =
    let long : 0 < len = part.some 0 0 (omega arith) in
    let below = quotient_below 0 len one (All-head is_positive one shape part.positive) (first_divides one len shape sizes part.divided) long in
    omega (arith, below)

record HasRest (size : ℕ) (contents : List (List ℕ)) (number count first each part len : ℕ) (shape sizes : List ℕ) : Type 0 where
  pub counts : count / (len / part) ≡ inner_chunk_count shape sizes
  pub elements : each / part ≡ product shape

has_rest : (size : ℕ) (contents : List (List ℕ)) (number count first each part len : ℕ) (shape sizes : List ℕ) → IsPart size contents number count first each (part ∷ shape) (len ∷ sizes) → HasRest size contents number count first each part len shape sizes
has_rest size contents number count first each part len shape sizes is =
    let some : 0 < part = All-head is_positive part shape is.positive in
    let along : 0 < len / part = along_some size contents number count first each (part ∷ shape) (len ∷ sizes) is (ap suc (same_long shape sizes (both_true (nat_eq (len % part) 0) (is_divided shape sizes) is.divided).1)) (omega arith) in
    let count_is : count ≡ inner_chunk_count shape sizes * (len / part) + 0 = is.len ∙ turned (len / part) (inner_chunk_count shape sizes) in
    let each_is : each ≡ product shape * part + 0 = is.elements ∙ turned part (product shape) in
    record {
      counts = ap (λ n. n / (len / part)) count_is ∙ div-mul-add (inner_chunk_count shape sizes) (len / part) 0 along;
      elements = ap (λ n. n / part) each_is ∙ div-mul-add (product shape) part 0 some;
    }
  where
    turned : (a b : ℕ) → a * b ≡ b * a + 0
    turned a b = omega arith

part_at : (size : ℕ) (contents : List (List ℕ)) (number count first each part len : ℕ) (shape sizes : List ℕ) (index : ℕ) → IsPart size contents number count first each (part ∷ shape) (len ∷ sizes) → index < len
    → IsPart size contents (number + index / part * inner_chunk_count shape sizes) (inner_chunk_count shape sizes) (first + index % part * product shape) (product shape) shape sizes
part_at size contents number count first each part len shape sizes index is l =
    let some : 0 < part = All-head is_positive part shape is.positive in
    let n : ℕ = inner_chunk_count shape sizes in
    let m : ℕ = product shape in
    let q : index / part < len / part = quotient_below index len part some (first_divides part len shape sizes is.divided) l in
    let r : index % part < part = mod_below index part some in
    let chunks : index / part * n + n ≤ len / part * n = row_fits (index / part) n (len / part) n q (omega arith) in
    let places : index % part * m + m ≤ part * m = row_fits (index % part) m part m r (omega arith) in
    let count_is : count ≡ len / part * n = is.len in
    let each_is : each ≡ part * m = is.elements in
    let chunks_here : number + index / part * n + n ≤ number + count = omega (arith, chunks, count_is) in
    let here : first + index % part * m + m ≤ first + each = omega (arith, places, each_is) in
    let bytes_here : (first + index % part * m + m) * size ≤ (first + each) * size = mul-le-mul_right size here in
    record {
      positive = All-tail is_positive part shape is.positive;
      some = All-tail is_positive len sizes is.some;
      divided = (both_true (nat_eq (len % part) 0) (is_divided shape sizes) is.divided).1;
      len = refl;
      elements = refl;
      below = omega (arith, chunks_here, is.below);
      inside = λ k d h. omega (arith, bytes_here, is.inside k d h);
      counted = omega (arith, chunks_here, is.counted);
      small = omega (arith, here, is.small);
      fits = omega (arith, bytes_here, is.fits);
    }

-- the part at an index of the first axis
pub next_part : (size : ℕ) (contents : List (List ℕ)) (number count first each : ℕ) (shape sizes : List ℕ) (index : ℕ) → IsPart size contents number count first each shape sizes → length shape ≡ length sizes → 0 < length shape → index < get_or sizes 0 0
    → IsPart size contents (number + index / get_or shape 0 0 * (count / (get_or sizes 0 0 / get_or shape 0 0))) (count / (get_or sizes 0 0 / get_or shape 0 0)) (first + index % get_or shape 0 0 * (each / get_or shape 0 0)) (each / get_or shape 0 0) (drop 1 shape) (drop 1 sizes)
next_part size contents number count first each [] sizes index is e some l = absurd (omega arith)
next_part size contents number count first each (part ∷ shape) [] index is e some l = absurd (omega arith)
next_part size contents number count first each (part ∷ shape) (len ∷ sizes) index is e some l =
    let rest = has_rest size contents number count first each part len shape sizes is in
    subst (λ n. IsPart size contents (number + index / part * n) n (first + index % part * (each / part)) (each / part) shape sizes) (sym rest.counts)
    (subst (λ m. IsPart size contents (number + index / part * inner_chunk_count shape sizes) (inner_chunk_count shape sizes) (first + index % part * m) m shape sizes) (sym rest.elements)
    (part_at size contents number count first each part len shape sizes index is l))

-- what is found for all parts along the first axis
pub parts_found : {A : Type 0} (found : ℕ → ℕ → List A) (size : ℕ) (contents : List (List ℕ)) (number count first each : ℕ) (shape sizes : List ℕ) → IsPart size contents number count first each shape sizes → length shape ≡ length sizes → 0 < length shape
    → flat_map (λ index. found_in_part found (number + index / get_or shape 0 0 * (count / (get_or sizes 0 0 / get_or shape 0 0))) (first + index % get_or shape 0 0 * (each / get_or shape 0 0)) (drop 1 shape) (drop 1 sizes)) (range_with_len 0 (get_or sizes 0 0))
    ≡ found_in_part found number first shape sizes
parts_found found size contents number count first each [] sizes is e some = absurd (omega arith)
parts_found found size contents number count first each (part ∷ shape) [] is e some = absurd (omega arith)
parts_found found size contents number count first each (part ∷ shape) (len ∷ sizes) is e some =
    let rest = has_rest size contents number count first each part len shape sizes is in
    (λ i. flat_map (λ index. found_in_part found (number + index / part * rest.counts i) (first + index % part * rest.elements i) shape sizes) (range_with_len 0 len))
    ∙ sym (axis_found found number first part len shape sizes)

-- all parts along the first axis
pub all_parts : (size : ℕ) (contents : List (List ℕ)) (number count first each : ℕ) (shape sizes : List ℕ) (index : ℕ) (old now : List ℕ) → IsPart size contents number count first each shape sizes → length shape ≡ length sizes → 0 < length shape → index ≡ get_or sizes 0 0
    → now ≡ old ++ flat_map (λ index. part_bytes size contents (number + index / get_or shape 0 0 * (count / (get_or sizes 0 0 / get_or shape 0 0))) (first + index % get_or shape 0 0 * (each / get_or shape 0 0)) (drop 1 shape) (drop 1 sizes)) (range_with_len 0 index)
    → now ≡ old ++ part_bytes size contents number first shape sizes
all_parts size contents number count first each shape sizes index old now is e some end done =
    done
    ∙ ap (λ n. old ++ flat_map (λ index. part_bytes size contents (number + index / get_or shape 0 0 * (count / (get_or sizes 0 0 / get_or shape 0 0))) (first + index % get_or shape 0 0 * (each / get_or shape 0 0)) (drop 1 shape) (drop 1 sizes)) (range_with_len 0 n)) end
    ∙ ap (λ xs. old ++ xs) (parts_found (element_bytes size contents) size contents number count first each shape sizes is e some)

-- all behind the first, as a slice
pub behind_first : (xs : List ℕ) → take (length xs - 1) (drop 1 xs) ≡ drop 1 xs
behind_first xs = take_all (length xs - 1) (drop 1 xs) (omega (arith, length-drop 1 xs))

-- ---- the chunk

-- so many bytes are counted
pub bytes_counted : (type : ElementType) (size count : ℕ) → fixed_size_of type ≡ Some size → sizes_fit type count ≡ Ok tt → count * size < 2 ^ 64
bytes_counted (fixed width components sign) size count s e =
    let is : element_size width components ≡ size = cc in
    by_test (nat_lt (count * size) (2 ^ 64)) refl (ap (λ n. demand (nat_lt (count * n) (2 ^ 64)) Overflow) (sym is) ∙ e)
  where
    by_test : (test : Bool) → nat_lt (count * size) (2 ^ 64) ≡ test → ◌≡◌ {A = Result (Unit {0}) CodecError} (demand test Overflow) (Ok tt) → count * size < 2 ^ 64
    by_test true t h = ltb-true (count * size) (2 ^ 64) t
    by_test false t h = absurd cc
bytes_counted text size count s e = absurd cc
bytes_counted bytes size count s e = absurd cc
bytes_counted (optional type) size count s e = absurd cc

-- fewer elements have room too
pub less_room : (type : ElementType) (size count all : ℕ) → fixed_size_of type ≡ Some size → count ≤ all → sizes_fit type all ≡ Ok tt → sizes_fit type count ≡ Ok tt
less_room (fixed width components sign) size count all s l e =
    let below : all * element_size width components < 2 ^ 64 = bytes_counted (fixed width components sign) (element_size width components) all refl e in
    let fewer : count * element_size width components ≤ all * element_size width components = mul-le-mul_right (element_size width components) l in
    let test : nat_lt (count * element_size width components) (2 ^ 64) ≡ true = lt-ltb _ _ (omega (arith, below, fewer)) in
    ap (λ b. demand b Overflow) test
less_room text size count all s l e = absurd cc
less_room bytes size count all s l e = absurd cc
less_room (optional type) size count all s l e = absurd cc

-- how many bytes so many elements have
pub valid_long : (type : ElementType) (size count : ℕ) (raw : Raw) → fixed_size_of type ≡ Some size → validity type count (flen raw) ≡ Ok tt → length raw.items ≡ count * size
valid_long (fixed width components sign) size count raw s e =
    let is : element_size width components ≡ size = cc in
    length_found InvalidBytesLength _ _ (both_ok _ _ e).1 ∙ ap (λ n. count * n) is
valid_long text size count raw s e = absurd cc
valid_long bytes size count raw s e = absurd cc
valid_long (optional type) size count raw s e = absurd cc

contents_there : (type : ElementType) (size : ℕ) (contents : List (CowSlice ℕ Global)) (shape sizes : List ℕ) → AreContents type size contents shape sizes → (number : ℕ) → number < inner_chunk_count shape sizes
    → length (get_or (map items_of contents) number []) ≡ product shape * size
contents_there type size [] shape sizes is number l = absurd (omega (arith, l, is.all))
contents_there type size (content ∷ contents) shape sizes is number l =
    let there : number < length (content ∷ contents) = omega (arith, l, is.all) in
    ap (λ (xs : List ℕ). length xs) (get_or-map items_of (content ∷ contents) number content [] there) ∙ valid_long type size (product shape) (raw_of (get_or (content ∷ contents) number content)) is.sized (is.whole number content there)

pub whole_part : (type : ElementType) (size : ℕ) (contents : List (CowSlice ℕ Global)) (shape sizes : List ℕ) (each : ℕ) → AreContents type size contents shape sizes → All is_positive shape → All is_positive sizes → length contents < 2 ^ 64 → each < 2 ^ 64 → each ≡ product shape
    → IsPart size (map items_of contents) 0 (length contents) 0 each shape sizes
whole_part type size contents shape sizes each is parts_positive positive few small each_is =
    let bytes_fit : product shape * size < 2 ^ 64 = bytes_counted type size (product shape) is.sized (less_room type size (product shape) (product sizes) is.sized (inner_smaller shape sizes parts_positive positive is.divided) is.room) in
    let due : (0 + each) * size ≡ product shape * size = ap (λ n. (0 + n) * size) each_is ∙ (let z : (0 + product shape) * size ≡ product shape * size = omega arith in z) in
    record {
      positive = parts_positive;
      some = positive;
      divided = is.divided;
      len = is.all;
      elements = each_is;
      below = omega (arith, length-map contents items_of);
      inside = λ k d l.
          let there = contents_there type size contents shape sizes is k (omega (arith, l, length-map contents items_of, is.all)) in
          let same : get_or (map items_of contents) k d ≡ get_or (map items_of contents) k [] = get_or_default (map items_of contents) k d [] l in
          omega (arith, due, there, ap (λ (xs : List ℕ). length xs) same);
      counted = omega (arith, few);
      small = omega (arith, small);
      fits = omega (arith, due, bytes_fit);
    }
  where
    get_or_default : (xs : List (List ℕ)) (k : ℕ) (d e : List ℕ) → k < length xs → get_or xs k d ≡ get_or xs k e
    get_or_default [] k d e l = absurd (omega arith)
    get_or_default (x ∷ xs) zero d e l = refl
    get_or_default (x ∷ xs) (suc k) d e l = get_or_default xs k d e (omega (arith, l))

-- the element at a place of one of the inner chunks
fixed_element : (width components : ℕ) (sign : Bool) (contents : List (CowSlice ℕ Global)) (count number inside : ℕ) → number < length contents → inside < count
    → get_or (get_or (chunks_in (fixed width components sign) count contents) number []) inside absent ≡ plain (piece (element_size width components) (get_or (map items_of contents) number []) inside)
fixed_element width components sign [] count number inside l m = absurd (omega arith)
fixed_element width components sign (x ∷ xs) count number inside l m =
    let contents : List (CowSlice ℕ Global) = x ∷ xs in
    ap (λ (chunk : Chunk). get_or chunk inside absent) (get_or-map (λ content. elements (fixed width components sign) count (flen (raw_of content))) contents number x [] l)
    ∙ get_or-map-range_with_len (element_at (fixed width components sign) (flen (raw_of (get_or contents number x)))) 0 count inside inside absent m (omega arith)
    ∙ ap (λ (items : List ℕ). plain (piece (element_size width components) items inside)) (sym (get_or-map items_of contents number x [] l))

-- the element at a place
module _ (type : ElementType) (size : ℕ) (contents : List (CowSlice ℕ Global)) (shape sizes : List ℕ) (is : AreContents type size contents shape sizes) (cut : IsCut shape sizes) where
  abbrev source : ℕ → List ℕ
  source = found_at (element_bytes size (map items_of contents)) 0 0 shape sizes

  abbrev numbers : List ℕ
  numbers = range_with_len 0 (product sizes)

  source_is : (place : ℕ) → source place ≡ piece size (get_or (map items_of contents) (inner_chunk_of shape sizes place) []) (place_inside shape sizes place)
  source_is place =
      let a : 0 + inner_chunk_of shape sizes place ≡ inner_chunk_of shape sizes place = omega arith in
      let b : 0 + place_inside shape sizes place ≡ place_inside shape sizes place = omega arith in
      ap₂ (λ n k. piece size (get_or (map items_of contents) n []) k) a b

  source_long : (place : ℕ) → place < product sizes → length (source place) ≡ size
  source_long place l =
      let number = inner_chunk_of shape sizes place in
      let inside = place_inside shape sizes place in
      let fits : inside * size + size ≤ product shape * size = row_fits inside size (product shape) size (cut.inside_below place l) (omega arith) in
      ap (λ (xs : List ℕ). length xs) (source_is place)
      ∙ length_piece size inside (get_or (map items_of contents) number []) (omega (arith, fits, contents_there type size contents shape sizes is number (cut.chunk_below place l)))

  number_there : (k : ℕ) → k < length numbers → get_or numbers k 0 ≡ k
  number_there k l = get_or-range_with_len 0 (product sizes) k 0 (omega (arith, l, length-range_with_len 0 (product sizes))) ∙ zero-add k

  all_long : (k : ℕ) → k < length numbers → length (source (get_or numbers k 0)) ≡ size
  all_long k l = ap (λ n. length (source n)) (number_there k l) ∙ source_long k (omega (arith, l, length-range_with_len 0 (product sizes)))

  bytes_long : length (part_bytes size (map items_of contents) 0 0 shape sizes) ≡ product sizes * size
  bytes_long = length-flat_map_sized source size numbers 0 all_long ∙ ap (λ n. n * size) (length-range_with_len 0 (product sizes))

  bytes_there : (place : ℕ) → place < product sizes → piece size (part_bytes size (map items_of contents) 0 0 shape sizes) place ≡ source place
  bytes_there place l =
      let there : place < length numbers = omega (arith, l, length-range_with_len 0 (product sizes)) in
      piece_is size place (part_bytes size (map items_of contents) 0 0 shape sizes) ∙ piece_at source size numbers place 0 all_long there ∙ ap source (number_there place there)

-- the bytes row by row are a container of the chunk
pub rows_hold : (type : ElementType) (size : ℕ) (contents : List (CowSlice ℕ Global)) (shape sizes out : List ℕ) → AreContents type size contents shape sizes → IsCut shape sizes → out ≡ part_bytes size (map items_of contents) 0 0 shape sizes
    → Holds type (fixed_of out) (joined_inner_chunks shape sizes (chunks_in type (product shape) contents))
rows_hold (fixed width components sign) size contents shape sizes out is cut made =
    let type : ElementType = fixed width components sign in
    let each : element_size width components ≡ size = let s : ◌≡◌ {A = Option ℕ} (Some (element_size width components)) (Some size) = is.sized in cc in
    let chunks : List Chunk = chunks_in type (product shape) contents in
    let joined : ℕ → Element = λ place. get_or (get_or chunks (inner_chunk_of shape sizes place) []) (place_inside shape sizes place) absent in
    let long : length (joined_inner_chunks shape sizes chunks) ≡ product sizes = length-map-range_with_len joined 0 (product sizes) in
    let due : length out ≡ product sizes * element_size width components =
    ap (λ (xs : List ℕ). length xs) made ∙ bytes_long type size contents shape sizes is cut ∙ ap (λ n. product sizes * n) (sym each) in
    let same : (place : ℕ) → place < product sizes → element_at type (fixed_of out) place ≡ joined place = λ place l.
    let there : inner_chunk_of shape sizes place < length contents = omega (arith, cut.chunk_below place l, is.all) in
    ap₂ (λ n (xs : List ℕ). plain (piece n xs place)) each made
    ∙ ap plain (bytes_there type size contents shape sizes is cut place l ∙ source_is type size contents shape sizes is cut place)
    ∙ ap (λ n. plain (piece n (get_or (map items_of contents) (inner_chunk_of shape sizes place) []) (place_inside shape sizes place))) (sym each)
    ∙ sym (fixed_element width components sign contents (product shape) (inner_chunk_of shape sizes place) (place_inside shape sizes place) there (cut.inside_below place l)) in
    record {
      valid = ap (λ n. validity type n (fixed_of out)) long ∙ then_ok _ _ is.room (length_due InvalidBytesLength _ _ due);
      elements_are = ap (λ n. elements type n (fixed_of out)) long
          ∙ fill_by_all joined (elements type (product sizes) (fixed_of out)) (product sizes) absent (length-map-range_with_len (element_at type (fixed_of out)) 0 (product sizes))
          (λ place l. get_or-map-range_with_len (element_at type (fixed_of out)) 0 (product sizes) place place absent l (omega arith) ∙ same place l);
    }
rows_hold text size contents shape sizes out is cut made = absurd (let s : ◌≡◌ {A = Option ℕ} None (Some size) = is.sized in cc)
rows_hold bytes size contents shape sizes out is cut made = absurd (let s : ◌≡◌ {A = Option ℕ} None (Some size) = is.sized in cc)
rows_hold (optional type) size contents shape sizes out is cut made = absurd (let s : ◌≡◌ {A = Option ℕ} None (Some size) = is.sized in cc)
