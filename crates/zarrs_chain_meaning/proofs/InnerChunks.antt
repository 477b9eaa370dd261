-- A chunk cut into inner chunks is joined again, and the other way round.
use Rattle.std.proofs.Common.{◌≡◌, ℕ, zero, suc, ◌+◌, ◌*◌, ◌/◌, ◌%◌, ◌<◌, ◌≤◌, ◌++◌, nat_eq, nat_lt, true, get_or, List, [], ◌∷◌, length, map, arith, refl, ap, sym, subst, ◌∙◌}
use Rattle.std.specs.List.{All, range_with_len}
use Rattle.std.proofs.lemmas.Bool.{and_from, eqb-true}
use Rattle.std.proofs.lemmas.List.{ext_get_or, get_or-map, length-map}
use Rattle.std.proofs.lemmas.List.Elements.{All-nil, All-cons, All-append, All-head, All-tail}
use Rattle.std.proofs.lemmas.List.FromFn.{length-map-range_with_len, get_or-map-range_with_len}
use Rattle.std.proofs.lemmas.Nat.{div_below, mod_below, div-add-mod', div-mul-add, mod-mul-add}
use Rattle.zarrs_array_bytes.specs.Elements.{select}
use Rattle.zarrs_bytes.specs.BytesCodec.{IsChunk}
use Rattle.zarrs_chain_meaning.proofs.NestedNormal.{KeepsAbsent, kept_selected}
use Rattle.zarrs_chain_meaning.proofs.NestedStages.{all_selected, is_positive}
use Rattle.zarrs_chain_meaning.specs.Meaning.{Keeping}
use Rattle.zarrs_packbits.specs.Laws.{HasBytes}
use Rattle.zarrs_chain_meaning.specs.sharding.InnerChunks.{is_divided, grid, inner_chunk_count, inner_chunk_of, place_inside, place_in_shard, inner_chunk_places, inner_chunks_of, joined_inner_chunks, IsCut}
use Rattle.zarrs_grid.specs.ChunkTuples.{quotients, remainders, tuple_in_array}
use Rattle.zarrs_chunk.proofs.Inside.{row_major-below, lt_test, from_lt_test}
use Rattle.zarrs_chunk.proofs.NumberedTuples.{tuple_of_number-inside, row_major-tuple_of_number, tuple_of_number-row_major, factor_positive}
use Rattle.zarrs_chunk.specs.ChunkShape.{product}
use Rattle.zarrs_chunk.specs.Indices.{tuple_of_number}
use Rattle.zarrs_chunk.specs.Tuples.{row_major, is_tuple_inside}
use Rattle.zarrs_codec.proofs.Fences.{second_true, first_true}
use Rattle.zarrs_data_type.specs.Element.{Element, absent, Chunk, IsElement}
use Rattle.zarrs_data_type.specs.ElementType.{ElementType}

-- ---- one axis

whole : (size part : ℕ) → size % part ≡ 0 → size ≡ size / part * part
whole size part e = let d = div-add-mod' size part in omega (arith, d, e)

quotient_below : (index size part : ℕ) → 0 < part → size % part ≡ 0 → index < size → index / part < size / part
quotient_below index size part p e l =
    let w = whole size part e in
    let n : index < size / part * part = omega (arith, l, w) in
    div_below index part (size / part) p n

pub part_within : (number size part : ℕ) → size % part ≡ 0 → number < size / part → number * part + part ≤ size
part_within number size part e b =
    let w = whole size part e in
    let more = under number (size / part) part b in
    omega (arith, w, more)
  where
    under : (a n p : ℕ) → a < n → a * p + p < n * p + 1
    under a zero p h = absurd (omega (arith, h))
    under zero (suc n) p h = omega arith
    under (suc a) (suc n) p h = let u = under a n p (omega (arith, h)) in omega (arith, u)

inside_below : (number index size part : ℕ) → size % part ≡ 0 → number < size / part → index < part → number * part + index < size
inside_below number index size part e b l = let m = part_within number size part e b in omega (arith, m, l)

-- ---- tuples

quotients_inside : (shape sizes tuple : List ℕ) → All is_positive shape → is_divided shape sizes ≡ true → is_tuple_inside sizes tuple ≡ true → is_tuple_inside (quotients shape sizes) (quotients shape tuple) ≡ true
quotients_inside [] [] [] p d h = refl
quotients_inside [] [] (index ∷ tuple) p d h = absurd cc
quotients_inside [] (size ∷ sizes) tuple p d h = absurd cc
quotients_inside (part ∷ shape) [] tuple p d h = absurd cc
quotients_inside (part ∷ shape) (size ∷ sizes) [] p d h = absurd cc
quotients_inside (part ∷ shape) (size ∷ sizes) (index ∷ tuple) p d h =
    and_from _ _ (lt_test _ _ (quotient_below index size part (All-head is_positive part shape p) (eqb-true (size % part) 0 (first_true (nat_eq (size % part) 0) (is_divided shape sizes) d)) (from_lt_test index size (first_true (nat_lt index size) (is_tuple_inside sizes tuple) h))))
    (quotients_inside shape sizes tuple (All-tail is_positive part shape p) (second_true (nat_eq (size % part) 0) (is_divided shape sizes) d) (second_true (nat_lt index size) (is_tuple_inside sizes tuple) h))

remainders_inside : (shape sizes tuple : List ℕ) → All is_positive shape → is_divided shape sizes ≡ true → is_tuple_inside sizes tuple ≡ true → is_tuple_inside shape (remainders shape tuple) ≡ true
remainders_inside [] [] [] p d h = refl
remainders_inside [] [] (index ∷ tuple) p d h = absurd cc
remainders_inside [] (size ∷ sizes) tuple p d h = absurd cc
remainders_inside (part ∷ shape) [] tuple p d h = absurd cc
remainders_inside (part ∷ shape) (size ∷ sizes) [] p d h = absurd cc
remainders_inside (part ∷ shape) (size ∷ sizes) (index ∷ tuple) p d h =
    and_from _ _ (lt_test _ _ (mod_below index part (All-head is_positive part shape p)))
    (remainders_inside shape sizes tuple (All-tail is_positive part shape p) (second_true (nat_eq (size % part) 0) (is_divided shape sizes) d) (second_true (nat_lt index size) (is_tuple_inside sizes tuple) h))

tuple_back : (shape sizes tuple : List ℕ) → is_divided shape sizes ≡ true → is_tuple_inside sizes tuple ≡ true → tuple_in_array shape (quotients shape tuple) (remainders shape tuple) ≡ tuple
tuple_back [] [] [] d h = refl
tuple_back [] [] (index ∷ tuple) d h = absurd cc
tuple_back [] (size ∷ sizes) tuple d h = absurd cc
tuple_back (part ∷ shape) [] tuple d h = absurd cc
tuple_back (part ∷ shape) (size ∷ sizes) [] d h = absurd cc
tuple_back (part ∷ shape) (size ∷ sizes) (index ∷ tuple) d h =
    let one = div-add-mod' index part in
    let rest = tuple_back shape sizes tuple (second_true (nat_eq (size % part) 0) (is_divided shape sizes) d) (second_true (nat_lt index size) (is_tuple_inside sizes tuple) h) in
    λ i. one i ∷ rest i

-- a tuple of an inner chunk
record IsInside (shape sizes inner_chunks tuple : List ℕ) : Type 0 where
  pub inside : is_tuple_inside sizes (tuple_in_array shape inner_chunks tuple) ≡ true
  pub inner_chunk : quotients shape (tuple_in_array shape inner_chunks tuple) ≡ inner_chunks
  pub rest : remainders shape (tuple_in_array shape inner_chunks tuple) ≡ tuple

is_inside : (shape sizes inner_chunks tuple : List ℕ) → is_divided shape sizes ≡ true → is_tuple_inside (quotients shape sizes) inner_chunks ≡ true → is_tuple_inside shape tuple ≡ true → IsInside shape sizes inner_chunks tuple
is_inside [] [] [] [] d b t = record { inside = refl; inner_chunk = refl; rest = refl }
is_inside [] [] [] (index ∷ tuple) d b t = absurd cc
is_inside [] [] (inner_chunk ∷ inner_chunks) tuple d b t = absurd cc
is_inside [] (size ∷ sizes) inner_chunks tuple d b t = absurd cc
is_inside (part ∷ shape) [] inner_chunks tuple d b t = absurd cc
is_inside (part ∷ shape) (size ∷ sizes) [] tuple d b t = absurd cc
is_inside (part ∷ shape) (size ∷ sizes) (inner_chunk ∷ inner_chunks) [] d b t = absurd cc
is_inside (part ∷ shape) (size ∷ sizes) (inner_chunk ∷ inner_chunks) (index ∷ tuple) d b t =
    let rest = is_inside shape sizes inner_chunks tuple (second_true (nat_eq (size % part) 0) (is_divided shape sizes) d) (second_true (nat_lt inner_chunk (size / part)) (is_tuple_inside (quotients shape sizes) inner_chunks) b) (second_true (nat_lt index part) (is_tuple_inside shape tuple) t) in
    let small = from_lt_test index part (first_true (nat_lt index part) (is_tuple_inside shape tuple) t) in
    let low = from_lt_test inner_chunk (size / part) (first_true (nat_lt inner_chunk (size / part)) (is_tuple_inside (quotients shape sizes) inner_chunks) b) in
    let divided = eqb-true (size % part) 0 (first_true (nat_eq (size % part) 0) (is_divided shape sizes) d) in
    let q = div-mul-add inner_chunk part index small in
    let r = mod-mul-add inner_chunk part index small in
    record {
      inside = and_from _ _ (lt_test _ _ (inside_below inner_chunk index size part divided low small)) rest.inside;
      inner_chunk = λ i. q i ∷ rest.inner_chunk i;
      rest = λ i. r i ∷ rest.rest i;
    }

-- ---- places

pub is_cut : (shape sizes : List ℕ) → All is_positive shape → is_divided shape sizes ≡ true → IsCut shape sizes
is_cut shape sizes p d = record {
  chunk_below = λ place l. row_major-below (grid shape sizes) (quotients shape (tuple_of_number sizes place)) (quotients_inside shape sizes (tuple_of_number sizes place) p d (tuple_of_number-inside sizes place l));
  inside_below = λ place l. row_major-below shape (remainders shape (tuple_of_number sizes place)) (remainders_inside shape sizes (tuple_of_number sizes place) p d (tuple_of_number-inside sizes place l));
  back = λ place l.
      let tuple = tuple_of_number sizes place in
      let inside = tuple_of_number-inside sizes place l in
      let b = tuple_of_number-row_major (grid shape sizes) (quotients shape tuple) (quotients_inside shape sizes tuple p d inside) in
      let r = tuple_of_number-row_major shape (remainders shape tuple) (remainders_inside shape sizes tuple p d inside) in
      (λ i. row_major sizes (tuple_in_array shape (b i) (r i))) ∙ ap (row_major sizes) (tuple_back shape sizes tuple d inside) ∙ row_major-tuple_of_number sizes place l;
  place_below = λ inner_chunk inside b l. row_major-below sizes (found inner_chunk inside) (at inner_chunk inside b l).inside;
  chunk_again = λ inner_chunk inside b l.
      let e = tuple_of_number-row_major sizes (found inner_chunk inside) (at inner_chunk inside b l).inside in
      ap (λ t. row_major (grid shape sizes) (quotients shape t)) e ∙ ap (row_major (grid shape sizes)) (at inner_chunk inside b l).inner_chunk ∙ row_major-tuple_of_number (grid shape sizes) inner_chunk b;
  inside_again = λ inner_chunk inside b l.
      let e = tuple_of_number-row_major sizes (found inner_chunk inside) (at inner_chunk inside b l).inside in
      ap (λ t. row_major shape (remainders shape t)) e ∙ ap (row_major shape) (at inner_chunk inside b l).rest ∙ row_major-tuple_of_number shape inside l;
}
  where
    found : ℕ → ℕ → List ℕ
    found inner_chunk inside = tuple_in_array shape (tuple_of_number (grid shape sizes) inner_chunk) (tuple_of_number shape inside)

    at : (inner_chunk inside : ℕ) → inner_chunk < inner_chunk_count shape sizes → inside < product shape → IsInside shape sizes (tuple_of_number (grid shape sizes) inner_chunk) (tuple_of_number shape inside)
    at inner_chunk inside b l = is_inside shape sizes (tuple_of_number (grid shape sizes) inner_chunk) (tuple_of_number shape inside) d (tuple_of_number-inside (grid shape sizes) inner_chunk b) (tuple_of_number-inside shape inside l)

-- ---- sizes

pub positive_product : (sizes : List ℕ) → All is_positive sizes → 0 < product sizes
positive_product [] p = omega arith
positive_product (zero ∷ sizes) p = absurd (let h = All-head is_positive zero sizes p in omega (arith, h))
positive_product (suc size ∷ sizes) p = let h = positive_product sizes (All-tail is_positive (suc size) sizes p) in omega (arith, h)

product_positive : (sizes : List ℕ) → 0 < product sizes → All is_positive sizes
product_positive [] h = All-nil is_positive
product_positive (zero ∷ sizes) h = absurd (omega (arith, h))
product_positive (suc size ∷ sizes) h = All-cons is_positive (suc size) sizes (omega arith) (product_positive sizes (factor_positive 0 (suc size) (product sizes) h))

pub grid_positive : (shape sizes : List ℕ) → All is_positive sizes → IsCut shape sizes → All is_positive (grid shape sizes)
grid_positive shape sizes p cut = let some = cut.chunk_below 0 (positive_product sizes p) in product_positive (grid shape sizes) (omega (arith, some))

-- the index has no size of zero
pub index_positive : (shape sizes : List ℕ) → All is_positive sizes → IsCut shape sizes → All is_positive (grid shape sizes ++ 2 ∷ [])
index_positive shape sizes p cut =
    All-append is_positive (grid shape sizes) (2 ∷ []) (grid_positive shape sizes p cut) (All-cons is_positive 2 [] (omega arith) (All-nil is_positive))

-- ---- chunks

abbrev inner_chunk_in : List ℕ → List ℕ → Chunk → ℕ → Chunk
inner_chunk_in shape sizes chunk inner_chunk = select chunk (inner_chunk_places shape sizes inner_chunk)

pub inner_chunks_long : (shape sizes : List ℕ) (chunk : Chunk) → length (inner_chunks_of shape sizes chunk) ≡ inner_chunk_count shape sizes
inner_chunks_long shape sizes chunk = length-map-range_with_len (inner_chunk_in shape sizes chunk) 0 (inner_chunk_count shape sizes)

pub places_long : (shape sizes : List ℕ) (inner_chunk : ℕ) → length (inner_chunk_places shape sizes inner_chunk) ≡ product shape
places_long shape sizes inner_chunk = length-map-range_with_len (place_in_shard shape sizes inner_chunk) 0 (product shape)

pub inner_chunk_long : (shape sizes : List ℕ) (chunk : Chunk) (inner_chunk : ℕ) → length (inner_chunk_in shape sizes chunk inner_chunk) ≡ product shape
inner_chunk_long shape sizes chunk inner_chunk = length-map (inner_chunk_places shape sizes inner_chunk) (λ place. get_or chunk place absent) ∙ places_long shape sizes inner_chunk

-- the element at a place of an inner chunk
pub element_in : (shape sizes : List ℕ) (chunk : Chunk) (inner_chunk inside : ℕ) → inner_chunk < inner_chunk_count shape sizes → inside < product shape
    → get_or (get_or (inner_chunks_of shape sizes chunk) inner_chunk []) inside absent ≡ get_or chunk (place_in_shard shape sizes inner_chunk inside) absent
element_in shape sizes chunk inner_chunk inside b l =
    ap (λ (c : Chunk). get_or c inside absent) (get_or-map-range_with_len (inner_chunk_in shape sizes chunk) 0 (inner_chunk_count shape sizes) inner_chunk inner_chunk [] b (omega arith))
    ∙ get_or-map (λ place. get_or chunk place absent) (inner_chunk_places shape sizes inner_chunk) inside 0 absent (omega (arith, l, places_long shape sizes inner_chunk))
    ∙ ap (λ p. get_or chunk p absent) (get_or-map-range_with_len (place_in_shard shape sizes inner_chunk) 0 (product shape) inside inside 0 l (omega arith))

abbrev pub joined_at : List ℕ → List ℕ → List Chunk → ℕ → Element
joined_at shape sizes inner_chunks place = get_or (get_or inner_chunks (inner_chunk_of shape sizes place) []) (place_inside shape sizes place) absent

pub joined_long : (shape sizes : List ℕ) (inner_chunks : List Chunk) → length (joined_inner_chunks shape sizes inner_chunks) ≡ product sizes
joined_long shape sizes inner_chunks = length-map-range_with_len (joined_at shape sizes inner_chunks) 0 (product sizes)

-- inner chunks of a chunk of elements of the type are such
pub inner_chunk_is : (shape sizes : List ℕ) (type : ElementType) (chunk : Chunk) (inner_chunk : ℕ) → is_divided shape sizes ≡ true → IsChunk type (product sizes) chunk → inner_chunk < inner_chunk_count shape sizes → IsChunk type (product shape) (inner_chunk_in shape sizes chunk inner_chunk)
inner_chunk_is shape sizes type chunk inner_chunk divided is b = record {
  count_is = inner_chunk_long shape sizes chunk inner_chunk;
  each = λ k d l.
      let inside : k < product shape = omega (arith, l, inner_chunk_long shape sizes chunk inner_chunk) in
      let cut = is_cut shape sizes (product_positive shape (omega (arith, inside))) divided in
      let place : place_in_shard shape sizes inner_chunk k < length chunk = let p = cut.place_below inner_chunk k b inside in omega (arith, p, is.count_is) in
      let here : k < length (inner_chunk_places shape sizes inner_chunk) = omega (arith, inside, places_long shape sizes inner_chunk) in
      let e = get_or-map (λ place. get_or chunk place absent) (inner_chunk_places shape sizes inner_chunk) k 0 d here ∙ ap (λ p. get_or chunk p absent) (get_or-map-range_with_len (place_in_shard shape sizes inner_chunk) 0 (product shape) k k 0 inside (omega arith)) in
      subst (IsElement type) (sym e) (is.each (place_in_shard shape sizes inner_chunk k) absent place);
}

-- what holds of each inner chunk of so many
pub all_inner_chunks : (shape sizes : List ℕ) (P : Chunk → Type 0) (chunk : Chunk) → ((inner_chunk : ℕ) → inner_chunk < inner_chunk_count shape sizes → P (select chunk (inner_chunk_places shape sizes inner_chunk))) → All P (inner_chunks_of shape sizes chunk)
all_inner_chunks shape sizes P chunk each = λ k d l.
    let b : k < inner_chunk_count shape sizes = omega (arith, l, inner_chunks_long shape sizes chunk) in
    subst P (sym (get_or-map-range_with_len (inner_chunk_in shape sizes chunk) 0 (inner_chunk_count shape sizes) k k d b (omega arith))) (each k b)

pub inner_chunks_are : (shape sizes : List ℕ) (type : ElementType) (chunk : Chunk) → is_divided shape sizes ≡ true → IsChunk type (product sizes) chunk → All (IsChunk type (product shape)) (inner_chunks_of shape sizes chunk)
inner_chunks_are shape sizes type chunk divided is = all_inner_chunks shape sizes (IsChunk type (product shape)) chunk (λ inner_chunk b. inner_chunk_is shape sizes type chunk inner_chunk divided is b)

pub inner_chunks_have : (shape sizes : List ℕ) (chunk : Chunk) → All HasBytes chunk → All (All HasBytes) (inner_chunks_of shape sizes chunk)
inner_chunks_have shape sizes chunk h = all_inner_chunks shape sizes (All HasBytes) chunk (λ inner_chunk b. all_selected chunk (inner_chunk_places shape sizes inner_chunk) h)

-- the inner chunks of the normal form are the normal forms of the inner chunks
pub inner_chunks_kept : (shape sizes : List ℕ) (keep : Keeping) → KeepsAbsent keep → (type : ElementType) (chunk : Chunk) → map (map (keep type)) (inner_chunks_of shape sizes chunk) ≡ inner_chunks_of shape sizes (map (keep type) chunk)
inner_chunks_kept shape sizes keep a type chunk = along (range_with_len 0 (inner_chunk_count shape sizes))
  where
    along : (places : List ℕ) → map (map (keep type)) (map (inner_chunk_in shape sizes chunk) places) ≡ map (inner_chunk_in shape sizes (map (keep type) chunk)) places
    along [] = refl
    along (inner_chunk ∷ places) = λ i. kept_selected keep a type chunk (inner_chunk_places shape sizes inner_chunk) i ∷ along places i

-- a chunk is what its inner chunks make
pub joined_again : (shape sizes : List ℕ) (chunk : Chunk) → IsCut shape sizes → length chunk ≡ product sizes → joined_inner_chunks shape sizes (inner_chunks_of shape sizes chunk) ≡ chunk
joined_again shape sizes chunk cut long =
    let inner_chunks = inner_chunks_of shape sizes chunk in
    ext_get_or absent (joined_inner_chunks shape sizes inner_chunks) chunk (joined_long shape sizes inner_chunks ∙ sym long)
    (λ place below.
    let l : place < product sizes = omega (arith, below, joined_long shape sizes inner_chunks) in
    get_or-map-range_with_len (joined_at shape sizes inner_chunks) 0 (product sizes) place place absent l (omega arith)
    ∙ element_in shape sizes chunk (inner_chunk_of shape sizes place) (place_inside shape sizes place) (cut.chunk_below place l) (cut.inside_below place l)
    ∙ ap (λ p. get_or chunk p absent) (cut.back place l))

-- each of the inner chunks is so long
abbrev pub AreLong : ℕ → List Chunk → Type 0
AreLong count inner_chunks = (k : ℕ) → k < length inner_chunks → length (get_or inner_chunks k []) ≡ count

-- inner chunks are those of what they make
pub inner_chunks_again : (shape sizes : List ℕ) (inner_chunks : List Chunk) → IsCut shape sizes → length inner_chunks ≡ inner_chunk_count shape sizes → AreLong (product shape) inner_chunks → inner_chunks_of shape sizes (joined_inner_chunks shape sizes inner_chunks) ≡ inner_chunks
inner_chunks_again shape sizes inner_chunks cut long each =
    let chunk = joined_inner_chunks shape sizes inner_chunks in
    ext_get_or [] (inner_chunks_of shape sizes chunk) inner_chunks (inner_chunks_long shape sizes chunk ∙ sym long)
    (λ inner_chunk below.
    let b : inner_chunk < inner_chunk_count shape sizes = omega (arith, below, inner_chunks_long shape sizes chunk) in
    let one = get_or-map-range_with_len (inner_chunk_in shape sizes chunk) 0 (inner_chunk_count shape sizes) inner_chunk inner_chunk [] b (omega arith) in
    let this : length (get_or inner_chunks inner_chunk []) ≡ product shape = each inner_chunk (omega (arith, b, long)) in
    one ∙ ext_get_or absent (inner_chunk_in shape sizes chunk inner_chunk) (get_or inner_chunks inner_chunk []) (inner_chunk_long shape sizes chunk inner_chunk ∙ sym this)
    (λ inside under.
    let l : inside < product shape = omega (arith, under, inner_chunk_long shape sizes chunk inner_chunk) in
    let p : place_in_shard shape sizes inner_chunk inside < product sizes = cut.place_below inner_chunk inside b l in
    ap (λ (c : Chunk). get_or c inside absent) (sym one)
    ∙ element_in shape sizes chunk inner_chunk inside b l
    ∙ get_or-map-range_with_len (joined_at shape sizes inner_chunks) 0 (product sizes) (place_in_shard shape sizes inner_chunk inside) (place_in_shard shape sizes inner_chunk inside) absent p (omega arith)
    ∙ (λ i. get_or (get_or inner_chunks (cut.chunk_again inner_chunk inside b l i) []) (cut.inside_again inner_chunk inside b l i) absent)))
