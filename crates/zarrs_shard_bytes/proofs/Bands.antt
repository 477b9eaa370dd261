-- The elements of a band of inner chunks, row by row.
use Rattle.std.proofs.Common.{◌≡◌, ℕ, zero, suc, ◌+◌, ◌-◌, ◌*◌, ◌/◌, ◌%◌, ◌<◌, ◌≤◌, ◌^◌, nat_eq, true, List, [], ◌∷◌, ◌++◌, length, map, take, drop, get_or, replicate, Result, Ok, arith, refl, ap, ap₂, sym, subst, ◌∙◌}
use Rattle.std.specs.Cmp.Lexicographic.{pointwise, same_text}
use Rattle.std.specs.List.{All, flat_map, range_with_len}
use Rattle.std.proofs.lemmas.List.{append-nil, append_assoc, get_or-map, get_or-replicate, length-append, length-replicate, map-append}
use Rattle.std.proofs.lemmas.List.Concat.{flat_map_single}
use Rattle.std.proofs.lemmas.Bool.{and_from, eq-eqb}
use Rattle.std.proofs.lemmas.List.Elements.{All-cons, All-head, All-nil, All-tail}
use Rattle.std.proofs.Math.Nat.{div-eq_of_lt, mod-eq_of_lt}
use Rattle.std.proofs.lemmas.List.FromFn.{get_or-map-range_with_len, length-map-range_with_len}
use Rattle.std.proofs.lemmas.Nat.{div-mul-add, mod-mul-add, row_fits}
use Rattle.zarrs_array_bytes.specs.Elements.{element_at, elements}
use Rattle.zarrs_array_bytes.specs.Held.{Held}
use Rattle.zarrs_array_bytes.specs.Validity.{Holds, validity}
use Rattle.zarrs_array_bytes.specs.SameBytesLaws.{both_true}
use Rattle.zarrs_array_bytes.proofs.UpdatedLemmas.{length-elements}
use Rattle.zarrs_chunk.specs.Answer.{AnswersBy, GivesBy, memory}
use Rattle.zarrs_chunk.specs.ChunkShape.{product}
use Rattle.zarrs_chunk.proofs.Products.{product_positive}
use Rattle.zarrs_chunk.specs.declared.codec_error.CodecError.{CodecError}
use Rattle.zarrs_data_type.specs.Element.{Chunk, Element, absent}
use Rattle.zarrs_data_type.specs.ElementType.{ElementType}
use Rattle.zarrs_chain_meaning.specs.sharding.InnerChunks.{inner_chunk_count, inner_chunk_of, is_divided, place_inside}
use Rattle.zarrs_bytes.proofs.Coding.{ok}
use Rattle.zarrs_array_bytes.specs.Tight.{IsTight}
use Rattle.zarrs_chain_meaning.proofs.NestedStages.{is_positive}
use Rattle.zarrs_chain_meaning.proofs.ShardSizes.{cut_count}
use Rattle.zarrs_shard_bytes.specs.Rows.{found_in_part}
use Rattle.zarrs_shard_bytes.specs.Bands.{AreJoinable, IsBandForm, IsElementPart, band_count, band_of, chunks_of, inner_element, part_elements, run_elements}
use Rattle.zarrs_shard_bytes.proofs.Rows.{axis_found, first_divides, next_part, of_some, row_found, rows_from_first, same_along}

-- ---- elements behind others

-- what is known of a container that has the elements of one, so many, and others behind them, so many
pub record JoinsTo (type : ElementType) (done : ℕ) (held : Held) (more : Chunk) (count : ℕ) (now : Held) : Type 0 where
  pub valid : validity type (done + count) now ≡ Ok tt
  pub are : elements type (done + count) now ≡ elements type done held ++ more

-- more behind them
pub joins_on : (type : ElementType) (done count each total at : ℕ) (held now next : Held) (old more all : Chunk) → JoinsTo type done held old count now → at ≡ done + count → total ≡ count + each → length more ≡ each
    → AnswersBy {E = CodecError} memory (Holds type) (Ok next) (Ok (elements type at now ++ more)) → all ≡ old ++ more → JoinsTo type done held all total next
joins_on type done count each total at held now next old more all w here sum l h e =
    let long : length (elements type at now ++ more) ≡ done + total =
    length-append (elements type at now) more ∙ ap₂ (λ a b. a + b) (length-elements type at now ∙ here) l ∙ (let t : done + count + each ≡ done + total = omega (arith, sum) in t) in
    record {
      valid = ap (λ n. validity type n next) (sym long) ∙ h.valid;
      are = ap (λ n. elements type n next) (sym long) ∙ h.elements_are ∙ ap (λ n. elements type n now ++ more) here ∙ ap (λ (xs : Chunk). xs ++ more) w.are ∙ append_assoc (elements type done held) old more
          ∙ ap (λ (xs : Chunk). elements type done held ++ xs) (sym e);
    }

-- what has all is the answer
pub joins_end : (type : ElementType) (done count : ℕ) (held now : Held) (more all : Chunk) → JoinsTo type done held more count now → all ≡ more → AnswersBy {E = CodecError} memory (Holds type) (Ok now) (Ok (elements type done held ++ all))
joins_end type done count held now more all w e =
    let whole : elements type (done + count) now ≡ elements type done held ++ all = w.are ∙ ap (λ (xs : Chunk). elements type done held ++ xs) (sym e) in
    let long : length (elements type done held ++ all) ≡ done + count = ap (λ (xs : Chunk). length xs) (sym whole) ∙ length-elements type (done + count) now in
    record {
      valid = ap (λ n. validity type n now) long ∙ w.valid;
      elements_are = ap (λ n. elements type n now) long ∙ whole;
    }

-- ---- rows

pub length_run : (type : ElementType) (first each : ℕ) (held : Held) → length (run_elements type first each held) ≡ each
length_run type first each held = length-map-range_with_len (element_at type held) first each

-- the elements of one inner chunk more
pub row_more : (type : ElementType) (first each : ℕ) (contents : List Held) (index : ℕ) (content : Held) → index < length contents → content ≡ get_or contents index content
    → flat_map (run_elements type first each) (take (index + 1) contents) ≡ flat_map (run_elements type first each) (take index contents) ++ run_elements type first each content
row_more type first each contents index content l e =
    let next : index + 1 ≡ suc index = omega arith in
    ap (λ n. flat_map (run_elements type first each) (take n contents)) next ∙ go contents index l e
  where
    go : (contents : List Held) (index : ℕ) → index < length contents → content ≡ get_or contents index content
        → flat_map (run_elements type first each) (take (suc index) contents) ≡ flat_map (run_elements type first each) (take index contents) ++ run_elements type first each content
    go [] index l e = absurd (omega arith)
    go (one ∷ rest) zero l e = append-nil (run_elements type first each one) ∙ ap (run_elements type first each) (sym e)
    go (one ∷ rest) (suc index) l e =
        ap (λ (xs : Chunk). run_elements type first each one ++ xs) (go rest index (omega (arith, l)) e)
        ∙ sym (append_assoc (run_elements type first each one) (flat_map (run_elements type first each) (take index rest)) (run_elements type first each content))

-- the elements of inner chunks as those of their numbers
run_found : (type : ElementType) (contents : List Held) (whole number first each : ℕ) (content : Held) → number < length contents → content ≡ get_or contents number content → first + each ≤ whole
    → run_elements type first each content ≡ flat_map (inner_element (chunks_of type whole contents) number) (range_with_len first each)
run_found type contents whole number first each content l e fits =
    sym (flat_map_single (element_at type content) (range_with_len first each))
    ∙ same_along (λ place. element_at type content place ∷ []) (inner_element (chunks_of type whole contents) number) first first each (λ k m.
    let at : first + k < whole = omega (arith, m, fits) in
    ap (λ (x : Element). x ∷ [])
    (ap (λ (x : Held). element_at type x (first + k)) e
    ∙ sym (get_or-map-range_with_len (element_at type (get_or contents number content)) 0 whole (first + k) (first + k) absent at (omega arith))
    ∙ ap (λ (x : Chunk). get_or x (first + k) absent) (sym (get_or-map (elements type whole) contents number content [] l))))

pub row_elements : (type : ElementType) (contents : List Held) (whole number count first each : ℕ) → number + count ≤ length contents → first + each ≤ whole
    → flat_map (run_elements type first each) (take (number + count - number) (drop number contents)) ≡ flat_map (λ k. flat_map (inner_element (chunks_of type whole contents) (number + k)) (range_with_len first each)) (range_with_len 0 count)
row_elements type [] whole number count first each l fits =
    let none : count ≡ 0 = omega (arith, l) in
    let zero_number : number ≡ 0 = omega (arith, l) in
    rw (none, zero_number) refl
row_elements type (one ∷ rest) whole number count first each l fits =
    let contents : List Held = one ∷ rest in
    of_some (λ (x : Held). x) one (run_elements type first each) contents number count l
    ∙ same_along _ _ 0 0 count (λ k m.
    let there : number + (0 + k) < length contents = omega (arith, m, l) in
    run_found type contents whole (number + (0 + k)) first each (get_or (map (λ (x : Held). x) contents) (number + (0 + k)) one) there (same contents (number + (0 + k)) one there) fits)
  where
    same : (xs : List Held) (k : ℕ) (d : Held) → k < length xs → get_or (map (λ (x : Held). x) xs) k d ≡ get_or xs k (get_or (map (λ (x : Held). x) xs) k d)
    same [] k d l = absurd (omega arith)
    same (x ∷ xs) zero d l = refl
    same (x ∷ xs) (suc k) d l = same xs k d (omega (arith, l))

-- a part's inner chunks and their elements are there
pub part_fits : (chunks whole number count first each : ℕ) (shape sizes : List ℕ) → IsElementPart chunks whole number count first each shape sizes → (number + count ≤ chunks) × (first + each ≤ whole)
part_fits chunks whole number count first each shape sizes part =
    let blank : List ℕ = replicate whole 0 in
    let below : number + count ≤ chunks = omega (arith, part.below, length-replicate chunks blank) in
    let total : 0 < product sizes = product_positive sizes part.some in
    let counted = cut_count shape sizes part.divided in
    let some : 0 < count = no_zero count (product shape) (product sizes) (ap (λ n. n * product shape) part.len ∙ counted) total in
    let there : number < length (replicate chunks blank) = omega (arith, below, some, length-replicate chunks blank) in
    let inside : (first + each) * 1 ≤ length (get_or (replicate chunks blank) number blank) = part.inside number blank there in
    let is : length (get_or (replicate chunks blank) number blank) ≡ whole = ap (λ (xs : List ℕ). length xs) (get_or-replicate chunks number blank blank (omega (arith, below, some))) ∙ length-replicate whole 0 in
    (below, omega (arith, inside, is))
  where
    no_zero : (a b c : ℕ) → a * b ≡ c → 0 < c → 0 < a
    no_zero zero b c e l = absurd (let z : 0 * b ≡ 0 = omega arith in omega (arith, e, z, l))
    no_zero (suc a) b c e l = omega arith

-- what is appended of a row
pub row_is : (type : ElementType) (contents : List Held) (whole number count first each : ℕ) (shape sizes : List ℕ) → IsElementPart (length contents) whole number count first each shape sizes → pointwise nat_eq (drop 1 shape) (drop 1 sizes) ≡ true
    → flat_map (run_elements type first each) (take (number + count - number) (drop number contents)) ≡ part_elements (chunks_of type whole contents) number first shape sizes
row_is type contents whole number count first each shape sizes part same =
    let fits = part_fits (length contents) whole number count first each shape sizes part in
    row_elements type contents whole number count first each fits.0 fits.1
    ∙ ap₂ (λ n m. flat_map (λ k. flat_map (inner_element (chunks_of type whole contents) (number + k)) (range_with_len first n)) (range_with_len 0 m)) part.elements part.len
    ∙ sym (row_found (inner_element (chunks_of type whole contents)) number first shape sizes part.positive part.divided (same_text (drop 1 shape) (drop 1 sizes) (sym same)))

-- ---- parts

-- how many elements a part has
pub length_part : (inner_chunks : List Chunk) (number first : ℕ) (shape sizes : List ℕ) → length (part_elements inner_chunks number first shape sizes) ≡ product sizes
length_part inner_chunks number first shape sizes =
    ap (λ (xs : Chunk). length xs) (flat_map_single (λ place. get_or (get_or inner_chunks (number + inner_chunk_of shape sizes place) []) (first + place_inside shape sizes place) absent) (range_with_len 0 (product sizes)))
    ∙ length-map-range_with_len _ 0 (product sizes)

pub part_counted : (chunks whole number count first each : ℕ) (shape sizes : List ℕ) → IsElementPart chunks whole number count first each shape sizes → count * each ≡ product sizes
part_counted chunks whole number count first each shape sizes part = ap₂ (λ a b. a * b) part.len part.elements ∙ cut_count shape sizes part.divided

-- the parts along the first axis are as many as the chunk has sizes of the rest
pub rest_counted : (chunks whole number count first each : ℕ) (shape sizes : List ℕ) (index : ℕ) → IsElementPart chunks whole number count first each shape sizes → length shape ≡ length sizes → 0 < length shape → index < get_or sizes 0 0
    → count / (get_or sizes 0 0 / get_or shape 0 0) * (each / get_or shape 0 0) ≡ product (drop 1 sizes)
rest_counted chunks whole number count first each shape sizes index part e some l =
    let next = next_part 1 (replicate chunks (replicate whole 0)) number count first each shape sizes index part e some l in
    part_counted chunks whole _ _ _ _ (drop 1 shape) (drop 1 sizes) next

pub along_first : (sizes : List ℕ) → 0 < length sizes → get_or sizes 0 0 * product (drop 1 sizes) ≡ product sizes
along_first [] l = absurd (omega arith)
along_first (size ∷ sizes) l = refl

-- ---- bands

once : (part n : ℕ) → 0 < part → part / part * n ≡ n
once part n some =
    let at : 1 * part + 0 ≡ part = omega arith in
    let one : part / part ≡ 1 = ap (λ m. m / part) (sym at) ∙ div-mul-add 1 part 0 some in
    let is : 1 * n ≡ n = omega arith in
    ap (λ m. m * n) one ∙ is

pub band_divided : (shape sizes : List ℕ) → All is_positive shape → is_divided shape sizes ≡ true → is_divided shape (band_of shape sizes) ≡ true
band_divided [] [] p d = refl
band_divided [] (size ∷ sizes) p d = absurd cc
band_divided (part ∷ shape) [] p d = absurd cc
band_divided (zero ∷ shape) (size ∷ sizes) p d = absurd (let never : 0 < 0 = All-head is_positive zero shape p in omega (arith, never))
band_divided (suc zero ∷ shape) (size ∷ sizes) p d = band_divided shape sizes (All-tail is_positive 1 shape p) (both_true (nat_eq (size % 1) 0) (is_divided shape sizes) d).1
band_divided (suc (suc n) ∷ shape) (size ∷ sizes) p d =
    let part : ℕ = suc (suc n) in
    let some : 0 < part = omega arith in
    let at : 1 * part + 0 ≡ part = omega arith in
    let none : part % part ≡ 0 = ap (λ m. m % part) (sym at) ∙ mod-mul-add 1 part 0 some in
    and_from (nat_eq (part % part) 0) (is_divided shape sizes) (eq-eqb (part % part) 0 none) (both_true (nat_eq (size % part) 0) (is_divided shape sizes) d).1

pub band_positive : (shape sizes : List ℕ) → All is_positive shape → All is_positive sizes → All is_positive (band_of shape sizes)
band_positive [] sizes p q = All-nil is_positive
band_positive (part ∷ shape) [] p q = none_of part
  where
    none_of : (part : ℕ) → All is_positive (band_of (part ∷ shape) [])
    none_of zero = All-nil is_positive
    none_of (suc zero) = All-nil is_positive
    none_of (suc (suc n)) = All-nil is_positive
band_positive (zero ∷ shape) (size ∷ sizes) p q = absurd (let never : 0 < 0 = All-head is_positive zero shape p in omega (arith, never))
band_positive (suc zero ∷ shape) (size ∷ sizes) p q = All-cons is_positive 1 (band_of shape sizes) (omega arith) (band_positive shape sizes (All-tail is_positive 1 shape p) (All-tail is_positive size sizes q))
band_positive (suc (suc n) ∷ shape) (size ∷ sizes) p q = All-cons is_positive (suc (suc n)) sizes (omega arith) (All-tail is_positive size sizes q)

-- all inner chunks are in bands
pub bands_counted : (shape sizes : List ℕ) → All is_positive shape → is_divided shape sizes ≡ true → inner_chunk_count shape sizes ≡ band_count shape sizes * inner_chunk_count shape (band_of shape sizes)
bands_counted [] [] p d = refl
bands_counted [] (size ∷ sizes) p d = absurd cc
bands_counted (part ∷ shape) [] p d = absurd cc
bands_counted (zero ∷ shape) (size ∷ sizes) p d = absurd (let never : 0 < 0 = All-head is_positive zero shape p in omega (arith, never))
bands_counted (suc zero ∷ shape) (size ∷ sizes) p d =
    let below = bands_counted shape sizes (All-tail is_positive 1 shape p) (both_true (nat_eq (size % 1) 0) (is_divided shape sizes) d).1 in
    let per : ℕ = inner_chunk_count shape (band_of shape sizes) in
    ap₂ (λ a b. a * b) (by_one size) below ∙ grouped size (band_count shape sizes) per ∙ ap (λ n. size * band_count shape sizes * n) (sym (once 1 per (omega arith)))
  where
    by_one : (n : ℕ) → n / 1 ≡ n
    by_one n = let at : n * 1 + 0 ≡ n = omega arith in ap (λ m. m / 1) (sym at) ∙ div-mul-add n 1 0 (omega arith)

    grouped : (a b c : ℕ) → a * (b * c) ≡ a * b * c
    grouped a b c = omega arith
bands_counted (suc (suc n) ∷ shape) (size ∷ sizes) p d =
    let part : ℕ = suc (suc n) in
    ap (λ m. size / part * m) (sym (once part (inner_chunk_count shape sizes) (omega arith)))

-- what is found for all of a chunk is what is found for its bands
pub bands_found : {A : Type 0} (found : ℕ → ℕ → List A) (number first : ℕ) (shape sizes : List ℕ) → All is_positive shape → is_divided shape sizes ≡ true
    → flat_map (λ band. found_in_part found (number + band * inner_chunk_count shape (band_of shape sizes)) first shape (band_of shape sizes)) (range_with_len 0 (band_count shape sizes)) ≡ found_in_part found number first shape sizes
bands_found found number first [] [] p d =
    let here : number + 0 * 1 ≡ number = omega arith in
    ap (λ n. found_in_part found n first [] [] ++ []) here ∙ append-nil (found_in_part found number first [] [])
bands_found found number first [] (size ∷ sizes) p d = absurd cc
bands_found found number first (part ∷ shape) [] p d = absurd cc
bands_found found number first (zero ∷ shape) (size ∷ sizes) p d = absurd (let never : 0 < 0 = All-head is_positive zero shape p in omega (arith, never))
bands_found {A} found number first (suc zero ∷ shape) (size ∷ sizes) p d =
    let band : List ℕ = band_of shape sizes in
    let per : ℕ = inner_chunk_count shape band in
    let bands : ℕ = band_count shape sizes in
    let rest : All is_positive shape = All-tail is_positive 1 shape p in
    let divides : is_divided shape sizes ≡ true = (both_true (nat_eq (size % 1) 0) (is_divided shape sizes) d).1 in
    let f : ℕ → List A = λ b. found_in_part found (number + b * (1 / 1 * per)) first (1 ∷ shape) (1 ∷ band) in
    let one : (b : ℕ) → f b ≡ found_in_part found (number + b * per) first shape band = λ b.
    let q : 0 / 1 * per ≡ 0 = div_zero per in
    let r : 0 % 1 * product shape ≡ 0 = mod_zero (product shape) in
    let n : number + b * (1 / 1 * per) + 0 / 1 * per ≡ number + b * per = ap₂ (λ x y. number + b * x + y) (once 1 per (omega arith)) q ∙ nothing (number + b * per) in
    let m : first + 0 % 1 * product shape ≡ first = ap (λ y. first + y) r ∙ nothing first in
    axis_found found (number + b * (1 / 1 * per)) first 1 1 shape band
    ∙ append-nil (found_in_part found (number + b * (1 / 1 * per) + 0 / 1 * per) (first + 0 % 1 * product shape) shape band)
    ∙ ap₂ (λ x y. found_in_part found x y shape band) n m in
    rows_from_first f (λ index. found_in_part found (number + index / 1 * inner_chunk_count shape sizes) (first + index % 1 * product shape) shape sizes) bands size (size * bands) refl (λ index l.
    same_along f (λ b. found_in_part found (number + index / 1 * inner_chunk_count shape sizes + b * per) (first + index % 1 * product shape) shape band) (index * bands) 0 bands (λ b m.
    let at : number + (index * bands + b) * per ≡ number + index / 1 * inner_chunk_count shape sizes + (0 + b) * per =
    spread number index bands b per ∙ ap₂ (λ x y. number + x * y + (0 + b) * per) (sym (by_one index)) (sym (bands_counted shape sizes rest divides)) in
    let no : first ≡ first + index % 1 * product shape = sym (ap (λ y. first + y * product shape) (rest_one index) ∙ (let z : first + 0 * product shape ≡ first = omega arith in z)) in
    one (index * bands + b) ∙ ap₂ (λ x y. found_in_part found x y shape band) at no)
    ∙ bands_found found (number + index / 1 * inner_chunk_count shape sizes) (first + index % 1 * product shape) shape sizes rest divides)
    ∙ sym (axis_found found number first 1 size shape sizes)
  where
    nothing : (n : ℕ) → n + 0 ≡ n
    nothing n = omega arith

    by_one : (n : ℕ) → n / 1 ≡ n
    by_one n = let at : n * 1 + 0 ≡ n = omega arith in ap (λ m. m / 1) (sym at) ∙ div-mul-add n 1 0 (omega arith)

    rest_one : (n : ℕ) → n % 1 ≡ 0
    rest_one n = let at : n * 1 + 0 ≡ n = omega arith in ap (λ m. m % 1) (sym at) ∙ mod-mul-add n 1 0 (omega arith)

    div_zero : (n : ℕ) → 0 / 1 * n ≡ 0
    div_zero n = ap (λ m. m * n) (by_one 0) ∙ (let z : 0 * n ≡ 0 = omega arith in z)

    mod_zero : (n : ℕ) → 0 % 1 * n ≡ 0
    mod_zero n = ap (λ m. m * n) (rest_one 0) ∙ (let z : 0 * n ≡ 0 = omega arith in z)

    spread : (a b c d e : ℕ) → a + (b * c + d) * e ≡ a + b * (c * e) + (0 + d) * e
    spread a b c d e = omega arith
bands_found {A} found number first (suc (suc n) ∷ shape) (size ∷ sizes) p d =
    let part : ℕ = suc (suc n) in
    let some : 0 < part = omega arith in
    let count : ℕ = inner_chunk_count shape sizes in
    let f : ℕ → List A = λ index. found_in_part found (number + index / part * count) (first + index % part * product shape) shape sizes in
    let divides : size ≡ size / part * part = first_divides part size shape sizes d in
    sym (
    axis_found found number first part size shape sizes
    ∙ rows_from_first f (λ band. found_in_part found (number + band * (part / part * count)) first (part ∷ shape) (part ∷ sizes)) part (size / part) size divides (λ band l.
    same_along f (λ index. found_in_part found (number + band * (part / part * count) + index / part * count) (first + index % part * product shape) shape sizes) (band * part) 0 part (λ index m.
    let here : 0 + index ≡ index = omega arith in
    let q : number + (band * part + index) / part * count ≡ number + band * (part / part * count) + (0 + index) / part * count =
    ap (λ x. number + x * count) (div-mul-add band part index m) ∙ ap (λ x. number + band * x) (sym (once part count some)) ∙ behind (number + band * (part / part * count)) ((0 + index) / part * count) (ap (λ x. x / part * count) here ∙ ap (λ x. x * count) (div-eq_of_lt m) ∙ (let z : 0 * count ≡ 0 = omega arith in z)) in
    let r : first + (band * part + index) % part * product shape ≡ first + (0 + index) % part * product shape =
    ap (λ x. first + x * product shape) (mod-mul-add band part index m ∙ sym (ap (λ x. x % part) here ∙ mod-eq_of_lt m)) in
    ap₂ (λ x y. found_in_part found x y shape sizes) q r)
    ∙ sym (axis_found found (number + band * (part / part * count)) first part part shape sizes)))
  where
    behind : (a b : ℕ) → b ≡ 0 → a ≡ a + b
    behind a b e = omega (arith, e)

-- ---- one container more

-- one container more
pub chunks_on : (type : ElementType) (count : ℕ) (contents more : List Held) (content : Held) → more ≡ contents ++ content ∷ [] → chunks_of type count more ≡ chunks_of type count contents ++ elements type count content ∷ []
chunks_on type count contents more content e = ap (chunks_of type count) e ∙ map-append (elements type count) contents (content ∷ [])

-- ---- what bands are like

pub record BandFacts (shape sizes band : List ℕ) : Type 0 where
  pub divided : is_divided shape band ≡ true
  pub some : 0 < inner_chunk_count shape band
  pub all : inner_chunk_count shape sizes ≡ band_count shape sizes * inner_chunk_count shape band
  pub size : product band ≡ inner_chunk_count shape band * product shape
  pub fewer : product band ≤ product sizes

pub band_facts : (shape sizes band : List ℕ) → IsBandForm shape sizes band → All is_positive shape → All is_positive sizes → BandFacts shape sizes band
band_facts shape sizes band form p q =
    let per : ℕ = inner_chunk_count shape band in
    let bands : ℕ = band_count shape sizes in
    let divided : is_divided shape band ≡ true = ap (is_divided shape) form.band_is ∙ band_divided shape sizes p form.divided in
    let all : inner_chunk_count shape sizes ≡ bands * per = bands_counted shape sizes p form.divided ∙ ap (λ (ns : List ℕ). bands * inner_chunk_count shape ns) (sym form.band_is) in
    let whole : inner_chunk_count shape sizes * product shape ≡ product sizes = cut_count shape sizes form.divided in
    let total : 0 < product sizes = product_positive sizes q in
    let many : 0 < bands * per = left_some (bands * per) (product shape) (product sizes) (ap (λ n. n * product shape) (sym all) ∙ whole) total in
    let size : product band ≡ per * product shape = sym (cut_count shape band divided) in
    let apart : bands * (per * product shape) ≡ product sizes = grouped bands per (product shape) ∙ ap (λ n. n * product shape) (sym all) ∙ whole in
    record {
      divided = divided;
      some = right_some bands per many;
      all = all;
      size = size;
      fewer = omega (arith, size, at_least bands (per * product shape) (left_some bands per (bands * per) refl many), apart);
    }
  where
    left_some : (a b c : ℕ) → a * b ≡ c → 0 < c → 0 < a
    left_some zero b c e l = let z : 0 * b ≡ 0 = omega arith in absurd (omega (arith, e, z, l))
    left_some (suc a) b c e l = omega arith

    right_some : (a b : ℕ) → 0 < a * b → 0 < b
    right_some a zero l = let z : a * 0 ≡ 0 = omega arith in absurd (omega (arith, z, l))
    right_some a (suc b) l = omega arith

    at_least : (a b : ℕ) → 0 < a → b ≤ a * b
    at_least zero b l = absurd (omega (arith, l))
    at_least (suc a) b l = let e : suc a * b ≡ b + a * b = omega arith in omega (arith, e)

    grouped : (a b c : ℕ) → a * (b * c) ≡ a * b * c
    grouped a b c = omega arith

-- the elements as they are
pub same_kept : (type : ElementType) (done : ℕ) (held : Held) → validity type done held ≡ Ok tt → AnswersBy {E = CodecError} memory (Holds type) (Ok held) (Ok (elements type done held ++ []))
same_kept type done held v =
    let whole : elements type done held ++ [] ≡ elements type done held = append-nil (elements type done held) in
    let long : length (elements type done held ++ []) ≡ done = ap (λ (xs : Chunk). length xs) whole ∙ length-elements type done held in
    record {
      valid = ap (λ n. validity type n held) long ∙ v;
      elements_are = ap (λ n. elements type n held) long ∙ sym whole;
    }

-- more behind the same elements in another container
pub behind_same : (type : ElementType) (done : ℕ) (held now : Held) (more : Chunk) (result : Result Held CodecError) → AnswersBy {E = CodecError} memory (Holds type) (Ok now) (Ok (elements type done held ++ [])) → GivesBy (Holds type) result (Ok (elements type done now ++ more)) → GivesBy (Holds type) result (Ok (elements type done held ++ more))
behind_same type done held now more result h given =
    let whole : elements type done held ++ [] ≡ elements type done held = append-nil (elements type done held) in
    let long : length (elements type done held ++ []) ≡ done = ap (λ (xs : Chunk). length xs) whole ∙ length-elements type done held in
    let same : elements type done now ≡ elements type done held = ap (λ n. elements type n now) (sym long) ∙ h.elements_are ∙ whole in
    subst (λ (xs : Chunk). GivesBy (Holds type) result (ok (xs ++ more))) same given

pub valid_same : (type : ElementType) (done : ℕ) (held now : Held) → AnswersBy {E = CodecError} memory (Holds type) (Ok now) (Ok (elements type done held ++ [])) → validity type done now ≡ Ok tt
valid_same type done held now h =
    let long : length (elements type done held ++ []) ≡ done = ap (λ (xs : Chunk). length xs) (append-nil (elements type done held)) ∙ length-elements type done held in
    ap (λ n. validity type n now) (sym long) ∙ h.valid

-- ---- band by band

-- 64 bits count the elements so far, and those of a band
pub band_counted : (shape sizes band : List ℕ) (number done : ℕ) → IsBandForm shape sizes band → BandFacts shape sizes band → number < band_count shape sizes → done ≡ number * (inner_chunk_count shape band * product shape) → done + product band < 2 ^ 64
band_counted shape sizes band number done form facts l e =
    let per : ℕ = inner_chunk_count shape band in
    let bands : ℕ = band_count shape sizes in
    let fits : number * (per * product shape) + per * product shape ≤ bands * (per * product shape) = row_fits number (per * product shape) bands (per * product shape) l (omega arith) in
    let grouped : bands * (per * product shape) ≡ bands * per * product shape = omega arith in
    let whole : bands * (per * product shape) ≡ product sizes = grouped ∙ ap (λ n. n * product shape) (sym facts.all) ∙ cut_count shape sizes form.divided in
    omega (arith, fits, whole, e, facts.size, form.small)

-- more behind the elements is more behind them, by another name of the band
pub joinable_more : (type : ElementType) (done whole : ℕ) (held : Held) (contents items : List Held) → validity type done held ≡ Ok tt → IsTight type held → contents ≡ items → All (λ content. validity type whole content ≡ Ok tt) items → All (IsTight type) items → AreJoinable type done whole held contents
joinable_more type done whole held contents items v t e valid tight = record {
  valid = v;
  tight = t;
  contents_valid = subst (All (λ content. validity type whole content ≡ Ok tt)) (sym e) valid;
  contents_tight = subst (All (IsTight type)) (sym e) tight;
}
