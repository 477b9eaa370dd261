-- A value is written element by element.
use Rattle.std.proofs.Common.{◌≡◌, ℕ, ◌+◌, ◌-◌, ◌<◌, Bool, true, false, List, [], ◌∷◌, ◌++◌, length, map, take, get_or, Ok, Err, arith, refl, ap, sym, ◌∙◌}
use Rattle.std.specs.List.{flat_map, list_all, range_with_len}
use Rattle.std.proofs.lemmas.Bool.{and_from, and_left, and_right}
use Rattle.std.proofs.lemmas.List.{take_more, take_all, append-nil, append_assoc}
use Rattle.std.proofs.lemmas.List.Concat.{flat_map-append}
use Rattle.std.proofs.lemmas.List.Folds.{list_all_more, list_all_at}
use Rattle.std.proofs.lemmas.List.FromFn.{length-map-range_with_len, get_or-map-range_with_len}
use Rattle.zarrs_chunk.specs.Answer.{◌>>=◌, demand}
use Rattle.zarrs_chunk.specs.declared.codec_error.CodecError.{CodecError}
use Rattle.zarrs_chunk.specs.declared.codec_error.CodecError.TheVariants.{OffsetTooLarge}
use Rattle.zarrs_data_type.specs.Element.{plain, absent, Chunk}
use Rattle.zarrs_array_bytes.specs.Elements.{cut}
use Rattle.zarrs_bytes.proofs.Coding.{ok}
use Rattle.zarrs_vlen_v2.specs.PrefixedValues.{number_fits}
use Rattle.zarrs_vlen_v2.specs.VlenV2Codec.{u32_bytes, fits_u32, prefixed, prefixed_element, is_short, lengths_fit, vlen_v2_layout, prefixed_value}

-- the elements between the offsets
abbrev pub cut_elements : List ℕ → List ℕ → Chunk
cut_elements offsets items = map (λ place. plain (cut offsets items place)) (range_with_len 0 (length offsets - 1))

pub count_cut : (offsets items : List ℕ) → length (cut_elements offsets items) ≡ length offsets - 1
count_cut offsets items = length-map-range_with_len (λ place. plain (cut offsets items place)) 0 (length offsets - 1)

element_there : (offsets items : List ℕ) (index : ℕ) → index < length offsets - 1 → get_or (cut_elements offsets items) index absent ≡ plain (cut offsets items index)
element_there offsets items index l = get_or-map-range_with_len (λ place. plain (cut offsets items place)) 0 (length offsets - 1) index index absent l (omega arith)

inside : (offsets items : List ℕ) (index : ℕ) → index < length offsets - 1 → index < length (cut_elements offsets items)
inside offsets items index l = omega (arith, l, count_cut offsets items)

-- one element more
pub written_more : (offsets items : List ℕ) (index : ℕ) (head before after element : List ℕ) → index < length offsets - 1 → before ≡ head ++ flat_map prefixed_element (take index (cut_elements offsets items)) → element ≡ cut offsets items index → after ≡ before ++ prefixed element
    → after ≡ head ++ flat_map prefixed_element (take (index + 1) (cut_elements offsets items))
written_more offsets items index head before after element l e is more =
    let chunk = cut_elements offsets items in
    let there : prefixed_element (get_or chunk index absent) ≡ prefixed element = ap prefixed_element (element_there offsets items index l) ∙ ap prefixed (sym is) in
    let rest : flat_map prefixed_element (take (index + 1) chunk) ≡ flat_map prefixed_element (take index chunk) ++ prefixed element =
    ap (flat_map prefixed_element) (take_more chunk index absent (inside offsets items index l))
    ∙ flat_map-append prefixed_element (take index chunk) (get_or chunk index absent ∷ [])
    ∙ ap (λ (xs : List ℕ). flat_map prefixed_element (take index chunk) ++ xs) (append-nil (prefixed_element (get_or chunk index absent)) ∙ there) in
    more
    ∙ ap (λ (xs : List ℕ). xs ++ prefixed element) e
    ∙ append_assoc head (flat_map prefixed_element (take index chunk)) (prefixed element)
    ∙ ap (λ (xs : List ℕ). head ++ xs) (sym rest)

pub short_more : (offsets items : List ℕ) (index : ℕ) (element : List ℕ) → index < length offsets - 1 → list_all is_short (take index (cut_elements offsets items)) ≡ true → element ≡ cut offsets items index → fits_u32 (length element) ≡ true
    → list_all is_short (take (index + 1) (cut_elements offsets items)) ≡ true
short_more offsets items index element l e is fits =
    let chunk = cut_elements offsets items in
    list_all_more is_short chunk index absent (inside offsets items index l)
    ∙ and_from (list_all is_short (take index chunk)) (is_short (get_or chunk index absent)) e (ap is_short (element_there offsets items index l) ∙ ap (λ (xs : List ℕ). fits_u32 (length xs)) (sym is) ∙ fits)

-- all of them
pub written_all : (offsets items value : List ℕ) (index : ℕ) → index ≡ length offsets - 1 → fits_u32 (length offsets - 1) ≡ true → value ≡ u32_bytes (length offsets - 1) ++ flat_map prefixed_element (take index (cut_elements offsets items)) → list_all is_short (take index (cut_elements offsets items)) ≡ true
    → prefixed_value (cut_elements offsets items) ≡ Ok value
written_all offsets items value index at fits e short =
    let chunk = cut_elements offsets items in
    let all : take index chunk ≡ chunk = take_all index chunk (omega (arith, at, count_cut offsets items)) in
    let fit : lengths_fit chunk ≡ true = and_from (fits_u32 (length chunk)) (list_all is_short chunk) (ap fits_u32 (count_cut offsets items) ∙ fits) (sym (ap (list_all is_short) all) ∙ short) in
    rw fit (ap ok (ap (λ (n : ℕ). u32_bytes n ++ flat_map prefixed_element chunk) (count_cut offsets items) ∙ ap (λ (c : Chunk). u32_bytes (length offsets - 1) ++ flat_map prefixed_element c) (sym all) ∙ sym e))

-- ---- one that doesn't fit

test_refused : (test other : Bool) (e : CodecError) (x : List ℕ) → demand test OffsetTooLarge ≡ Err e → (test ≡ false → other ≡ false) → demand other OffsetTooLarge >>= (λ _. Ok x) ≡ Err e
test_refused true other e x h k = absurd cc
test_refused false other e x h k = let is : OffsetTooLarge ≡ e = cc in rw (k refl) (λ i. Err (is i))

pub count_refused : (offsets items : List ℕ) (e : CodecError) → number_fits (length offsets - 1) ≡ Err e → prefixed_value (cut_elements offsets items) ≡ Err e
count_refused offsets items e h =
    let chunk = cut_elements offsets items in
    test_refused (fits_u32 (length offsets - 1)) (lengths_fit chunk) e (vlen_v2_layout chunk) h
    (λ no. and_left (fits_u32 (length chunk)) (list_all is_short chunk) (ap fits_u32 (count_cut offsets items) ∙ no))

pub element_refused : (offsets items : List ℕ) (index : ℕ) (element : List ℕ) (e : CodecError) → index < length offsets - 1 → element ≡ cut offsets items index → number_fits (length element) ≡ Err e → prefixed_value (cut_elements offsets items) ≡ Err e
element_refused offsets items index element e l is h =
    let chunk = cut_elements offsets items in
    test_refused (fits_u32 (length element)) (lengths_fit chunk) e (vlen_v2_layout chunk) h
    (λ no. and_right (fits_u32 (length chunk)) (list_all is_short chunk) (list_all_at is_short chunk index absent (inside offsets items index l) (ap is_short (element_there offsets items index l) ∙ ap (λ (xs : List ℕ). fits_u32 (length xs)) (sym is) ∙ no)))
