-- Whether elements are all the fill element.
use Rattle.std.proofs.Common.{◌≡◌, ℕ, zero, suc, ◌+◌, ◌*◌, ◌-◌, ◌<◌, ◌≤◌, nat_eq, nat_lt, ◌&&◌, ◌||◌, Bool, true, false, List, [], ◌∷◌, ◌++◌, length, map, take, drop, Some, None, Result, Ok, arith, refl, ap, sym, subst, ◌∙◌, if◌then◌else◌}
use Rattle.std.specs.Cmp.Lexicographic.{pointwise, same_text}
use Rattle.std.specs.List.{list_all, range_with_len}
use Rattle.std.proofs.lemmas.List.{take-append-drop, length-drop, length-take, nil_from_length}
use Rattle.std.proofs.lemmas.Bool.{eq-eqb, eqb-true}
use Rattle.std.proofs.lemmas.List.Folds.{list_all-append, list_all-map, list_all_at}
use Rattle.std.proofs.lemmas.List.FromFn.{get_or-map-range_with_len, length-map-range_with_len, map-range_with_len_more}
use Rattle.zarrs_chunk.specs.Answer.{seen}
use Rattle.zarrs_chunk.specs.declared.codec_error.CodecError.{CodecError}
use Rattle.zarrs_chunk.specs.declared.codec_error.CodecError.TheVariants.{InvalidBytesLength, ArrayBytesKind}
use Rattle.zarrs_data_type.specs.Element.{Element, plain, absent, present, Chunk, fill_element}
use Rattle.zarrs_data_type.specs.ElementType.{ElementType, fixed, text, bytes, optional, element_size, fixed_size_of, is_variable, inner_of}
use Rattle.zarrs_data_type.specs.FillValue.{fill_fits, is_null, front_of, ends_in_one}
use Rattle.zarrs_array_bytes.specs.Elements.{cut, element_at, elements, under_flag}
use Rattle.zarrs_array_bytes.specs.Held.{Held, Raw, flen, vlen, masked}
use Rattle.zarrs_array_bytes.specs.Parts.{fixed_items, optional_part, variable_part}
use Rattle.zarrs_array_bytes.specs.Pieces.{pieces}
use Rattle.zarrs_array_bytes.specs.Update.{cuts}
use Rattle.zarrs_array_bytes.specs.Validity.{Holds, levels_fit, sizes_fit}
use Rattle.zarrs_array_bytes.proofs.Pieces.{pieces-suc, elements-pieces}
use Rattle.zarrs_array_bytes.proofs.UpdatedLemmas.{flags, elements-flags, elements-cuts, length-elements}
use Rattle.zarrs_array_bytes.proofs.ValidLemmas.{both_ok, then_ok, fixed_fits, inner_fits, masked_fits, variable_fits}
use Rattle.zarrs_array_to_array.proofs.AnswerSteps.{some_is}
use Rattle.zarrs_array_to_array.proofs.MappedChunks.{holds_elements}
use Rattle.zarrs_bytes.proofs.Coding.{ok}
use Rattle.zarrs_chunk.proofs.Inside.{from_lt_test}
use Rattle.zarrs_codec.proofs.Fences.{first_true, second_true}
use Rattle.zarrs_chain_meaning.specs.sharding.Sharding.{is_same_element, is_left_out}
use Rattle.zarrs_chain_meaning.proofs.ArraySteps.{ok_is, ok_no_err}
use Rattle.zarrs_shard_bytes.proofs.SameBytes.{joined_same}

-- ---- the parts of containers

-- the parts that are lent, of whose bytes it doesn't matter who owns them
abbrev pub variable_items : Held → Result (List ℕ × List ℕ) CodecError
variable_items held = seen (λ parts. (parts.0.items, parts.1)) (variable_part held)

abbrev pub optional_items : Held → Result (Held × List ℕ) CodecError
optional_items held = seen (λ parts. (parts.0, parts.1.items)) (optional_part held)

-- each part is the item
abbrev pub is_item : List ℕ → List ℕ → Bool
is_item item part = pointwise nat_eq part item

-- ---- bytes that repeat an item

by_first : (first : Bool) (a b : Bool) → (first ≡ true → a ≡ b) → first && a ≡ first && b
by_first true a b h = h refl
by_first false a b h = refl

-- items behind the item are the item where they are as those one item before them
behind_same : (size count : ℕ) (item items : List ℕ) → length item ≡ size → length items ≡ count * size
    → pointwise nat_eq items (take (count * size) (item ++ items)) ≡ list_all (is_item item) (pieces size count items)
behind_same size zero item items l e = let none : items ≡ [] = nil_from_length items (omega (arith, e)) in let z : zero * size ≡ 0 = omega arith in λ i. pointwise nat_eq (none i) (take (z i) (item ++ none i))
behind_same size (suc count) item items l e =
    let all : suc count * size ≡ size + count * size = omega arith in
    let head = take size items in
    let rest = drop size items in
    let long : length head ≡ size = omega (arith, length-take size items, e, all) in
    let left : length rest ≡ count * size = omega (arith, length-drop size items, e, all) in
    let is : items ≡ head ++ rest = sym (take-append-drop size items) in
    let behind : take (suc count * size) (item ++ items) ≡ item ++ take (count * size) items = ap (λ n. take n (item ++ items)) (all ∙ ap (λ n. n + count * size) (sym l)) ∙ take_more item items (count * size) in
    let cut : pointwise nat_eq items (take (suc count * size) (item ++ items)) ≡ pointwise nat_eq head item && pointwise nat_eq rest (take (count * size) (head ++ rest)) =
    (λ i. pointwise nat_eq (is i) (behind i))
    ∙ joined_same head rest item (take (count * size) items) (long ∙ sym l)
    ∙ ap (λ (xs : List ℕ). pointwise nat_eq head item && pointwise nat_eq rest (take (count * size) xs)) is in
    cut
    ∙ by_first (pointwise nat_eq head item) (pointwise nat_eq rest (take (count * size) (head ++ rest))) (list_all (is_item item) (pieces size count rest))
    (λ h. ap (λ (xs : List ℕ). pointwise nat_eq rest (take (count * size) (xs ++ rest))) (same_text head item (sym h)) ∙ behind_same size count item rest l left)
    ∙ ap (list_all (is_item item)) (sym (pieces-suc size count items))
  where
    take_more : (xs ys : List ℕ) (n : ℕ) → take (length xs + n) (xs ++ ys) ≡ xs ++ take n ys
    take_more [] ys n = let z : length {A = ℕ} [] + n ≡ n = omega arith in ap (λ k. take k ys) z
    take_more (x ∷ xs) ys n = let z : length (x ∷ xs) + n ≡ suc (length xs + n) = omega arith in ap (λ k. take k (x ∷ (xs ++ ys))) z ∙ (λ i. x ∷ take_more xs ys n i)

pub repeated : (size count : ℕ) (item items : List ℕ) → length item ≡ size → length items ≡ count * size → size ≤ length items → 0 < size
    → pointwise nat_eq (take size items) item && pointwise nat_eq (drop size items) (take (length items - size) items) ≡ list_all (is_item item) (pieces size count items)
repeated size zero item items l e w p = absurd (omega (arith, e, w, p))
repeated size (suc count) item items l e w p =
    let all : suc count * size ≡ size + count * size = omega arith in
    let head = take size items in
    let rest = drop size items in
    let left : length rest ≡ count * size = omega (arith, length-drop size items, e, all) in
    let is : items ≡ head ++ rest = sym (take-append-drop size items) in
    let shorter : length items - size ≡ count * size = omega (arith, e, all) in
    by_first (pointwise nat_eq head item) (pointwise nat_eq rest (take (length items - size) items)) (list_all (is_item item) (pieces size count rest))
    (λ h. (λ i. pointwise nat_eq rest (take (shorter i) (is i))) ∙ ap (λ (xs : List ℕ). pointwise nat_eq rest (take (count * size) (xs ++ rest))) (same_text head item (sym h)) ∙ behind_same size count item rest l left)
    ∙ ap (list_all (is_item item)) (sym (pieces-suc size count items))

-- ---- elements

pub fixed_tested : (width components : ℕ) (sign : Bool) (fill : List ℕ) (raw : Raw) (chunk : Chunk) → Holds (fixed width components sign) (flen raw) chunk
    → is_left_out (λ _ element. element) (fixed width components sign) fill chunk ≡ list_all (is_item fill) (pieces (element_size width components) (length chunk) raw.items)
fixed_tested width components sign fill raw chunk h =
    let type = fixed width components sign in
    let size = element_size width components in
    let is : chunk ≡ map plain (pieces size (length chunk) raw.items) = sym h.elements_are ∙ elements-pieces width components sign (length chunk) raw in
    ap (list_all (λ element. is_same_element element (plain fill))) is
    ∙ list_all-map (λ element. is_same_element element (plain fill)) plain (pieces size (length chunk) raw.items)

pub text_tested : (fill : List ℕ) (raw : Raw) (offsets : List ℕ) (chunk : Chunk) → Holds text (vlen raw offsets) chunk
    → is_left_out (λ _ element. element) text fill chunk ≡ list_all (is_item fill) (cuts (length offsets - 1) offsets raw.items)
text_tested fill raw offsets chunk h =
    let long : length offsets ≡ length chunk + 1 = variable_fits InvalidBytesLength text (length chunk) raw offsets (both_ok _ _ h.valid).1 in
    let count : length chunk ≡ length offsets - 1 = omega (arith, long) in
    let is : chunk ≡ map plain (cuts (length offsets - 1) offsets raw.items) = sym h.elements_are ∙ elements-cuts (length chunk) raw offsets ∙ ap (λ n. map plain (cuts n offsets raw.items)) count in
    ap (list_all (λ element. is_same_element element (plain fill))) is
    ∙ list_all-map (λ element. is_same_element element (plain fill)) plain (cuts (length offsets - 1) offsets raw.items)

pub bytes_tested : (fill : List ℕ) (raw : Raw) (offsets : List ℕ) (chunk : Chunk) → Holds bytes (vlen raw offsets) chunk
    → is_left_out (λ _ element. element) bytes fill chunk ≡ list_all (is_item fill) (cuts (length offsets - 1) offsets raw.items)
bytes_tested fill raw offsets chunk h = text_tested fill raw offsets chunk (record { valid = h.valid; elements_are = same (range_with_len 0 (length chunk)) ∙ h.elements_are })
  where
    same : (places : List ℕ) → map (element_at text (vlen raw offsets)) places ≡ map (element_at bytes (vlen raw offsets)) places
    same [] = refl
    same (place ∷ places) = λ i. element_at text (vlen raw offsets) place ∷ same places i

pub variable_tested : (type : ElementType) (fill : List ℕ) (raw : Raw) (offsets : List ℕ) (chunk : Chunk) → is_variable type ≡ true → Holds type (vlen raw offsets) chunk
    → is_left_out (λ _ element. element) type fill chunk ≡ list_all (is_item fill) (cuts (length offsets - 1) offsets raw.items)
variable_tested (fixed width components sign) fill raw offsets chunk v h = absurd cc
variable_tested text fill raw offsets chunk v h = text_tested fill raw offsets chunk h
variable_tested bytes fill raw offsets chunk v h = bytes_tested fill raw offsets chunk h
variable_tested (optional type) fill raw offsets chunk v h = absurd cc

-- ---- elements under a mask

false_not_true : false ≡ true → ⊥
false_not_true h = cc

zero_or_one : (n : ℕ) → n < 2 → (n ≡ 1 → ⊥) → n ≡ 0
zero_or_one zero l h = refl
zero_or_one (suc zero) l h = absurd (h refl)
zero_or_one (suc (suc n)) l h = absurd (omega (arith, l))

flag_present : (byte : ℕ) (element : Element) → (byte ≡ 0 → ⊥) → under_flag byte element ≡ present element
flag_present zero element h = absurd (h refl)
flag_present (suc byte) element h = refl

absent_tested : (mask : List ℕ) (chunk : Chunk) → length mask ≡ length chunk → list_all (λ element. is_same_element element absent) (flags mask chunk) ≡ list_all (λ byte. nat_eq byte 0) mask
absent_tested [] [] l = refl
absent_tested [] (element ∷ chunk) l = absurd (omega (arith, l))
absent_tested (byte ∷ mask) [] l = absurd (omega (arith, l))
absent_tested (byte ∷ mask) (element ∷ chunk) l = by (absent_tested mask chunk (omega (arith, l))) (nat_eq byte 0) refl
  where
    by : list_all (λ element. is_same_element element absent) (flags mask chunk) ≡ list_all (λ byte. nat_eq byte 0) mask → (test : Bool) → nat_eq byte 0 ≡ test
        → is_same_element (under_flag byte element) absent && list_all (λ element. is_same_element element absent) (flags mask chunk) ≡ nat_eq byte 0 && list_all (λ byte. nat_eq byte 0) mask
    by rest true e =
        let is : byte ≡ 0 = eqb-true byte 0 e in
        (λ i. is_same_element (under_flag (is i) element) absent && list_all (λ element. is_same_element element absent) (flags mask chunk))
        ∙ rest
        ∙ (λ i. sym e i && list_all (λ byte. nat_eq byte 0) mask)
    by rest false e =
        let other : under_flag byte element ≡ present element = flag_present byte element (λ is. false_not_true (sym e ∙ eq-eqb byte 0 is)) in
        (λ i. is_same_element (other i) absent && list_all (λ element. is_same_element element absent) (flags mask chunk))
        ∙ (λ i. sym e i && list_all (λ byte. nat_eq byte 0) mask)

present_tested : (fill : Element) (mask : List ℕ) (chunk : Chunk) → length mask ≡ length chunk → list_all (λ byte. nat_eq byte 1) mask ≡ true
    → list_all (λ element. is_same_element element (present fill)) (flags mask chunk) ≡ list_all (λ element. is_same_element element fill) chunk
present_tested fill [] [] l e = refl
present_tested fill [] (element ∷ chunk) l e = absurd (omega (arith, l))
present_tested fill (byte ∷ mask) [] l e = absurd (omega (arith, l))
present_tested fill (byte ∷ mask) (element ∷ chunk) l e =
    let one : byte ≡ 1 = eqb-true byte 1 (first_true (nat_eq byte 1) (list_all (λ byte. nat_eq byte 1) mask) e) in
    (λ i. is_same_element (under_flag (one i) element) (present fill) && list_all (λ element. is_same_element element (present fill)) (flags mask chunk))
    ∙ ap (λ b. is_same_element element fill && b) (present_tested fill mask chunk (omega (arith, l)) (second_true (nat_eq byte 1) (list_all (λ byte. nat_eq byte 1) mask) e))

and_false : (b : Bool) → b && false ≡ false
and_false true = refl
and_false false = refl

not_all_present : (fill : Element) (mask : List ℕ) (chunk : Chunk) → length mask ≡ length chunk → list_all (λ byte. nat_lt byte 2) mask ≡ true → list_all (λ byte. nat_eq byte 1) mask ≡ false
    → list_all (λ element. is_same_element element (present fill)) (flags mask chunk) ≡ false
not_all_present fill [] [] l f e = absurd cc
not_all_present fill [] (element ∷ chunk) l f e = absurd (omega (arith, l))
not_all_present fill (byte ∷ mask) [] l f e = absurd (omega (arith, l))
not_all_present fill (byte ∷ mask) (element ∷ chunk) l f e =
    by (λ left. not_all_present fill mask chunk (omega (arith, l)) (second_true (nat_lt byte 2) (list_all (λ byte. nat_lt byte 2) mask) f) left) (nat_eq byte 1) refl
  where
    small : byte < 2
    small = from_lt_test byte 2 (first_true (nat_lt byte 2) (list_all (λ byte. nat_lt byte 2) mask) f)

    by : (list_all (λ byte. nat_eq byte 1) mask ≡ false → list_all (λ element. is_same_element element (present fill)) (flags mask chunk) ≡ false) → (test : Bool) → nat_eq byte 1 ≡ test
        → is_same_element (under_flag byte element) (present fill) && list_all (λ element. is_same_element element (present fill)) (flags mask chunk) ≡ false
    by rest true is =
        ap (λ b. is_same_element (under_flag byte element) (present fill) && b) (rest (ap (λ b. b && list_all (λ byte. nat_eq byte 1) mask) (sym is) ∙ e))
        ∙ and_false (is_same_element (under_flag byte element) (present fill))
    by rest false is =
        let none : byte ≡ 0 = zero_or_one byte small (λ h. false_not_true (sym is ∙ eq-eqb byte 1 h)) in
        λ i. is_same_element (under_flag (none i) element) (present fill) && list_all (λ element. is_same_element element (present fill)) (flags mask chunk)

rows_are : (type : ElementType) (inside : Held) (raw : Raw) (chunk : Chunk) → Holds (optional type) (masked inside raw) chunk → (length raw.items ≡ length chunk) × (chunk ≡ flags raw.items (elements type (length chunk) inside))
rows_are type inside raw chunk h =
    let long : length raw.items ≡ length chunk = masked_fits InvalidBytesLength (optional type) (length chunk) inside raw (both_ok _ _ h.valid).1 in
    (long, sym h.elements_are ∙ elements-flags type (length chunk) inside raw long)

-- what stands under the mask
pub inside_holds : (type : ElementType) (inside : Held) (raw : Raw) (chunk : Chunk) → Holds (optional type) (masked inside raw) chunk → Holds type inside (elements type (length chunk) inside)
inside_holds type inside raw chunk h =
    let count = length chunk in
    let parts = both_ok (sizes_fit type count) (levels_fit InvalidBytesLength (optional type) count (masked inside raw)) h.valid in
    holds_elements type count inside (then_ok (sizes_fit type count) (levels_fit InvalidBytesLength type count inside) parts.0 (inner_fits InvalidBytesLength (optional type) type count inside raw parts.1 refl))

-- ---- as the code opens them

pub optional_so : (type inner : ElementType) → inner_of type ≡ Some inner → type ≡ optional inner
optional_so (fixed width components sign) inner e = absurd cc
optional_so text inner e = absurd cc
optional_so bytes inner e = absurd cc
optional_so (optional type) inner e = ap optional (some_is type inner e)

-- a container under a mask
pub record IsMasked (held inside : Held) (mask : List ℕ) : Type 0 where
  pub raw : Raw
  pub held_is : held ≡ masked inside raw
  pub mask_is : mask ≡ raw.items

pub masked_so : (held inside : Held) (mask : List ℕ) → ok (inside, mask) ≡ optional_items held → IsMasked held inside mask
masked_so (flen raw) inside mask e = absurd cc
masked_so (vlen raw offsets) inside mask e = absurd cc
masked_so (masked other raw) inside mask e =
    let p : (inside, mask) ≡ (other, raw.items) = ok_is (inside, mask) (other, raw.items) e in
    record { raw = raw; held_is = λ i. masked ((sym p i).0) raw; mask_is = λ i. (p i).1 }

-- what the code knows of a container of optional elements
pub record IsOptionalHeld (type inner : ElementType) (held inside : Held) (mask : List ℕ) (chunk : Chunk) : Type 0 where
  pub type_is : inner_of type ≡ Some inner
  pub parts : ok (inside, mask) ≡ optional_items held
  pub flags_are : list_all (λ byte. nat_lt byte 2) mask ≡ true
  pub holds : Holds type held chunk

opened : (fill : List ℕ) (inner : ElementType) (chunk : Chunk) (null : Bool) → is_null fill ≡ null
    → is_left_out (λ _ element. element) (optional inner) fill chunk ≡ list_all (λ element. is_same_element element (if null then absent else present (fill_element inner (front_of fill)))) chunk
opened fill inner chunk null e = ap (λ b. list_all (λ element. is_same_element element (if b then absent else present (fill_element inner (front_of fill)))) chunk) e

-- the mask is as long as the chunk, whose elements it marks
record IsMarked (inner : ElementType) (inside : Held) (mask : List ℕ) (chunk : Chunk) : Type 0 where
  pub long : length mask ≡ length (elements inner (length chunk) inside)
  pub chunk_is : chunk ≡ flags mask (elements inner (length chunk) inside)
  pub inside_holds : Holds inner inside (elements inner (length chunk) inside)

marked : (type inner : ElementType) (held inside : Held) (mask : List ℕ) (chunk : Chunk) → IsOptionalHeld type inner held inside mask chunk → IsMarked inner inside mask chunk
marked type inner held inside mask chunk h =
    let m = masked_so held inside mask h.parts in
    let is : type ≡ optional inner = optional_so type inner h.type_is in
    let holds : Holds (optional inner) (masked inside m.raw) chunk = subst (λ (x : Held). Holds (optional inner) x chunk) m.held_is (subst (λ (t : ElementType). Holds t held chunk) is h.holds) in
    let rows = rows_are inner inside m.raw chunk holds in
    record {
      long = ap length m.mask_is ∙ rows.0 ∙ sym (length-elements inner (length chunk) inside);
      chunk_is = rows.1 ∙ (λ i. flags (sym m.mask_is i) (elements inner (length chunk) inside));
      inside_holds = inside_holds inner inside m.raw chunk holds;
    }

pub null_tested : (type inner : ElementType) (fill : List ℕ) (held inside : Held) (mask : List ℕ) (chunk : Chunk) (told : Bool) → IsOptionalHeld type inner held inside mask chunk → is_null fill ≡ true → told ≡ list_all (λ byte. nat_eq byte 0) mask
    → ok told ≡ ok (is_left_out (λ _ element. element) type fill chunk)
null_tested type inner fill held inside mask chunk told h n e =
    let k = marked type inner held inside mask chunk h in
    let is : type ≡ optional inner = optional_so type inner h.type_is in
    ap ok
    (e
    ∙ sym (absent_tested mask (elements inner (length chunk) inside) k.long)
    ∙ ap (list_all (λ element. is_same_element element absent)) (sym k.chunk_is)
    ∙ sym (opened fill inner chunk true n)
    ∙ ap (λ t. is_left_out (λ _ element. element) t fill chunk) (sym is))

pub front_tested : (type inner : ElementType) (fill : List ℕ) (held inside : Held) (mask : List ℕ) (chunk : Chunk) (told : Result Bool CodecError) → IsOptionalHeld type inner held inside mask chunk → is_null fill ≡ false → list_all (λ byte. nat_eq byte 1) mask ≡ true
    → ((c : Chunk) → Holds inner inside c → told ≡ Ok (is_left_out (λ _ element. element) inner (front_of fill) c)) → told ≡ Ok (is_left_out (λ _ element. element) type fill chunk)
front_tested type inner fill held inside mask chunk told h n e found =
    let k = marked type inner held inside mask chunk h in
    let is : type ≡ optional inner = optional_so type inner h.type_is in
    found (elements inner (length chunk) inside) k.inside_holds
    ∙ ap ok
    (sym (present_tested (fill_element inner (front_of fill)) mask (elements inner (length chunk) inside) k.long e)
    ∙ ap (list_all (λ element. is_same_element element (present (fill_element inner (front_of fill))))) (sym k.chunk_is)
    ∙ sym (opened fill inner chunk false n)
    ∙ ap (λ t. is_left_out (λ _ element. element) t fill chunk) (sym is))

pub front_other : (type inner : ElementType) (fill : List ℕ) (held inside : Held) (mask : List ℕ) (chunk : Chunk) → IsOptionalHeld type inner held inside mask chunk → is_null fill ≡ false → list_all (λ byte. nat_eq byte 1) mask ≡ false
    → ok false ≡ ok (is_left_out (λ _ element. element) type fill chunk)
front_other type inner fill held inside mask chunk h n e =
    let k = marked type inner held inside mask chunk h in
    let is : type ≡ optional inner = optional_so type inner h.type_is in
    ap ok
    (sym (not_all_present (fill_element inner (front_of fill)) mask (elements inner (length chunk) inside) k.long h.flags_are e)
    ∙ ap (list_all (λ element. is_same_element element (present (fill_element inner (front_of fill))))) (sym k.chunk_is)
    ∙ sym (opened fill inner chunk false n)
    ∙ ap (λ t. is_left_out (λ _ element. element) t fill chunk) (sym is))

-- the front fits the type inside
pub front_fits : (type inner : ElementType) (fill : List ℕ) → inner_of type ≡ Some inner → fill_fits type fill ≡ true → is_null fill ≡ false → fill_fits inner (front_of fill) ≡ true
front_fits type inner fill e fits n =
    let is : type ≡ optional inner = optional_so type inner e in
    let due : (is_null fill || (ends_in_one fill && fill_fits inner (front_of fill))) ≡ true = ap (λ t. fill_fits t fill) (sym is) ∙ fits in
    let both : (false || (ends_in_one fill && fill_fits inner (front_of fill))) ≡ true = ap (λ b. b || (ends_in_one fill && fill_fits inner (front_of fill))) (sym n) ∙ due in
    second_true (ends_in_one fill) (fill_fits inner (front_of fill)) both

pub variable_so : (held : Held) (items offsets : List ℕ) → ok (items, offsets) ≡ variable_items held → (raw : Raw) × (held ≡ vlen raw offsets) × (items ≡ raw.items)
variable_so (flen raw) items offsets e = absurd cc
variable_so (vlen raw others) items offsets e =
    let p : (items, offsets) ≡ (raw.items, others) = ok_is (items, offsets) (raw.items, others) e in
    (raw, (λ i. vlen raw ((sym p i).1)), λ i. (p i).0)
variable_so (masked inner mask) items offsets e = absurd cc

pub variable_at : (type : ElementType) (fill : List ℕ) (held : Held) (items offsets : List ℕ) (chunk : Chunk) (told : Bool) → is_variable type ≡ true → ok (items, offsets) ≡ variable_items held → told ≡ list_all (is_item fill) (cuts (length offsets - 1) offsets items) → Holds type held chunk
    → ok told ≡ ok (is_left_out (λ _ element. element) type fill chunk)
variable_at type fill held items offsets chunk told v parts e holds =
    let m = variable_so held items offsets parts in
    ap ok (e ∙ ap (λ (xs : List ℕ). list_all (is_item fill) (cuts (length offsets - 1) offsets xs)) m.2 ∙ sym (variable_tested type fill m.0 offsets chunk v (subst (λ (x : Held). Holds type x chunk) m.1 holds)))

pub fixed_so : (held : Held) (items : List ℕ) → ok items ≡ fixed_items held → (raw : Raw) × (held ≡ flen raw) × (items ≡ raw.items)
fixed_so (flen raw) items e = (raw, refl, ok_is items raw.items e)
fixed_so (vlen raw others) items e = absurd cc
fixed_so (masked inner mask) items e = absurd cc

pub fixed_at : (type : ElementType) (fill : List ℕ) (held : Held) (items : List ℕ) (chunk : Chunk) (told : Bool) → fill_fits type fill ≡ true → ok items ≡ fixed_items held → ((count : ℕ) → length items ≡ count * length fill → told ≡ list_all (is_item fill) (pieces (length fill) count items)) → Holds type held chunk
    → ok told ≡ ok (is_left_out (λ _ element. element) type fill chunk)
fixed_at type fill held items chunk told fits parts found holds =
    let m = fixed_so held items parts in
    by type fits m.0 m.2 (subst (λ (x : Held). Holds type x chunk) m.1 holds)
  where
    by : (t : ElementType) → fill_fits t fill ≡ true → (raw : Raw) → items ≡ raw.items → Holds t (flen raw) chunk → ok told ≡ ok (is_left_out (λ _ element. element) t fill chunk)
    by (fixed width components sign) fits raw e h =
        let size : length fill ≡ element_size width components = eqb-true (length fill) (element_size width components) fits in
        let long : length raw.items ≡ length chunk * element_size width components = fixed_fits InvalidBytesLength (fixed width components sign) (length chunk) raw (element_size width components) (both_ok _ _ h.valid).1 refl in
        let due : length items ≡ length chunk * length fill = ap length e ∙ long ∙ ap (λ n. length chunk * n) (sym size) in
        ap ok (found (length chunk) due ∙ (λ i. list_all (is_item fill) (pieces (size i) (length chunk) (e i))) ∙ sym (fixed_tested width components sign fill raw chunk h))
    by text fits raw e h = absurd (ok_no_err tt ArrayBytesKind (sym (both_ok _ _ h.valid).1))
    by bytes fits raw e h = absurd (ok_no_err tt ArrayBytesKind (sym (both_ok _ _ h.valid).1))
    by (optional t) fits raw e h = absurd (ok_no_err tt ArrayBytesKind (sym (both_ok _ _ h.valid).1))

-- a type that is neither fixed nor optional is variable
pub variable_else : (type : ElementType) → inner_of type ≡ None → fixed_size_of type ≡ None → is_variable type ≡ true
variable_else (fixed width components sign) i f = absurd cc
variable_else text i f = refl
variable_else bytes i f = refl
variable_else (optional type) i f = absurd cc

-- an element of a fixed type has bytes
pub some_bytes : (type : ElementType) (fill : List ℕ) (size : ℕ) → fill_fits type fill ≡ true → fixed_size_of type ≡ Some size → 0 < size → 0 < length fill
some_bytes (fixed width components sign) fill size fits e l =
    let long : length fill ≡ element_size width components = eqb-true (length fill) (element_size width components) fits in
    let is : element_size width components ≡ size = some_is (element_size width components) size e in
    omega (arith, long, is, l)
some_bytes text fill size fits e l = absurd cc
some_bytes bytes fill size fits e l = absurd cc
some_bytes (optional type) fill size fits e l = absurd cc

-- ---- element by element

pub cuts_more : (item offsets items : List ℕ) (place : ℕ) → list_all (is_item item) (cuts place offsets items) ≡ true → pointwise nat_eq (cut offsets items place) item ≡ true → list_all (is_item item) (cuts (place + 1) offsets items) ≡ true
cuts_more item offsets items place before here =
    ap (list_all (is_item item)) (map-range_with_len_more (cut offsets items) 0 place place (omega arith))
    ∙ list_all-append (is_item item) (cuts place offsets items) (cut offsets items place ∷ [])
    ∙ (λ i. before i && (here i && true))

pub cut_differs : (item offsets items : List ℕ) (count place : ℕ) → place < count → pointwise nat_eq (cut offsets items place) item ≡ false → list_all (is_item item) (cuts count offsets items) ≡ false
cut_differs item offsets items count place l here =
    list_all_at (is_item item) (cuts count offsets items) place [] (omega (arith, l, length-map-range_with_len (cut offsets items) 0 count))
    (ap (is_item item) (get_or-map-range_with_len (cut offsets items) 0 count place place [] l (omega arith)) ∙ here)
