-- The steps of the codec `optional`, as the code takes them.
use Rattle.std.proofs.Common.{◌≡◌, ℕ, zero, suc, ◌<◌, ◌^◌, nat_eq, nat_lt, Bool, true, false, List, [], ◌∷◌, length, replicate, get_or, map, Result, Ok, Err, arith, refl, ap, sym, subst, ◌∙◌, ◌+◌}
use Rattle.std.specs.List.{list_all}
use Rattle.std.proofs.lemmas.Bool.{eq-eqb, eqb-true}
use Rattle.std.proofs.lemmas.List.{length-map, length-replicate}
use Rattle.zarrs_chunk.specs.Answer.{◌>>=◌, demand, checked_u64, Answers, AnswersBy, memory}
use Rattle.zarrs_chunk.specs.ChunkShape.{product}
use Rattle.zarrs_chunk.specs.declared.codec_error.CodecError.{CodecError}
use Rattle.zarrs_chunk.specs.declared.codec_error.CodecError.TheVariants.{InvalidFillValue, InvalidBytesLength, MaskValue}
use Rattle.zarrs_data_type.specs.ElementType.{ElementType, fixed, text, bytes, optional, element_size}
use Rattle.zarrs_data_type.specs.Element.{absent, Chunk}
use Rattle.zarrs_data_type.specs.FillValue.{fill_fits}
use Rattle.zarrs_array_bytes.specs.Elements.{elements}
use Rattle.zarrs_array_bytes.specs.Held.{Raw, Held, flen, vlen, masked}
use Rattle.zarrs_array_bytes.specs.Parts.{optional_part}
use Rattle.zarrs_array_bytes.specs.Present.{present_elements, present_places, present_count, present_chunk, expansion, expanded_chunk}
use Rattle.zarrs_array_bytes.specs.Validity.{length_is, sizes_fit, levels_fit, validity, Holds}
use Rattle.zarrs_array_bytes.proofs.PresentAnswers.{present_held, present_selected, expanded_held}
use Rattle.zarrs_array_bytes.proofs.ValidLemmas.{both_ok, then_ok}
use Rattle.zarrs_codec.specs.BytesToBytesCodec.{BytesCodecs}
use Rattle.zarrs_codec.specs.CoordinateMap.{moved_chunk, inverse_map}
use Rattle.zarrs_codec.specs.declared.bytes_representation.BytesRepresentation.{BytesRepresentation}
use Rattle.zarrs_array_to_array.proofs.CoordinateMaps.{length-moved}
use Rattle.zarrs_bytes.proofs.Coding.{demand_ok, checked_ok, ok, bind_ok}
use Rattle.zarrs_chain_meaning.specs.ArrayStages.{arrays_map}
use Rattle.zarrs_chain_meaning.specs.BytesStages.{in_memory, outer_bytes}
use Rattle.zarrs_chain_meaning.specs.Chain.{held_value, held_part}
use Rattle.zarrs_chain_meaning.specs.Meaning.{Decoder, Encoder, in_a_row}
use Rattle.zarrs_chain_meaning.specs.optional.Optional.{optional_parts, under_flags, flag_of, present_of, optional_layout, optional_value, flag_type, blank_fill, bounded_total}
use Rattle.zarrs_chain_meaning.specs.CodecMeaning.{PlainChain, optional_codec_of, meaning, codec_representation, chain_representation, codec_value, chain_value, codec_chunk, chain_chunk}
use Rattle.zarrs_chain_meaning.specs.Parts.{byte_elements}
use Rattle.zarrs_chain_meaning.specs.optional.OptionalParts.{optional_inner, elements_under, present_part}
use Rattle.zarrs_array_to_array.proofs.MappedChunks.{holds_elements}
use Rattle.zarrs_chain_meaning.proofs.ArraySteps.{ok_is, ok_no_err}
use Rattle.zarrs_chain_meaning.proofs.ChainRelations.{held_value_is}
use Rattle.zarrs_chain_meaning.proofs.ChainSteps.{held_chunk}
use Rattle.zarrs_chain_meaning.proofs.OptionalFlags.{set_in, flags_or_refusal, flags_read, count_present, expansion_under, present_same, flag_elements, flags_valid, flags_bytes}
use Rattle.zarrs_chain_meaning.proofs.OptionalFor.{count_set}

-- ---- fill values

-- the fill value that a chain of present elements gets fits their type
pub blank_fits : (type : ElementType) → fill_fits type (blank_fill type) ≡ true
blank_fits (fixed width components sign) = eq-eqb (length (replicate {A = ℕ} (element_size width components) 0)) (element_size width components) (length-replicate {A = ℕ} (element_size width components) 0)
blank_fits text = refl
blank_fits bytes = refl
blank_fits (optional type) = refl

-- ---- containers under a mask

pub masked_is : (held inner : Held) (mask : Raw) → optional_part held ≡ Ok (inner, mask) → held ≡ masked inner mask
masked_is (flen raw) inner mask e = absurd cc
masked_is (vlen raw offsets) inner mask e = absurd cc
masked_is (masked one flags) inner mask e = ap (λ (p : Held × Raw). masked p.0 p.1) (ok_is (one, flags) (inner, mask) e)

-- a container of optional elements has a mask
pub never_unmasked : (held : Held) (type : ElementType) (count : ℕ) (cause : CodecError) → validity (optional type) count held ≡ Ok tt → optional_part held ≡ Err cause → ⊥
never_unmasked (flen raw) type count cause valid e = let both = both_ok (sizes_fit type count) (levels_fit InvalidBytesLength (optional type) count (flen raw)) valid in cc both.1
never_unmasked (vlen raw offsets) type count cause valid e = let both = both_ok (sizes_fit type count) (levels_fit InvalidBytesLength (optional type) count (vlen raw offsets)) valid in cc both.1
never_unmasked (masked inner mask) type count cause valid e = cc e

-- with a byte for each element
mask_long_so : (inner : Held) (mask : Raw) (type : ElementType) (count : ℕ) → validity (optional type) count (masked inner mask) ≡ Ok tt → length mask.items ≡ count
mask_long_so inner mask type count valid =
    let levels = both_ok (sizes_fit type count) (levels_fit InvalidBytesLength (optional type) count (masked inner mask)) valid in
    let parts = both_ok (length_is InvalidBytesLength (length mask.items) count) (levels_fit InvalidBytesLength type count inner) levels.1 in
    eqb-true (length mask.items) count (demand_ok (nat_eq (length mask.items) count) (InvalidBytesLength (length mask.items) count) tt parts.0)

pub mask_long : (held inner : Held) (mask : Raw) (type : ElementType) (count : ℕ) → held ≡ masked inner mask → validity (optional type) count held ≡ Ok tt → length mask.items ≡ count
mask_long held inner mask type count is valid = mask_long_so inner mask type count (subst (λ (h : Held). validity (optional type) count h ≡ Ok tt) is valid)

-- over as many elements
inside_valid_so : (inner : Held) (mask : Raw) (type : ElementType) (count : ℕ) → validity (optional type) count (masked inner mask) ≡ Ok tt → validity type count inner ≡ Ok tt
inside_valid_so inner mask type count valid =
    let levels = both_ok (sizes_fit type count) (levels_fit InvalidBytesLength (optional type) count (masked inner mask)) valid in
    let parts = both_ok (length_is InvalidBytesLength (length mask.items) count) (levels_fit InvalidBytesLength type count inner) levels.1 in
    then_ok (sizes_fit type count) (levels_fit InvalidBytesLength type count inner) levels.0 parts.1

pub inside_valid : (held inner : Held) (mask : Raw) (type : ElementType) (count : ℕ) → held ≡ masked inner mask → validity (optional type) count held ≡ Ok tt → validity type (length mask.items) inner ≡ Ok tt
inside_valid held inner mask type count is valid =
    let here = subst (λ (h : Held). validity (optional type) count h ≡ Ok tt) is valid in
    subst (λ (n : ℕ). validity type n inner ≡ Ok tt) (sym (mask_long_so inner mask type count here)) (inside_valid_so inner mask type count here)

-- ---- representation

pub representation_opened : {B : Type 0} (f : BytesCodecs B) (mask content : PlainChain B) (sizes : List ℕ) (type : ElementType) (fill : List ℕ)
    → codec_representation f (optional_codec_of mask content) sizes type fill
    ≡ optional_inner type >>= (λ inner. demand (fill_fits type fill) InvalidFillValue >>= (λ _. checked_u64 (product sizes) >>= (λ _. chain_representation f mask sizes flag_type (0 ∷ []) >>= (λ m. chain_representation f content sizes inner (blank_fill inner) >>= (λ d. ok (bounded_total (λ mask content. 16 + mask + content) m d))))))
unfolding meaning
representation_opened f mask content sizes (fixed width components sign) fill = refl
representation_opened f mask content sizes text fill = refl
representation_opened f mask content sizes bytes fill = refl
representation_opened f mask content sizes (optional type) fill = refl

-- 64 bits count the elements of a chunk that the codec takes
pub representation_counted : {B : Type 0} (f : BytesCodecs B) (mask content : PlainChain B) (sizes : List ℕ) (type : ElementType) (fill : List ℕ) (r : BytesRepresentation)
    → codec_representation f (optional_codec_of mask content) sizes type fill ≡ Ok r → checked_u64 (product sizes) ≡ Ok (product sizes)
representation_counted f mask content sizes type fill r e =
    let a = bind_ok (optional_inner type) _ r (sym (representation_opened f mask content sizes type fill) ∙ e) in
    let b = bind_ok (demand (fill_fits type fill) InvalidFillValue) _ r a.2 in
    let c = bind_ok (checked_u64 (product sizes)) _ r b.2 in
    let d = checked_ok (product sizes) c.0 c.1 in
    c.1 ∙ ap ok d.1

pub inner_is : (type inner : ElementType) → optional_inner type ≡ Ok inner → type ≡ optional inner
inner_is (fixed width components sign) inner e = absurd cc
inner_is text inner e = absurd cc
inner_is bytes inner e = absurd cc
inner_is (optional type) inner e = ap optional (cc e)

-- ---- encoding

-- a container of mask bytes is encoded as their chunk
mask_value : {B : Type 0} (f : BytesCodecs B) (chain : PlainChain B) (sizes mask fill : List ℕ) (raw : Raw) → raw.items ≡ mask → length mask ≡ product sizes → length mask < 2 ^ 64
    → held_value f chain sizes flag_type fill (flen raw) ≡ chain_value f chain sizes flag_type fill (byte_elements mask)
mask_value f chain sizes mask fill raw same long small =
    let count : length (byte_elements raw.items) ≡ length raw.items = length-map raw.items _ in
    let all : length raw.items ≡ length mask = ap (λ (xs : List ℕ). length xs) same in
    let holds : Holds flag_type (flen raw) (byte_elements raw.items) = record {
      valid = subst (λ (n : ℕ). validity flag_type n (flen raw) ≡ Ok tt) (sym count) (flags_valid raw (omega (arith, all, small)));
      elements_are = flag_elements raw (length (byte_elements raw.items)) (sym count);
    } in
    held_value_is f chain sizes flag_type fill (flen raw) (byte_elements raw.items) holds (count ∙ all ∙ long) ∙ ap (λ (xs : List ℕ). chain_value f chain sizes flag_type fill (byte_elements xs)) same

pub counted_small : (n : ℕ) → checked_u64 n ≡ Ok n → n < 2 ^ 64
counted_small n e = (checked_ok n n e).0

pub mask_answers : {B X : Type 0} (view : X → List ℕ) (result : Result X CodecError) (f : BytesCodecs B) (chain : PlainChain B) (sizes fill : List ℕ) (raw : Raw) → length raw.items ≡ product sizes → checked_u64 (product sizes) ≡ Ok (product sizes)
    → Answers memory view result (held_value f chain sizes flag_type fill (flen raw)) → Answers memory view result (chain_value f chain sizes flag_type fill (byte_elements raw.items))
mask_answers view result f chain sizes fill raw long counted gives =
    let small = counted_small (product sizes) counted in
    subst (λ (x : Result (List ℕ) CodecError). Answers memory view result x) (mask_value f chain sizes raw.items fill raw refl long (omega (arith, long, small))) gives

-- a container of a row is encoded as the row
held_part_is : {B : Type 0} (f : BytesCodecs B) (chain : PlainChain B) (count : ℕ) (type : ElementType) (fill : List ℕ) (held : Held) (chunk : Chunk) → Holds type held chunk → length chunk ≡ count → held_part f chain count type fill held ≡ in_a_row (Ok []) (λ sizes. chain_value f chain sizes type fill chunk) (length chunk)
held_part_is f chain zero type fill held [] holds long = refl
held_part_is f chain zero type fill held (x ∷ chunk) holds long = absurd (omega (arith, long))
held_part_is f chain (suc count) type fill held [] holds long = absurd (omega (arith, long))
held_part_is f chain (suc count) type fill held (x ∷ chunk) holds long =
    held_value_is f chain (suc count ∷ []) type fill held (x ∷ chunk) holds (omega (arith, long)) ∙ ap (λ (n : ℕ). chain_value f chain (n ∷ []) type fill (x ∷ chunk)) (sym long)

-- as many elements are present as are counted
count_found : (mask : List ℕ) (count : ℕ) → present_count mask ≡ Ok count → (list_all (λ byte. nat_lt byte 2) mask ≡ true) × (length (present_places mask) ≡ count)
count_found mask count e =
    let a = bind_ok (demand (list_all (λ byte. nat_lt byte 2) mask) MaskValue) _ count e in
    (demand_ok (list_all (λ byte. nat_lt byte 2) mask) MaskValue a.0 a.1, ok_is (length (present_places mask)) count a.2)

present_many : (type : ElementType) (inner : Held) (mask : List ℕ) (count : ℕ) → present_count mask ≡ Ok count → length (elements_under type inner mask) ≡ count
present_many type inner mask count e =
    ap (λ (c : Chunk). length c) (present_selected type inner mask) ∙ length-map (present_places mask) (λ place. get_or (elements type (length mask) inner) place absent) ∙ (count_found mask count e).1

-- what is taken out of a container is encoded as the present elements
pub present_value : {B : Type 0} (f : BytesCodecs B) (chain : PlainChain B) (count : ℕ) (type : ElementType) (fill : List ℕ) (inner held : Held) (mask : List ℕ) → validity type (length mask) inner ≡ Ok tt → present_count mask ≡ Ok count
    → AnswersBy {E = CodecError} memory (Holds type) (Ok held) (present_chunk type inner mask) → held_part f chain count type fill held ≡ in_a_row (Ok []) (λ sizes. chain_value f chain sizes type fill (elements_under type inner mask)) (length (elements_under type inner mask))
present_value f chain count type fill inner held mask valid counted gives =
    let is : present_chunk type inner mask ≡ ok (elements_under type inner mask) = rw valid refl in
    let holds : Holds type held (elements_under type inner mask) = subst (λ (r : Result Chunk CodecError). AnswersBy memory (Holds type) (Ok held) r) is gives in
    held_part_is f chain count type fill held (elements_under type inner mask) holds (present_many type inner mask count counted)

-- the chunk of a container under a mask is encoded by the mask bytes and the present elements
value_of_masked : (me ce : Encoder) (sizes : List ℕ) (type : ElementType) (inner : Held) (mask : Raw) → list_all (λ byte. nat_lt byte 2) mask.items ≡ true → validity (optional type) (product sizes) (masked inner mask) ≡ Ok tt
    → optional_value me ce sizes (optional type) (elements (optional type) (product sizes) (masked inner mask))
    ≡ me sizes flag_type (0 ∷ []) (byte_elements mask.items) >>= (λ m. in_a_row (Ok []) (λ sizes. ce sizes type (blank_fill type) (elements_under type inner mask.items)) (length (elements_under type inner mask.items)) >>= (λ d. in_memory (optional_layout m d)))
value_of_masked me ce sizes type inner mask flags valid =
    let n = product sizes in
    let chunk = elements (optional type) n (masked inner mask) in
    let known = present_held type inner mask chunk (holds_elements (optional type) n (masked inner mask) valid) flags in
    let marks : map flag_of chunk ≡ byte_elements mask.items = flags_bytes chunk ∙ ap byte_elements known.mask in
    let items : present_of chunk ≡ elements_under type inner mask.items = sym (present_same chunk) ∙ ap (λ (k : ℕ). present_elements (elements (optional type) k (masked inner mask))) (sym (mask_long_so inner mask type n valid)) in
    λ i. me sizes flag_type (0 ∷ []) (marks i) >>= (λ m. in_a_row (Ok []) (λ sizes. ce sizes type (blank_fill type) (items i)) (length (items i)) >>= (λ d. in_memory (optional_layout m d)))

pub value_by_mask : (me ce : Encoder) (sizes : List ℕ) (type : ElementType) (held inner : Held) (mask : Raw) → held ≡ masked inner mask → list_all (λ byte. nat_lt byte 2) mask.items ≡ true → validity (optional type) (product sizes) held ≡ Ok tt
    → optional_value me ce sizes (optional type) (elements (optional type) (product sizes) held)
    ≡ me sizes flag_type (0 ∷ []) (byte_elements mask.items) >>= (λ m. in_a_row (Ok []) (λ sizes. ce sizes type (blank_fill type) (elements_under type inner mask.items)) (length (elements_under type inner mask.items)) >>= (λ d. in_memory (optional_layout m d)))
value_by_mask me ce sizes type held inner mask is flags valid =
    ap (λ (h : Held). optional_value me ce sizes (optional type) (elements (optional type) (product sizes) h)) is
    ∙ value_of_masked me ce sizes type inner mask flags (subst (λ (h : Held). validity (optional type) (product sizes) h ≡ Ok tt) is valid)

-- the steps of encoding, each error and the value

pub present_taken : (held inner : Held) (mask : Raw) (type : ElementType) (count : ℕ) (cause : CodecError) → held ≡ masked inner mask → validity (optional type) count held ≡ Ok tt → present_chunk type inner mask.items ≡ Err cause → ⊥
present_taken held inner mask type count cause is valid e =
    let fit = inside_valid held inner mask type count is valid in
    let taken : present_chunk type inner mask.items ≡ ok (elements_under type inner mask.items) = rw fit refl in
    ok_no_err (elements_under type inner mask.items) cause (sym taken ∙ e)

pub mask_not_written : (me ce : Encoder) (sizes : List ℕ) (type : ElementType) (held inner : Held) (mask : Raw) (cause : CodecError) → held ≡ masked inner mask → list_all (λ byte. nat_lt byte 2) mask.items ≡ true → validity (optional type) (product sizes) held ≡ Ok tt
    → me sizes flag_type (0 ∷ []) (byte_elements mask.items) ≡ Err cause → optional_value me ce sizes (optional type) (elements (optional type) (product sizes) held) ≡ Err cause
mask_not_written me ce sizes type held inner mask cause is flags valid e = value_by_mask me ce sizes type held inner mask is flags valid ∙ rw e refl

pub part_written : {B : Type 0} (f : BytesCodecs B) (content : PlainChain B) (sizes : List ℕ) (type : ElementType) (held inner present : Held) (mask : Raw) (count : ℕ) → held ≡ masked inner mask → validity (optional type) (product sizes) held ≡ Ok tt → present_count mask.items ≡ Ok count
    → AnswersBy {E = CodecError} memory (Holds type) (Ok present) (present_chunk type inner mask.items) → held_part f content count type (blank_fill type) present ≡ in_a_row (Ok []) (λ sizes. chain_value f content sizes type (blank_fill type) (elements_under type inner mask.items)) (length (elements_under type inner mask.items))
part_written f content sizes type held inner present mask count is valid counted gives =
    present_value f content count type (blank_fill type) inner present mask.items (inside_valid held inner mask type (product sizes) is valid) counted gives

pub part_not_written : {B : Type 0} (f : BytesCodecs B) (me : Encoder) (content : PlainChain B) (sizes m : List ℕ) (type : ElementType) (held inner present : Held) (mask : Raw) (count : ℕ) (cause : CodecError) → held ≡ masked inner mask → list_all (λ byte. nat_lt byte 2) mask.items ≡ true → validity (optional type) (product sizes) held ≡ Ok tt → present_count mask.items ≡ Ok count
    → AnswersBy {E = CodecError} memory (Holds type) (Ok present) (present_chunk type inner mask.items)
    → me sizes flag_type (0 ∷ []) (byte_elements mask.items) ≡ Ok m → held_part f content count type (blank_fill type) present ≡ Err cause → optional_value me (chain_value f content) sizes (optional type) (elements (optional type) (product sizes) held) ≡ Err cause
part_not_written f me content sizes m type held inner present mask count cause is flags valid counted gives e h =
    value_by_mask me (chain_value f content) sizes type held inner mask is flags valid ∙ rw (e, sym (part_written f content sizes type held inner present mask count is valid counted gives) ∙ h) refl

pub both_written : {B X : Type 0} (view : X → List ℕ) (result : Result X CodecError) (f : BytesCodecs B) (me : Encoder) (content : PlainChain B) (sizes m d : List ℕ) (type : ElementType) (held inner present : Held) (mask : Raw) (count : ℕ) → held ≡ masked inner mask → list_all (λ byte. nat_lt byte 2) mask.items ≡ true → validity (optional type) (product sizes) held ≡ Ok tt → present_count mask.items ≡ Ok count
    → AnswersBy {E = CodecError} memory (Holds type) (Ok present) (present_chunk type inner mask.items)
    → me sizes flag_type (0 ∷ []) (byte_elements mask.items) ≡ Ok m → held_part f content count type (blank_fill type) present ≡ Ok d → Answers memory view result (in_memory (optional_layout m d))
    → Answers memory view result (optional_value me (chain_value f content) sizes (optional type) (elements (optional type) (product sizes) held))
both_written view result f me content sizes m d type held inner present mask count is flags valid counted gives e h joined =
    let value : optional_value me (chain_value f content) sizes (optional type) (elements (optional type) (product sizes) held) ≡ in_memory (optional_layout m d) =
    value_by_mask me (chain_value f content) sizes type held inner mask is flags valid ∙ rw (e, sym (part_written f content sizes type held inner present mask count is valid counted gives) ∙ h) refl in
    subst (λ (x : Result (List ℕ) CodecError). Answers memory view result x) (sym value) joined

-- what the codec writes of a chunk is written by the chains inside
pub value_opened : {B : Type 0} (f : BytesCodecs B) (mask content : PlainChain B) (sizes : List ℕ) (type : ElementType) (fill : List ℕ) (chunk : Chunk) → codec_value f (optional_codec_of mask content) sizes type fill chunk ≡ optional_value (chain_value f mask) (chain_value f content) sizes type chunk
unfolding meaning
value_opened f mask content sizes type fill chunk = refl

-- ---- decoding

pub chunk_opened : {B : Type 0} (f : BytesCodecs B) (mask content : PlainChain B) (sizes : List ℕ) (type : ElementType) (fill value : List ℕ)
    → codec_chunk f (optional_codec_of mask content) sizes type fill value
    ≡ optional_inner type >>= (λ inner. optional_parts value >>= (λ parts. chain_chunk f mask sizes flag_type (0 ∷ []) parts.0 >>= (λ flags. present_part (chain_chunk f content) inner flags parts.1)))
unfolding meaning
chunk_opened f mask content sizes (fixed width components sign) fill value = refl
chunk_opened f mask content sizes text fill value = refl
chunk_opened f mask content sizes bytes fill value = refl
chunk_opened f mask content sizes (optional type) fill value = refl

pub chunk_answers : {B : Type 0} (result : Result Held CodecError) (f : BytesCodecs B) (mask content : PlainChain B) (sizes : List ℕ) (type inner : ElementType) (fill value mask_part data_part : List ℕ) (flags : Chunk)
    → Ok inner ≡ optional_inner type → optional_parts value ≡ Ok (mask_part, data_part) → chain_chunk f mask sizes flag_type (0 ∷ []) mask_part ≡ Ok flags
    → AnswersBy memory (Holds (optional inner)) result (present_part (chain_chunk f content) inner flags data_part)
    → AnswersBy memory (Holds type) result (codec_chunk f (optional_codec_of mask content) sizes type fill value)
chunk_answers result f mask content sizes type inner fill value mask_part data_part flags e parts read gives =
    let is : type ≡ optional inner = inner_is type inner (sym e) in
    let opened : codec_chunk f (optional_codec_of mask content) sizes type fill value ≡ present_part (chain_chunk f content) inner flags data_part = chunk_opened f mask content sizes type fill value ∙ rw (← e, parts, read) refl in
    subst (λ (t : ElementType). AnswersBy memory (Holds t) result (codec_chunk f (optional_codec_of mask content) sizes type fill value)) (sym is)
    (subst (λ (x : Result Chunk CodecError). AnswersBy memory (Holds (optional inner)) result x) (sym opened) gives)

-- as many elements as the sizes say
pub chunk_long : {B : Type 0} (f : BytesCodecs B) (chain : PlainChain B) (sizes : List ℕ) (type : ElementType) (fill value : List ℕ) (chunk : Chunk) → chain_chunk f chain sizes type fill value ≡ Ok chunk → length chunk ≡ product sizes
chunk_long f chain sizes type fill value chunk e =
    let m = bind_ok (arrays_map type chain.array_to_array sizes) _ chunk e in
    let r = bind_ok (codec_representation f chain.array_to_bytes m.0.encoded type fill) _ chunk m.2 in
    let below = bind_ok (outer_bytes f chain.bytes_to_bytes r.0 value) _ chunk r.2 in
    let c = bind_ok (codec_chunk f chain.array_to_bytes m.0.encoded type fill below.0) _ chunk below.2 in
    ap (λ (x : Chunk). length x) (sym (ok_is (moved_chunk (inverse_map sizes m.0) c.0) chunk c.2)) ∙ length-moved (inverse_map sizes m.0) c.0

pub part_long : {B : Type 0} (f : BytesCodecs B) (chain : PlainChain B) (type : ElementType) (fill : List ℕ) (count : ℕ) (part : List ℕ) (chunk : Chunk) → in_a_row (Ok []) (λ sizes. chain_chunk f chain sizes type fill part) count ≡ Ok chunk → length chunk ≡ count
part_long f chain type fill zero part chunk e = ap (λ (x : Chunk). length x) (sym (ok_is [] chunk e))
part_long f chain type fill (suc count) part chunk e = omega (arith, chunk_long f chain (suc count ∷ []) type fill part chunk e)

refused_so : (passed : Bool) (flags : List Bool) (n : ℕ) (cause : CodecError) (g : List Bool → Result Chunk CodecError) → (demand passed MaskValue >>= (λ _. ok n)) ≡ Err cause → flags_or_refusal passed flags >>= g ≡ Err cause
refused_so true flags n cause g e = absurd cc
refused_so false flags n cause g e = cc e

-- a byte that is no flag is rejected
pub mask_refused : (decode : Decoder) (type : ElementType) (mask part : List ℕ) (cause : CodecError) → present_count mask ≡ Err cause → present_part decode type (byte_elements mask) part ≡ Err cause
mask_refused decode type mask part cause e =
    let after : List Bool → Result Chunk CodecError = λ flags. in_a_row (Ok []) (λ sizes. decode sizes type (blank_fill type) part) (count_set flags) >>= (λ items. ok (under_flags flags items)) in
    ap (λ (r : Result (List Bool) CodecError). r >>= after) (flags_read mask) ∙ refused_so (list_all (λ byte. nat_lt byte 2) mask) (set_in mask) (length (present_places mask)) cause after e

pub present_opened : (decode : Decoder) (type : ElementType) (mask : List ℕ) (count : ℕ) (part : List ℕ) → present_count mask ≡ Ok count → present_part decode type (byte_elements mask) part ≡ in_a_row (Ok []) (λ sizes. decode sizes type (blank_fill type) part) count >>= (λ items. ok (expansion mask items))
present_opened decode type mask count part e =
    let found = count_found mask count e in
    let after : List Bool → Result Chunk CodecError = λ flags. in_a_row (Ok []) (λ sizes. decode sizes type (blank_fill type) part) (count_set flags) >>= (λ items. ok (under_flags flags items)) in
    let number : count_set (set_in mask) ≡ count = count_present mask ∙ found.1 in
    ap (λ (r : Result (List Bool) CodecError). r >>= after) (flags_read mask ∙ ap (λ (b : Bool). flags_or_refusal b (set_in mask)) found.0)
    ∙ (λ i. in_a_row (Ok []) (λ sizes. decode sizes type (blank_fill type) part) (number i) >>= (λ items. ok (sym (expansion_under mask items) i)))

pub part_refused : (decode : Decoder) (type : ElementType) (mask : List ℕ) (count : ℕ) (part : List ℕ) (cause : CodecError) → present_count mask ≡ Ok count → in_a_row (Ok []) (λ sizes. decode sizes type (blank_fill type) part) count ≡ Err cause → present_part decode type (byte_elements mask) part ≡ Err cause
part_refused decode type mask count part cause e refused = present_opened decode type mask count part e ∙ rw refused refl

-- what is put back are the elements that the part stands for, at the places whose flags are set
pub part_expanded : {B : Type 0} (result : Result Held CodecError) (f : BytesCodecs B) (chain : PlainChain B) (type : ElementType) (held : Held) (mask : List ℕ) (count : ℕ) (part : List ℕ) → present_count mask ≡ Ok count → sizes_fit type (length mask) ≡ Ok tt
    → AnswersBy {E = CodecError} memory (Holds type) (Ok held) (in_a_row (Ok []) (λ sizes. chain_chunk f chain sizes type (blank_fill type) part) count) → AnswersBy memory (Holds (optional type)) result (expanded_chunk type held mask)
    → AnswersBy memory (Holds (optional type)) result (present_part (chain_chunk f chain) type (byte_elements mask) part)
part_expanded result f chain type held mask count part e fits read gives =
    let c = held_chunk type held (in_a_row (Ok []) (λ sizes. chain_chunk f chain sizes type (blank_fill type) part) count) read in
    let long : length c.0 ≡ count = part_long f chain type (blank_fill type) count part c.0 c.1 in
    let opened : present_part (chain_chunk f chain) type (byte_elements mask) part ≡ ok (expansion mask c.0) =
    present_opened (chain_chunk f chain) type mask count part e ∙ ap (λ (r : Result Chunk CodecError). r >>= (λ items. ok (expansion mask items))) c.1 in
    let expanded : expanded_chunk type held mask ≡ Ok (expansion mask c.0) = expanded_held type held mask c.0 c.2 (e ∙ ap ok (sym long)) fits in
    subst (λ (x : Result Chunk CodecError). AnswersBy memory (Holds (optional type)) result x) (expanded ∙ sym opened) gives
