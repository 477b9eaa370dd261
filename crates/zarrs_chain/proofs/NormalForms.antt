-- Containers of the normal forms of elements.
use Rattle.std.proofs.Common.{◌≡◌, ℕ, zero, suc, ◌+◌, ◌*◌, ◌-◌, ◌<◌, ◌^◌, nat_lt, ◌&&◌, if◌then◌else◌, Bool, true, false, List, [], ◌∷◌, length, map, take, drop, Some, None, Result, Ok, Err, arith, refl, ap, sym, subst, ◌∙◌, eq-eqb}
use Rattle.std.specs.List.{take-map, drop-map, between, range_with_len}
use Rattle.std.specs.Prelude.{slice_index}
use Rattle.std.proofs.lemmas.List.{length-map, map-id}
use Rattle.zarrs_chunk.specs.Answer.{◌>>=◌, Answers, AnswersBy, checked_u64, memory, demand, seen}
use Rattle.zarrs_chunk.specs.declared.codec_error.CodecError.{CodecError}
use Rattle.zarrs_chunk.specs.declared.codec_error.CodecError.TheVariants.{InvalidBytesLength, InvalidFillValue, BitRange, Overflow}
use Rattle.zarrs_data_type.specs.Element.{Element, plain, absent, present, Chunk}
use Rattle.zarrs_data_type.specs.ElementType.{ElementType, fixed, text, bytes, optional, component_bytes, element_size, fixed_size_of, is_variable, inner_of}
use Rattle.zarrs_array_bytes.specs.Elements.{cut, element_at, elements}
use Rattle.zarrs_array_bytes.specs.Held.{Held, Raw, flen, vlen, masked}
use Rattle.zarrs_array_bytes.specs.Offsets.{last_of}
use Rattle.zarrs_array_bytes.specs.Parts.{fixed_part, variable_part, with_offsets}
use Rattle.zarrs_array_bytes.specs.Validity.{Holds, validity, levels_fit}
use Rattle.zarrs_array_bytes.proofs.UpdatedLemmas.{flags, elements-flags, length-elements}
use Rattle.zarrs_array_bytes.proofs.ValidLemmas.{both_ok, then_ok, length_due, masked_fits}
use Rattle.zarrs_array_to_array.proofs.MappedChunks.{holds_elements}
use Rattle.zarrs_bytes.proofs.Coding.{ok}
use Rattle.zarrs_chain_meaning.specs.Meaning.{Keeping}
use Rattle.zarrs_chain_meaning.specs.Parts.{byte_type, byte_elements, all_bytes}
use Rattle.zarrs_chain_meaning.specs.optional.Optional.{optional_normal}
use Rattle.zarrs_chain_meaning.specs.vlen.Vlen.{vlen_normal}
use Rattle.zarrs_chain_meaning.proofs.ArraySteps.{err, ok_is, ok_no_err}
use Rattle.zarrs_chain_meaning.proofs.NestedForNormal.{items_kept}
use Rattle.zarrs_chain_meaning.proofs.NestedNormal.{KeepsTypes, kept_byte}
use Rattle.zarrs_chain_meaning.proofs.NestedRows.{items_again}
use Rattle.zarrs_chain_meaning.proofs.OptionalFlags.{flag_elements}
use Rattle.zarrs_chain.proofs.VlenDecode.{bytes_in}
use Rattle.std.specs.List.{list_all}
use Rattle.zarrs_chunk.proofs.Inside.{lt_test}
use Rattle.zarrs_chunk.specs.ChunkShape.{product}
use Rattle.zarrs_data_type.specs.Form.{form_of}
use Rattle.zarrs_data_type.specs.FillValue.{fill_fits}
use Rattle.zarrs_array_bytes.specs.Parts.{with_mask}
use Rattle.zarrs_array_to_array.proofs.AnswerSteps.{some_is}
use Rattle.zarrs_codec.specs.declared.bytes_representation.BytesRepresentation.TheVariants.{FixedSize}
use Rattle.zarrs_packbits.specs.NormalForm.{normal_chunk}
use Rattle.zarrs_packbits.specs.NormalForm as packbits
use Rattle.zarrs_packbits.specs.PackBitsSettings.{PackBitsSettings, has_bits, layout_for, packed_layout}
use Rattle.zarrs_packbits.specs.PackedLayout.{is_in_reach}
use Rattle.zarrs_packbits.specs.PaddingByte.{value_len}
use Rattle.zarrs_chain_meaning.specs.CodecMeaning.{PlainCodec, PlainChain, vlen_codec_of, optional_codec_of, sharding_codec_of, meaning, codec_normal_element, normal_form}
use Rattle.zarrs_chain_meaning.proofs.CodecLaws.{kept_is}
use Rattle.zarrs_chain_meaning.proofs.VlenOffsets.{fixed_held}
use Rattle.zarrs_chain.specs.ChainView.{plain_chain, plain_codec, plain_optional, plain_optional_at, plain_sharding_at, plain_vlen, plain_vlen_at}
use Rattle.zarrs_chain.specs.declared.array_to_bytes_codec.ArrayToBytesCodec.{ArrayToBytesCodec}
use Rattle.zarrs_chain.specs.declared.array_to_bytes_codec.ArrayToBytesCodec.TheVariants.{PackBits, Sharding}
use Rattle.zarrs_chain.specs.declared.optional.optional_codec.OptionalCodec.{OptionalCodec, out-OptionalCodec}
use Rattle.zarrs_chain.specs.declared.sharding.sharding_codec.ShardingCodec.{ShardingCodec, out-ShardingCodec}
use Rattle.zarrs_chain.specs.declared.vlen.vlen_codec.VlenCodec.{VlenCodec, out-VlenCodec}
use Rattle.zarrs_chain.specs.sharding.ShardingCalls.{KeepsAll, is_overflow}
use Rattle.zarrs_shard_bytes.proofs.FillTests.{optional_so}
use Rattle.zarrs_chain.proofs.VlenEncode.{variable_is}
use Rattle.zarrs_chain.proofs.VlenKept.{map_same}

-- a container of elements that are kept as they are
pub held_same : (type : ElementType) (count : ℕ) (held : Held) → validity type count held ≡ Ok tt → Holds type held (map (λ element. element) (elements type count held))
held_same type count held valid = subst (λ (c : Chunk). Holds type held c) (sym (map-id (elements type count held))) (holds_elements type count held valid)

-- ---- `vlen`

between_map : (g : ℕ → ℕ) (first last : ℕ) (items : List ℕ) → between first last (map g items) ≡ map g (between first last items)
between_map g first last items = ap (take (last - first)) (drop-map g first items) ∙ take-map g (last - first) (drop first items)

-- the bytes that are kept of single bytes
pub bytes_kept : (keep : Keeping) → KeepsTypes keep → (raw other : Raw) (count : ℕ) → length raw.items ≡ count → Holds byte_type (flen other) (map (keep byte_type) (elements byte_type count (flen raw))) → other.items ≡ map (kept_byte keep) raw.items
bytes_kept keep k raw other count long h =
    let rows : elements byte_type count (flen raw) ≡ byte_elements raw.items = flag_elements raw count long in
    let kept : map (keep byte_type) (elements byte_type count (flen raw)) ≡ byte_elements (map (kept_byte keep) raw.items) = ap (map (keep byte_type)) rows ∙ items_kept keep k raw.items in
    sym (bytes_in other (map (keep byte_type) (elements byte_type count (flen raw))) h) ∙ ap all_bytes kept ∙ items_again (map (kept_byte keep) raw.items)

texts_kept : (keep : Keeping) (raw other : Raw) (offsets places : List ℕ) → other.items ≡ map (kept_byte keep) raw.items
    → map (element_at text (vlen other offsets)) places ≡ map (vlen_normal keep text) (map (element_at text (vlen raw offsets)) places)
texts_kept keep raw other offsets [] e = refl
texts_kept keep raw other offsets (place ∷ places) e =
    let one : cut offsets other.items place ≡ map (kept_byte keep) (cut offsets raw.items place) = ap (λ (xs : List ℕ). cut offsets xs place) e ∙ between_map (kept_byte keep) (slice_index offsets place) (slice_index offsets (place + 1)) raw.items in
    λ i. plain (one i) ∷ texts_kept keep raw other offsets places e i

pub vlen_kept : (keep : Keeping) (type : ElementType) (count : ℕ) (raw other : Raw) (offsets : List ℕ) → is_variable type ≡ true → validity type count (vlen raw offsets) ≡ Ok tt → other.items ≡ map (kept_byte keep) raw.items
    → Holds type (vlen other offsets) (map (vlen_normal keep type) (elements type count (vlen raw offsets)))
vlen_kept keep (fixed width components sign) count raw other offsets v valid e = absurd cc
vlen_kept keep text count raw other offsets v valid e =
    let long : length (map (vlen_normal keep text) (elements text count (vlen raw offsets))) ≡ count = length-map (elements text count (vlen raw offsets)) (vlen_normal keep text) ∙ length-elements text count (vlen raw offsets) in
    record {
      valid = ap (λ n. validity text n (vlen other offsets)) long ∙ valid;
      elements_are = ap (λ n. elements text n (vlen other offsets)) long ∙ texts_kept keep raw other offsets (range_with_len 0 count) e;
    }
vlen_kept keep bytes count raw other offsets v valid e =
    let long : length (map (vlen_normal keep bytes) (elements bytes count (vlen raw offsets))) ≡ count = length-map (elements bytes count (vlen raw offsets)) (vlen_normal keep bytes) ∙ length-elements bytes count (vlen raw offsets) in
    record {
      valid = ap (λ n. validity bytes n (vlen other offsets)) long ∙ valid;
      elements_are = ap (λ n. elements bytes n (vlen other offsets)) long ∙ bytes_too (range_with_len 0 count);
    }
  where
    bytes_too : (places : List ℕ) → map (element_at bytes (vlen other offsets)) places ≡ map (vlen_normal keep bytes) (map (element_at bytes (vlen raw offsets)) places)
    bytes_too [] = refl
    bytes_too (place ∷ places) =
        let one : cut offsets other.items place ≡ map (kept_byte keep) (cut offsets raw.items place) = ap (λ (xs : List ℕ). cut offsets xs place) e ∙ between_map (kept_byte keep) (slice_index offsets place) (slice_index offsets (place + 1)) raw.items in
        λ i. plain (one i) ∷ bytes_too places i
vlen_kept keep (optional type) count raw other offsets v valid e = absurd cc

-- the kept bytes end where the offsets do
pub with_kept : (keep : Keeping) (raw other : Raw) (offsets : List ℕ) → last_of offsets ≡ length raw.items → other.items ≡ map (kept_byte keep) raw.items → with_offsets other offsets ≡ Ok (vlen other offsets)
with_kept keep raw other offsets ending e =
    let long : last_of offsets ≡ length other.items = ending ∙ sym (length-map raw.items (kept_byte keep)) ∙ ap length (sym e) in
    rw (eq-eqb (last_of offsets) (length other.items) long) refl

-- other elements are kept as they are
pub vlen_other : (keep : Keeping) (type : ElementType) (count : ℕ) (held : Held) → is_variable type ≡ false → validity type count held ≡ Ok tt → Holds type held (map (vlen_normal keep type) (elements type count held))
vlen_other keep (fixed width components sign) count held v valid = held_same (fixed width components sign) count held valid
vlen_other keep text count held v valid = absurd cc
vlen_other keep bytes count held v valid = absurd cc
vlen_other keep (optional type) count held v valid = held_same (optional type) count held valid

-- ---- `optional`

flags_kept : (keep : Keeping) (type : ElementType) (mask : List ℕ) (chunk : Chunk) → flags mask (map (keep type) chunk) ≡ map (optional_normal keep (optional type)) (flags mask chunk)
flags_kept keep type [] chunk = refl
flags_kept keep type (flag ∷ mask) [] = refl
flags_kept keep type (zero ∷ mask) (element ∷ chunk) = λ i. absent ∷ flags_kept keep type mask chunk i
flags_kept keep type (suc flag ∷ mask) (element ∷ chunk) = λ i. present (keep type element) ∷ flags_kept keep type mask chunk i

pub optional_kept : (keep : Keeping) (type : ElementType) (count : ℕ) (inside kept : Held) (mask other : Raw) → validity (optional type) count (masked inside mask) ≡ Ok tt → other.items ≡ mask.items
    → Holds type kept (map (keep type) (elements type count inside)) → Holds (optional type) (masked kept other) (map (optional_normal keep (optional type)) (elements (optional type) count (masked inside mask)))
optional_kept keep type count inside kept mask other valid same h =
    let parts = both_ok _ _ valid in
    let long : length mask.items ≡ count = masked_fits InvalidBytesLength (optional type) count inside mask parts.1 in
    let also : length other.items ≡ count = ap length same ∙ long in
    let rows = map (optional_normal keep (optional type)) (elements (optional type) count (masked inside mask)) in
    let number : length rows ≡ count = length-map (elements (optional type) count (masked inside mask)) (optional_normal keep (optional type)) ∙ length-elements (optional type) count (masked inside mask) in
    let as_many : length (map (keep type) (elements type count inside)) ≡ count = length-map (elements type count inside) (keep type) ∙ length-elements type count inside in
    let fits : levels_fit InvalidBytesLength type count kept ≡ Ok tt = (both_ok _ _ (ap (λ n. validity type n kept) (sym as_many) ∙ h.valid)).1 in
    record {
      valid = ap (λ n. validity (optional type) n (masked kept other)) number ∙ then_ok _ _ parts.0 (then_ok _ _ (length_due InvalidBytesLength (length other.items) count also) fits);
      elements_are =
          ap (λ n. elements (optional type) n (masked kept other)) number
          ∙ elements-flags type count kept other also
          ∙ (λ i. flags (same i) ((ap (λ n. elements type n kept) (sym as_many) ∙ h.elements_are) i))
          ∙ flags_kept keep type mask.items (elements type count inside)
          ∙ ap (map (optional_normal keep (optional type))) (sym (elements-flags type count inside mask long));
    }

pub optional_other : (keep : Keeping) (type : ElementType) (count : ℕ) (held : Held) → inner_of type ≡ None → validity type count held ≡ Ok tt → Holds type held (map (optional_normal keep type) (elements type count held))
optional_other keep (fixed width components sign) count held v valid = held_same (fixed width components sign) count held valid
optional_other keep text count held v valid = held_same text count held valid
optional_other keep bytes count held v valid = held_same bytes count held valid
optional_other keep (optional type) count held v valid = absurd cc

-- ---- `packbits`

true_not_false : true ≡ false → ⊥
true_not_false h = cc

seen_err : {X Y : Type 0} (view : X → Y) (r : Result X CodecError) (cause : CodecError) → seen view r ≡ Err cause → r ≡ Err cause
seen_err view (Ok x) cause e = absurd cc
seen_err view (Err other) cause e = cc

demand_err : {L : Type 0} (test : Bool) (l : L) (cause : CodecError) → demand test Overflow >>= (λ _. ok l) ≡ Err cause → is_overflow cause ≡ true
demand_err true l cause e = absurd cc
demand_err false l cause e = let is : Overflow ≡ cause = cc in ap is_overflow (sym is)

count_err : {L : Type 0} (test : Bool) (n : ℕ) (f : ℕ → Bool) (g : ℕ → L) (cause : CodecError)
    → (if test then ok n else err Overflow) >>= (λ count. demand (f count) Overflow >>= λ _. ok (g count)) ≡ Err cause → is_overflow cause ≡ true
count_err true n f g cause e = demand_err (f n) (g n) cause e
count_err false n f g cause e = let is : Overflow ≡ cause = cc in ap is_overflow (sym is)

bits_err : {L : Type 0} (fits bits some : Bool) (r : Result L CodecError) (cause : CodecError) → fits ≡ true → some ≡ true
    → demand fits InvalidFillValue >>= (λ _. demand (bits && some) BitRange >>= λ _. r) ≡ Err cause → bits ≡ true → r ≡ Err cause
bits_err true true true r cause f s e b = e
bits_err true true false r cause f s e b = absurd cc
bits_err true false some r cause f s e b = absurd cc
bits_err false bits some r cause f s e b = absurd cc

-- without the bits it keeps each element as it is
not_packed : (settings : PackBitsSettings) (width components : ℕ) (sign : Bool) (row fill : List ℕ) (cause : CodecError) (bits : Bool) → has_bits settings width ≡ bits → 0 < components → fill_fits (fixed width components sign) fill ≡ true
    → packed_layout settings (form_of row (fixed width components sign) fill) ≡ Err cause → is_overflow cause ≡ false → bits ≡ false
not_packed settings width components sign row fill cause false b some fits e other = refl
not_packed settings width components sign row fill cause true b some fits e other =
    let left = bits_err (fill_fits (fixed width components sign) fill) (has_bits settings width) (nat_lt 0 components) (checked_u64 (product row) >>= λ count. demand (is_in_reach (layout_for settings count width components sign)) Overflow >>= λ _. ok (layout_for settings count width components sign)) cause fits (lt_test 0 components some) e b in
    let over = count_err (nat_lt (product row) (2 ^ 64)) (product row) (λ count. is_in_reach (layout_for settings count width components sign)) (λ count. layout_for settings count width components sign) cause left in
    absurd (true_not_false (sym over ∙ other))

kept_without : (settings : PackBitsSettings) (width components : ℕ) (sign : Bool) (element : Element) (bits : Bool) → has_bits settings width ≡ bits → bits ≡ false → packbits.normal_element settings (fixed width components sign) element ≡ element
kept_without settings width components sign element true b e = absurd cc
kept_without settings width components sign element false b e = rw b refl

-- so it is of any type that it rejects, but for want of room
pub packed_other : (settings : PackBitsSettings) (type : ElementType) (size : ℕ) (row fill : List ℕ) (cause : CodecError) (element : Element) → fixed_size_of type ≡ Some size → 0 < size → fill_fits type fill ≡ true
    → seen FixedSize (seen value_len (packed_layout settings (form_of row type fill))) ≡ Err cause → is_overflow cause ≡ false → packbits.normal_element settings type element ≡ element
packed_other settings (fixed width components sign) size row fill cause element e l fits h other =
    let is : element_size width components ≡ size = some_is (element_size width components) size e in
    let some : 0 < components = some_components components (component_bytes width) (omega (arith, is, l)) in
    let refused = seen_err value_len (packed_layout settings (form_of row (fixed width components sign) fill)) cause (seen_err FixedSize (seen value_len (packed_layout settings (form_of row (fixed width components sign) fill))) cause h) in
    kept_without settings width components sign element (has_bits settings width) refl (not_packed settings width components sign row fill cause (has_bits settings width) refl some fits refused other)
  where
    some_components : (a b : ℕ) → 0 < a * b → 0 < a
    some_components zero b l = absurd (omega (arith, l))
    some_components (suc a) b l = omega arith
packed_other settings text size row fill cause element e l fits h other = refl
packed_other settings bytes size row fill cause element e l fits h other = refl
packed_other settings (optional type) size row fill cause element e l fits h other = refl

pub packed_unfixed : (settings : PackBitsSettings) (type : ElementType) (element : Element) → fixed_size_of type ≡ None → packbits.normal_element settings type element ≡ element
packed_unfixed settings (fixed width components sign) element e = absurd cc
packed_unfixed settings text element e = refl
packed_unfixed settings bytes element e = refl
packed_unfixed settings (optional type) element e = refl

-- a container of elements that a codec keeps as they are
pub held_kept : (keep : Element → Element) (type : ElementType) (count : ℕ) (held : Held) → ((element : Element) → keep element ≡ element) → validity type count held ≡ Ok tt → Holds type held (map keep (elements type count held))
held_kept keep type count held same valid = subst (λ (c : Chunk). Holds type held c) (sym (map_same keep (elements type count held) same)) (holds_elements type count held valid)

-- ---- as the code opens them

pub all_kept_held : {B : Type 0} (codec : PlainCodec B) (type : ElementType) (count : ℕ) (held : Held) → KeepsAll codec → validity type count held ≡ Ok tt → Holds type held (normal_form codec type (elements type count held))
all_kept_held codec type count held same valid = held_kept (codec_normal_element codec type) type count held (same type) valid

pub packed_form : {B : Type 0} (codec : ArrayToBytesCodec B) (settings : PackBitsSettings) (type : ElementType) (chunk : Chunk) → codec ≡ PackBits settings → normal_form (plain_codec codec) type chunk ≡ normal_chunk settings type chunk
unfolding plain_codec meaning
packed_form codec settings type chunk e = ap (λ c. normal_form (plain_codec c) type chunk) e

sharding_form_of : {B : Type 0} (inner index : PlainChain B) (shape : List ℕ) (at_end : Bool) (type : ElementType) (chunk : Chunk) → normal_form (sharding_codec_of inner index shape at_end) type chunk ≡ normal_form inner.array_to_bytes type chunk
unfolding meaning
sharding_form_of inner index shape at_end type chunk = refl

pub sharding_form : {B : Type 0} (codec : ArrayToBytesCodec B) (inner : ShardingCodec B) (type : ElementType) (chunk : Chunk) → codec ≡ Sharding inner → normal_form (plain_codec codec) type chunk ≡ normal_form (plain_codec (out-ShardingCodec _ inner).codecs.value.array_to_bytes) type chunk
unfolding plain_codec
sharding_form codec inner type chunk e =
    ap (λ c. normal_form (plain_codec c) type chunk) e ∙ ap (λ p. normal_form p type chunk) (plain_sharding_at inner) ∙ sharding_form_of (plain_chain (out-ShardingCodec _ inner).codecs.value) _ _ _ type chunk

vlen_form_of : {B : Type 0} (index content : PlainChain B) (wide at_end : Bool) (type : ElementType) (chunk : Chunk) → normal_form (vlen_codec_of index content wide at_end) type chunk ≡ map (vlen_normal (codec_normal_element content.array_to_bytes) type) chunk
unfolding meaning
vlen_form_of index content wide at_end type chunk = refl

pub vlen_form : {B : Type 0} (codec : VlenCodec B) (type : ElementType) (chunk : Chunk) → normal_form (plain_vlen codec) type chunk ≡ map (vlen_normal (codec_normal_element (plain_codec (out-VlenCodec _ codec).data_codecs.value.array_to_bytes)) type) chunk
vlen_form codec type chunk = ap (λ p. normal_form p type chunk) (plain_vlen_at codec) ∙ vlen_form_of _ (plain_chain (out-VlenCodec _ codec).data_codecs.value) _ _ type chunk

optional_form_of : {B : Type 0} (mask content : PlainChain B) (type : ElementType) (chunk : Chunk) → normal_form (optional_codec_of mask content) type chunk ≡ map (optional_normal (codec_normal_element content.array_to_bytes) type) chunk
unfolding meaning
optional_form_of mask content type chunk = refl

pub optional_form : {B : Type 0} (codec : OptionalCodec B) (type : ElementType) (chunk : Chunk) → normal_form (plain_optional codec) type chunk ≡ map (optional_normal (codec_normal_element (plain_codec (out-OptionalCodec _ codec).data_codecs.value.array_to_bytes)) type) chunk
optional_form codec type chunk = ap (λ p. normal_form p type chunk) (plain_optional_at codec) ∙ optional_form_of _ (plain_chain (out-OptionalCodec _ codec).data_codecs.value) type chunk

pub vlen_untouched : {B : Type 0} (codec : VlenCodec B) (type : ElementType) (count : ℕ) (held : Held) → is_variable type ≡ false → validity type count held ≡ Ok tt → Holds type held (normal_form (plain_vlen codec) type (elements type count held))
vlen_untouched codec type count held v valid =
    subst (λ (c : Chunk). Holds type held c) (sym (vlen_form codec type (elements type count held))) (vlen_other (codec_normal_element (plain_codec (out-VlenCodec _ codec).data_codecs.value.array_to_bytes)) type count held v valid)

pub vlen_answered : {B : Type 0} (codec : VlenCodec B) (type : ElementType) (count : ℕ) (held kept : Held) (raw other : Raw) (offsets : List ℕ) (result : Result Held CodecError) → is_variable type ≡ true → validity type count held ≡ Ok tt
    → ok (raw, offsets) ≡ variable_part held → last_of offsets ≡ length raw.items
    → Holds byte_type kept (normal_form (plain_codec (out-VlenCodec _ codec).data_codecs.value.array_to_bytes) byte_type (elements byte_type (length raw.items) (flen raw))) → ok other ≡ fixed_part kept → result ≡ with_offsets other offsets
    → (held' : Held) × (result ≡ Ok held') × Holds type held' (normal_form (plain_vlen codec) type (elements type count held))
vlen_answered codec type count held kept raw other offsets result v valid parts ending h part answer =
    let content = plain_codec (out-VlenCodec _ codec).data_codecs.value.array_to_bytes in
    let keep = codec_normal_element content in
    let is : held ≡ vlen raw offsets = variable_is held raw offsets (sym parts) in
    let fixed_so : Holds byte_type (flen other) (map (keep byte_type) (elements byte_type (length raw.items) (flen raw))) = subst (λ (x : Held). Holds byte_type x (map (keep byte_type) (elements byte_type (length raw.items) (flen raw)))) (fixed_held kept other (sym part)) h in
    let same = bytes_kept keep (kept_is content) raw other (length raw.items) refl fixed_so in
    let made = with_kept keep raw other offsets ending same in
    let holds = vlen_kept keep type count raw other offsets v (subst (λ (x : Held). validity type count x ≡ Ok tt) is valid) same in (
      vlen other offsets,
      answer ∙ made,
      subst (λ (c : Chunk). Holds type (vlen other offsets) c) (ap (λ (x : Held). map (vlen_normal keep type) (elements type count x)) (sym is) ∙ sym (vlen_form codec type (elements type count held))) holds,
    )

pub optional_untouched : {B : Type 0} (codec : OptionalCodec B) (type : ElementType) (count : ℕ) (held : Held) → inner_of type ≡ None → validity type count held ≡ Ok tt → Holds type held (normal_form (plain_optional codec) type (elements type count held))
optional_untouched codec type count held v valid =
    subst (λ (c : Chunk). Holds type held c) (sym (optional_form codec type (elements type count held))) (optional_other (codec_normal_element (plain_codec (out-OptionalCodec _ codec).data_codecs.value.array_to_bytes)) type count held v valid)

mask_given : (result : Result Held CodecError) (kept : Held) (mask : Raw) (type : ElementType) (chunk : Chunk) → list_all (λ byte. nat_lt byte 2) mask.items ≡ true → Answers memory (λ (x : Held). x) result (with_mask kept mask) → Holds type (masked kept mask) chunk → AnswersBy memory (Holds type) result (Ok chunk)
mask_given (Ok x) kept mask type chunk flags h holds =
    let made : with_mask kept mask ≡ Ok (masked kept mask) = rw flags refl in
    subst (λ (y : Held). Holds type y chunk) (ok_is (masked kept mask) x (sym made ∙ h)) holds
mask_given (Err cause) kept mask type chunk flags h holds = λ quiet.
    let made : with_mask kept mask ≡ Ok (masked kept mask) = rw flags refl in
    absurd (ok_no_err (masked kept mask) cause (sym made ∙ h quiet))

pub optional_answered : {B : Type 0} (codec : OptionalCodec B) (type inner : ElementType) (count : ℕ) (held inside kept : Held) (mask : Raw) (result : Result Held CodecError) → inner_of type ≡ Some inner → validity type count held ≡ Ok tt
    → held ≡ masked inside mask → list_all (λ byte. nat_lt byte 2) mask.items ≡ true
    → Holds inner kept (normal_form (plain_codec (out-OptionalCodec _ codec).data_codecs.value.array_to_bytes) inner (elements inner count inside)) → Answers memory (λ (x : Held). x) result (with_mask kept mask)
    → AnswersBy memory (Holds type) result (Ok (normal_form (plain_optional codec) type (elements type count held)))
optional_answered codec type inner count held inside kept mask result e valid is flags h answer =
    let keep = codec_normal_element (plain_codec (out-OptionalCodec _ codec).data_codecs.value.array_to_bytes) in
    let t : type ≡ optional inner = optional_so type inner e in
    let here : validity (optional inner) count (masked inside mask) ≡ Ok tt = (λ i. validity (sym t i) count (sym is i)) ∙ valid in
    let holds : Holds (optional inner) (masked kept mask) (map (optional_normal keep (optional inner)) (elements (optional inner) count (masked inside mask))) = optional_kept keep inner count inside kept mask mask here refl h in
    let whole : Holds type (masked kept mask) (map (optional_normal keep type) (elements type count held)) = subst (λ (p : ElementType × Held). Holds p.0 (masked kept mask) (map (optional_normal keep p.0) (elements p.0 count p.1))) (λ i. (sym t i, sym is i)) holds in
    mask_given result kept mask type (normal_form (plain_optional codec) type (elements type count held)) flags answer (subst (λ (c : Chunk). Holds type (masked kept mask) c) (sym (optional_form codec type (elements type count held))) whole)
