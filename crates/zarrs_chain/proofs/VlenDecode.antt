-- What a codec `vlen` reads, step by step.
use Rattle.std.proofs.Common.{◌≡◌, ℕ, zero, suc, ◌+◌, ◌*◌, ◌-◌, ◌<◌, ◌≤◌, ◌^◌, ◌==◌, nat_lt, Bool, true, false, if◌then◌else◌, List, [], ◌∷◌, ◌++◌, length, map, map-id, take, drop, Result, Ok, Err, IsOk, IfOk, arith, refl, ap, sym, subst, ◌∙◌, eq-eqb}
use Rattle.std.specs.Prelude.{IsOkAnd}
use Rattle.std.specs.List.{concat}
use Rattle.std.proofs.lemmas.Bool.Decides.{nat_tests}
use Rattle.std.proofs.lemmas.List.{append_assoc, drop_at, length-append, take_at}
use Rattle.std.proofs.lemmas.List.Folds.{flat_map-map}
use Rattle.std.proofs.lemmas.List.FromFn.{length-map-range_with_len}
use Rattle.zarrs_chunk.specs.Answer.{◌>>=◌, Answers, AnswersBy, memory, demand, checked_u64, seen}
use Rattle.zarrs_chunk.specs.ChunkShape.{product}
use Rattle.zarrs_chunk.specs.declared.codec_error.CodecError.{CodecError}
use Rattle.zarrs_chunk.specs.declared.codec_error.CodecError.TheVariants.{InvalidBytesLength, InvalidOffsets, ArrayBytesKind, Overflow}
use Rattle.zarrs_data_type.specs.Element.{plain, Chunk}
use Rattle.zarrs_data_type.specs.ElementType.{ElementType, fixed, text, bytes, optional, is_variable}
use Rattle.zarrs_data_type.specs.FillValue.{fill_fits}
use Rattle.zarrs_array_bytes.specs.Elements.{cut, elements}
use Rattle.zarrs_array_bytes.specs.Held.{Held, Raw, flen, vlen, masked}
use Rattle.zarrs_array_bytes.specs.Offsets.{rises, last_of, offsets_of}
use Rattle.zarrs_array_bytes.specs.Parts.{fixed_part}
use Rattle.zarrs_array_bytes.specs.Pieces.{pieces}
use Rattle.zarrs_array_bytes.specs.Tight.{flush_with_offsets, without_front}
use Rattle.zarrs_array_bytes.specs.Validity.{Holds}
use Rattle.zarrs_array_bytes.proofs.FlushLemmas.{HoldsSame}
use Rattle.zarrs_array_bytes.proofs.OffsetLemmas.{flat_map-concat}
use Rattle.zarrs_array_bytes.proofs.Pieces.{concat-pieces, elements-pieces}
use Rattle.zarrs_array_bytes.proofs.ValidLemmas.{both_ok, fixed_fits}
use Rattle.zarrs_bytes.specs.ByteOrder.{bytes_of}
use Rattle.zarrs_codec.specs.BytesToBytesCodec.{BytesCodecs}
use Rattle.zarrs_chain_meaning.specs.Meaning.{Decoder, in_a_row}
use Rattle.zarrs_chain_meaning.specs.vlen.Vlen.{offsets_in_chunk, slices, vlen_value_parts, offset_bytes, offset_type, vlen_representation}
use Rattle.zarrs_chain_meaning.specs.CodecMeaning.{PlainCodec, PlainChain, vlen_codec_of, meaning, codec_representation, codec_chunk, chain_chunk}
use Rattle.zarrs_chain_meaning.specs.Parts.{all_bytes, byte_type}
use Rattle.zarrs_chain.specs.ChainView.{plain_chain, plain_vlen, plain_vlen_at}
use Rattle.zarrs_chain_meaning.specs.vlen.VlenSettings.{is_wide, is_at_end}
use Rattle.zarrs_chain_meaning.specs.vlen.VlenSteps.{data_part, read_offsets, index_offsets}
use Rattle.zarrs_chain.specs.declared.vlen.vlen_codec.VlenCodec.{VlenCodec, out-VlenCodec}
use Rattle.zarrs_bytes.proofs.Coding.{ok, bind_ok}
use Rattle.zarrs_chain_meaning.proofs.ArraySteps.{err, ok_is, ok_no_err, next_answer}
use Rattle.zarrs_chain_meaning.proofs.NestedParts.{vlen_cut}
use Rattle.zarrs_chain_meaning.proofs.VlenOffsets.{numbers_in, numbers_long, zero_fits, fixed_held, rises_are}
use Rattle.zarrs_chain_meaning.proofs.OptionalSteps.{chunk_long, part_long}
use Rattle.zarrs_chain_meaning.proofs.ChainSteps.{next_err, held_chunk}
use Rattle.zarrs_chain.proofs.ShardForms.{small_counted}

-- the bytes, so many, that a data part stands for through a chain
abbrev pub content_bytes : {B : Type 0} → BytesCodecs B → PlainChain B → ℕ → List ℕ → Result (List ℕ) CodecError
content_bytes f chain count part = seen all_bytes (in_a_row (Ok []) (λ sizes. chain_chunk f chain sizes byte_type (0 ∷ []) part) count)

-- ---- rows through a chain

some_chunk : (decode : Decoder) (type : ElementType) (fill : List ℕ) (count : ℕ) (part : List ℕ) → 0 < count → in_a_row (Ok []) (λ sizes. decode sizes type fill part) count ≡ decode (count ∷ []) type fill part
some_chunk decode type fill zero part l = absurd (omega arith)
some_chunk decode type fill (suc count) part l = refl

-- a container of elements of one size has their bytes
pub fixed_there : (width components : ℕ) (sign : Bool) (held : Held) (r : Result Chunk CodecError) (error : CodecError) → IsOkAnd r (Holds (fixed width components sign) held) → fixed_part held ≡ Err error → ⊥
fixed_there width components sign (flen raw) r error h e = cc
fixed_there width components sign (vlen raw offsets) r error h e = let c = held_chunk (fixed width components sign) (vlen raw offsets) r h in ok_no_err tt ArrayBytesKind (sym (both_ok _ _ c.2.valid).1)
fixed_there width components sign (masked inner mask) r error h e = let c = held_chunk (fixed width components sign) (masked inner mask) r h in ok_no_err tt ArrayBytesKind (sym (both_ok _ _ c.2.valid).1)

-- ---- the index

-- the offsets that the bytes of a container spell are those of the index
pub offsets_found : {B : Type 0} (f : BytesCodecs B) (chain : PlainChain B) (wide : Bool) (count : ℕ) (part : List ℕ) (held : Held) (raw : Raw) (numbers : List ℕ) → 0 < count
    → IsOkAnd (in_a_row (Ok []) (λ sizes. chain_chunk f chain sizes (offset_type wide) (offset_bytes wide 0) part) count) (Holds (offset_type wide) held) → fixed_part held ≡ Ok raw → numbers ≡ read_offsets wide raw.items
    → index_offsets f chain wide count part ≡ offsets_of numbers
offsets_found f chain wide count part held raw numbers some h is read =
    let c = held_chunk (offset_type wide) held (in_a_row (Ok []) (λ sizes. chain_chunk f chain sizes (offset_type wide) (offset_bytes wide 0) part) count) h in
    let holds : Holds (offset_type wide) (flen raw) c.0 = subst (λ (x : Held). Holds (offset_type wide) x c.0) (fixed_held held raw is) c.2 in
    let same : offsets_in_chunk wide c.0 ≡ numbers = sym (read ∙ numbers_in wide raw c.0 holds) in
    let long : length numbers ≡ count = ap length (sym same) ∙ numbers_long wide c.0 ∙ part_long f chain (offset_type wide) (offset_bytes wide 0) count part c.0 c.1 in
    let whole : chain_chunk f chain (count ∷ []) (offset_type wide) (offset_bytes wide 0) part ≡ Ok c.0 = sym (some_chunk (chain_chunk f chain) (offset_type wide) (offset_bytes wide 0) count part some) ∙ c.1 in
    rw whole (ap (λ (ns : List ℕ). demand (rises ns) InvalidOffsets >>= λ _. ok ns) same
    ∙ ap (λ b. demand b InvalidOffsets >>= λ _. ok numbers) (sym (rises_are numbers (omega (arith, long, some)))))

-- ---- the data

-- the bytes of single bytes
pub bytes_in : (raw : Raw) (chunk : Chunk) → Holds byte_type (flen raw) chunk → all_bytes chunk ≡ raw.items
bytes_in raw chunk h =
    let count = length chunk in
    let parts = pieces 1 count raw.items in
    let long : length raw.items ≡ count * 1 = fixed_fits InvalidBytesLength byte_type count raw 1 (both_ok _ _ h.valid).1 refl in
    let is : chunk ≡ map plain parts = sym h.elements_are ∙ elements-pieces 8 1 false count raw in
    ap all_bytes is ∙ flat_map-map bytes_of plain parts ∙ flat_map-concat (λ (part : List ℕ). part) parts ∙ ap concat (map-id parts) ∙ concat-pieces 1 count raw.items long

pub content_found : {B : Type 0} (f : BytesCodecs B) (chain : PlainChain B) (count : ℕ) (part : List ℕ) (held : Held) (raw : Raw)
    → IsOkAnd (in_a_row (Ok []) (λ sizes. chain_chunk f chain sizes byte_type (0 ∷ []) part) count) (Holds byte_type held) → fixed_part held ≡ Ok raw
    → content_bytes f chain count part ≡ Ok raw.items
content_found f chain count part held raw h is =
    let c = held_chunk byte_type held (in_a_row (Ok []) (λ sizes. chain_chunk f chain sizes byte_type (0 ∷ []) part) count) h in
    let holds : Holds byte_type (flen raw) c.0 = subst (λ (x : Held). Holds byte_type x c.0) (fixed_held held raw is) c.2 in
    rw c.1 (ap ok (bytes_in raw c.0 holds))

-- as many bytes as were asked for
pub content_long : {B : Type 0} (f : BytesCodecs B) (chain : PlainChain B) (count : ℕ) (part : List ℕ) (held : Held) (raw : Raw)
    → IsOkAnd (in_a_row (Ok []) (λ sizes. chain_chunk f chain sizes byte_type (0 ∷ []) part) count) (Holds byte_type held) → fixed_part held ≡ Ok raw → length raw.items ≡ count
content_long f chain count part held raw h is =
    let c = held_chunk byte_type held (in_a_row (Ok []) (λ sizes. chain_chunk f chain sizes byte_type (0 ∷ []) part) count) h in
    let holds : Holds byte_type (flen raw) c.0 = subst (λ (x : Held). Holds byte_type x c.0) (fixed_held held raw is) c.2 in
    let long : length raw.items ≡ length c.0 * 1 = fixed_fits InvalidBytesLength byte_type (length c.0) raw 1 (both_ok _ _ holds.valid).1 refl in
    omega (arith, long, part_long f chain byte_type (0 ∷ []) count part c.0 c.1)

-- ---- one level, as the code opens it

-- the parts, the offsets and the bytes
abbrev pub vlen_read : {B : Type 0} → BytesCodecs B → PlainChain B → PlainChain B → Bool → Bool → ℕ → List ℕ → Result Chunk CodecError
vlen_read f index content wide at_end count value =
    vlen_value_parts at_end value >>= λ parts. checked_u64 (count + 1) >>= λ _. index_offsets f index wide (count + 1) parts.0 >>= λ offsets. content_bytes f content (last_of offsets) parts.1 >>= λ items. ok (slices count offsets items)

bind_same : {A C : Type 0} (r : Result A CodecError) (f g : A → Result C CodecError) → ((x : A) → f x ≡ g x) → r >>= f ≡ r >>= g
bind_same (Ok x) f g h = h x
bind_same (Err e) f g h = refl

items_step : (s : Result Chunk CodecError) (g : List ℕ → Chunk) → s >>= (λ items. ok (g (all_bytes items))) ≡ seen all_bytes s >>= (λ items. ok (g items))
items_step (Ok items) g = refl
items_step (Err e) g = refl

counted_step : (r : Result ℕ CodecError) (found : Result (List ℕ) CodecError) (content : ℕ → Result Chunk CodecError) (count : ℕ)
    → r >>= (λ _. found) >>= (λ offsets. content (last_of offsets) >>= (λ items. ok (slices count offsets (all_bytes items))))
    ≡ r >>= (λ _. found >>= (λ offsets. seen all_bytes (content (last_of offsets)) >>= (λ items. ok (slices count offsets items))))
counted_step (Ok n) (Ok offsets) content count = items_step (content (last_of offsets)) (slices count offsets)
counted_step (Ok n) (Err e) content count = refl
counted_step (Err e) found content count = refl

pub read_is : {B : Type 0} (f : BytesCodecs B) (codec : PlainCodec B) (index content : PlainChain B) (wide at_end : Bool) (sizes : List ℕ) (type : ElementType) (fill value : List ℕ)
    → codec ≡ vlen_codec_of index content wide at_end → codec_chunk f codec sizes type fill value ≡ vlen_read f index content wide at_end (product sizes) value
unfolding meaning
read_is f codec index content wide at_end sizes type fill value e =
    let count = product sizes in
    ap (λ c. codec_chunk f c sizes type fill value) e
    ∙ bind_same (vlen_value_parts at_end value) _ _ (λ parts.
    counted_step (checked_u64 (count + 1)) (index_offsets f index wide (count + 1) parts.0) (λ n. in_a_row (Ok []) (λ sizes. chain_chunk f content sizes byte_type (0 ∷ []) parts.1) n) count)

bind_same_at : {A C : Type 0} (r : Result A CodecError) (f g : A → Result C CodecError) → ((x : A) → r ≡ Ok x → f x ≡ g x) → r >>= f ≡ r >>= g
bind_same_at (Ok x) f g h = h x refl
bind_same_at (Err e) f g h = refl

-- the data are what the length of the index leaves
data_is : (at_end : Bool) (value i d : List ℕ) → vlen_value_parts at_end value ≡ Ok (i, d) → data_part at_end (length i) value ≡ d
data_is false value i d e =
    let c = vlen_cut false value (i, d) e in
    let two : length (c.head ++ i) ≡ 8 + length i = omega (arith, length-append c.head i, c.head_size) in
    ap (drop (8 + length i)) (c.parts ∙ sym (append_assoc c.head i d)) ∙ drop_at (c.head ++ i) d (8 + length i) two
data_is true value i d e =
    let c = vlen_cut true value (i, d) e in
    let left : length d ≡ length value - 8 - length i = omega (arith, ap length c.parts, length-append d (i ++ c.head), length-append i c.head, c.head_size) in
    ap (take (length value - 8 - length i)) c.parts ∙ take_at d (i ++ c.head) (length value - 8 - length i) left

-- the same, where the data are cut by the length of the index
abbrev pub vlen_read_by : {B : Type 0} → BytesCodecs B → PlainChain B → PlainChain B → Bool → Bool → ℕ → List ℕ → Result Chunk CodecError
vlen_read_by f index content wide at_end count value =
    vlen_value_parts at_end value >>= λ parts. checked_u64 (count + 1) >>= λ _. index_offsets f index wide (count + 1) parts.0 >>= λ offsets. content_bytes f content (last_of offsets) (data_part at_end (length parts.0) value) >>= λ items. ok (slices count offsets items)

read_by : {B : Type 0} (f : BytesCodecs B) (index content : PlainChain B) (wide at_end : Bool) (count : ℕ) (value : List ℕ) → vlen_read f index content wide at_end count value ≡ vlen_read_by f index content wide at_end count value
read_by f index content wide at_end count value =
    bind_same_at (vlen_value_parts at_end value) _ _ (λ parts h.
    ap (λ d. checked_u64 (count + 1) >>= λ _. index_offsets f index wide (count + 1) parts.0 >>= λ offsets. content_bytes f content (last_of offsets) d >>= λ items. ok (slices count offsets items)) (sym (data_is at_end value parts.0 parts.1 h)))

pub vlen_read_at : {B : Type 0} (f : BytesCodecs B) (codec : VlenCodec B) (sizes : List ℕ) (type : ElementType) (fill value : List ℕ)
    → codec_chunk f (plain_vlen codec) sizes type fill value ≡ vlen_read_by f (plain_chain (out-VlenCodec _ codec).index_codecs.value) (plain_chain (out-VlenCodec _ codec).data_codecs.value) (is_wide (out-VlenCodec _ codec).index_data_type) (is_at_end (out-VlenCodec _ codec).index_location) (product sizes) value
vlen_read_at f codec sizes type fill value =
    read_is f (plain_vlen codec) (plain_chain (out-VlenCodec _ codec).index_codecs.value) (plain_chain (out-VlenCodec _ codec).data_codecs.value) (is_wide (out-VlenCodec _ codec).index_data_type) (is_at_end (out-VlenCodec _ codec).index_location) sizes type fill value (plain_vlen_at codec)
    ∙ read_by f (plain_chain (out-VlenCodec _ codec).index_codecs.value) (plain_chain (out-VlenCodec _ codec).data_codecs.value) (is_wide (out-VlenCodec _ codec).index_data_type) (is_at_end (out-VlenCodec _ codec).index_location) (product sizes) value

-- the container of the offsets and of as many bytes holds the elements
pub holds_slices : (type : ElementType) (raw : Raw) (offsets : List ℕ) (count : ℕ) → is_variable type ≡ true → length offsets ≡ count + 1 → count + 1 < 2 ^ 64 → Holds type (vlen raw offsets) (slices count offsets raw.items)
holds_slices (fixed width components sign) raw offsets count v long small = absurd cc
holds_slices text raw offsets count v long small =
    let number : length (slices count offsets raw.items) ≡ count = length-map-range_with_len (λ place. plain (cut offsets raw.items place)) 0 count in
    let fits : nat_lt (count + 1) (2 ^ 64) ≡ true = grind (arith, nat_tests) in
    let due : (length offsets == count + 1) ≡ true = eq-eqb (length offsets) (count + 1) long in
    record { valid = rw (number, fits, due) refl; elements_are = ap (λ n. elements text n (vlen raw offsets)) number }
holds_slices bytes raw offsets count v long small =
    let number : length (slices count offsets raw.items) ≡ count = length-map-range_with_len (λ place. plain (cut offsets raw.items place)) 0 count in
    let fits : nat_lt (count + 1) (2 ^ 64) ≡ true = grind (arith, nat_tests) in
    let due : (length offsets == count + 1) ≡ true = eq-eqb (length offsets) (count + 1) long in
    record { valid = rw (number, fits, due) refl; elements_are = ap (λ n. elements bytes n (vlen raw offsets)) number }
holds_slices (optional type) raw offsets count v long small = absurd cc

-- ---- the same, by what the code's calls answer

pub zero_fits_at : (wide : Bool) (type : ElementType) (fill : List ℕ) → type ≡ offset_type wide → ok (offset_bytes wide 0) ≡ ok fill → fill_fits type fill ≡ true
zero_fits_at wide type fill t e =
    let fill_so : offset_bytes wide 0 ≡ fill = ok_is (offset_bytes wide 0) fill e in
    (λ i. fill_fits (t i) (sym fill_so i)) ∙ zero_fits wide

-- the bytes of the container of the data
pub content_answered : {B X : Type 0} (view : X → Raw) (r : Result X CodecError) (f : BytesCodecs B) (chain : PlainChain B) (count : ℕ) (part : List ℕ) (held : Held) (fill : List ℕ) → ok (0 ∷ []) ≡ ok fill
    → IsOkAnd (in_a_row (Ok []) (λ sizes. chain_chunk f chain sizes byte_type fill part) count) (Holds byte_type held) → seen view r ≡ fixed_part held → Answers memory (λ x. (view x).items) r (content_bytes f chain count part)
content_answered view (Ok x) f chain count part held fill e h is =
    let so = subst (λ (u : List ℕ). IsOkAnd (in_a_row (Ok []) (λ sizes. chain_chunk f chain sizes byte_type u part) count) (Holds byte_type held)) (sym (ok_is (0 ∷ []) fill e)) h in
    content_found f chain count part held (view x) so (sym is)
content_answered view (Err error) f chain count part held fill e h is =
    absurd (fixed_there 8 1 false held (in_a_row (Ok []) (λ sizes. chain_chunk f chain sizes byte_type fill part) count) error h (sym is))

pub content_counted : {B X : Type 0} (view : X → Raw) (r : Result X CodecError) (f : BytesCodecs B) (chain : PlainChain B) (count : ℕ) (part : List ℕ) (held : Held) (fill : List ℕ) → ok (0 ∷ []) ≡ ok fill
    → IsOkAnd (in_a_row (Ok []) (λ sizes. chain_chunk f chain sizes byte_type fill part) count) (Holds byte_type held) → seen view r ≡ fixed_part held → IfOk r (λ x. length (view x).items ≡ count)
content_counted view (Ok x) f chain count part held fill e h is =
    let so = subst (λ (u : List ℕ). IsOkAnd (in_a_row (Ok []) (λ sizes. chain_chunk f chain sizes byte_type u part) count) (Holds byte_type held)) (sym (ok_is (0 ∷ []) fill e)) h in
    content_long f chain count part held (view x) so (sym is)
content_counted view (Err error) f chain count part held fill e h is = tt

same_answer : {A : Type 0} (r expected : Result A CodecError) → r ≡ expected → Answers memory (λ x. x) r expected
same_answer (Ok x) expected e = sym e
same_answer (Err error) expected e = λ _. sym e

pub bytes_there : (held : Held) (items : List ℕ) → ok items ≡ seen (λ (raw : Raw). raw.items) (fixed_part held) → (raw : Raw) × (fixed_part held ≡ Ok raw) × (items ≡ raw.items)
bytes_there (flen raw) items e = (raw, refl, ok_is items raw.items e)
bytes_there (vlen raw offsets) items e = absurd cc
bytes_there (masked inner mask) items e = absurd cc

-- the offsets of the container of the index
pub offsets_answered : {B : Type 0} (r : Result (List ℕ) CodecError) (f : BytesCodecs B) (chain : PlainChain B) (wide : Bool) (count : ℕ) (part : List ℕ) (held : Held) (type : ElementType) (fill items numbers : List ℕ) → 0 < count → type ≡ offset_type wide → ok (offset_bytes wide 0) ≡ ok fill
    → IsOkAnd (in_a_row (Ok []) (λ sizes. chain_chunk f chain sizes type fill part) count) (Holds type held) → ok items ≡ seen (λ (raw : Raw). raw.items) (fixed_part held) → ok (read_offsets wide items) ≡ ok numbers → r ≡ offsets_of numbers
    → Answers memory (λ x. x) r (index_offsets f chain wide count part)
offsets_answered r f chain wide count part held type fill items numbers some t e h is read made =
    let fill_so : offset_bytes wide 0 ≡ fill = ok_is (offset_bytes wide 0) fill e in
    let raw = bytes_there held items is in
    let so = subst (λ (u : ElementType). IsOkAnd (in_a_row (Ok []) (λ sizes. chain_chunk f chain sizes u (offset_bytes wide 0) part) count) (Holds u held)) t (subst (λ (u : List ℕ). IsOkAnd (in_a_row (Ok []) (λ sizes. chain_chunk f chain sizes type u part) count) (Holds type held)) (sym fill_so) h) in
    let numbers_so : numbers ≡ read_offsets wide raw.0.items = sym (ok_is (read_offsets wide items) numbers read) ∙ ap (read_offsets wide) raw.2 in
    same_answer r (index_offsets f chain wide count part) (made ∙ sym (offsets_found f chain wide count part held raw.0 numbers some so raw.1 numbers_so))

-- ---- errors and the answer, one level

-- past the parts
past_parts : {B : Type 0} (f : BytesCodecs B) (codec : PlainCodec B) (index content : PlainChain B) (wide at_end : Bool) (sizes : List ℕ) (type : ElementType) (fill value i d : List ℕ)
    → codec ≡ vlen_codec_of index content wide at_end → ok (i, d) ≡ vlen_value_parts at_end value
    → codec_chunk f codec sizes type fill value ≡ checked_u64 (product sizes + 1) >>= (λ _. index_offsets f index wide (product sizes + 1) i >>= λ offsets. content_bytes f content (last_of offsets) d >>= λ items. ok (slices (product sizes) offsets items))
past_parts f codec index content wide at_end sizes type fill value i d e h =
    read_is f codec index content wide at_end sizes type fill value e ∙ next_answer (vlen_value_parts at_end value) (i, d) _ (sym h)

past_count : {B : Type 0} (f : BytesCodecs B) (codec : PlainCodec B) (index content : PlainChain B) (wide at_end : Bool) (sizes : List ℕ) (type : ElementType) (fill value i d : List ℕ)
    → codec ≡ vlen_codec_of index content wide at_end → ok (i, d) ≡ vlen_value_parts at_end value → product sizes + 1 < 2 ^ 64
    → codec_chunk f codec sizes type fill value ≡ index_offsets f index wide (product sizes + 1) i >>= (λ offsets. content_bytes f content (last_of offsets) d >>= λ items. ok (slices (product sizes) offsets items))
past_count f codec index content wide at_end sizes type fill value i d e h l =
    past_parts f codec index content wide at_end sizes type fill value i d e h ∙ next_answer (checked_u64 (product sizes + 1)) (product sizes + 1) _ (small_counted (product sizes + 1) l)

pub read_index_refused : {B : Type 0} (f : BytesCodecs B) (codec : PlainCodec B) (index content : PlainChain B) (wide at_end : Bool) (sizes : List ℕ) (type : ElementType) (fill value i d : List ℕ) (error : CodecError)
    → codec ≡ vlen_codec_of index content wide at_end → ok (i, d) ≡ vlen_value_parts at_end value → product sizes + 1 < 2 ^ 64 → index_offsets f index wide (product sizes + 1) i ≡ Err error → codec_chunk f codec sizes type fill value ≡ Err error
read_index_refused f codec index content wide at_end sizes type fill value i d error e h l k =
    past_count f codec index content wide at_end sizes type fill value i d e h l ∙ next_err (index_offsets f index wide (product sizes + 1) i) error _ k

pub read_content_refused : {B : Type 0} (f : BytesCodecs B) (codec : PlainCodec B) (index content : PlainChain B) (wide at_end : Bool) (sizes : List ℕ) (type : ElementType) (fill value i d offsets : List ℕ) (error : CodecError)
    → codec ≡ vlen_codec_of index content wide at_end → ok (i, d) ≡ vlen_value_parts at_end value → product sizes + 1 < 2 ^ 64 → index_offsets f index wide (product sizes + 1) i ≡ Ok offsets → content_bytes f content (last_of offsets) d ≡ Err error → codec_chunk f codec sizes type fill value ≡ Err error
read_content_refused f codec index content wide at_end sizes type fill value i d offsets error e h l k m =
    past_count f codec index content wide at_end sizes type fill value i d e h l
    ∙ next_answer (index_offsets f index wide (product sizes + 1) i) offsets (λ offsets. content_bytes f content (last_of offsets) d >>= λ items. ok (slices (product sizes) offsets items)) k
    ∙ next_err (content_bytes f content (last_of offsets) d) error _ m

pub read_done : {B : Type 0} (f : BytesCodecs B) (codec : PlainCodec B) (index content : PlainChain B) (wide at_end : Bool) (sizes : List ℕ) (type : ElementType) (fill value i d offsets items : List ℕ)
    → codec ≡ vlen_codec_of index content wide at_end → ok (i, d) ≡ vlen_value_parts at_end value → product sizes + 1 < 2 ^ 64 → index_offsets f index wide (product sizes + 1) i ≡ Ok offsets → content_bytes f content (last_of offsets) d ≡ Ok items
    → codec_chunk f codec sizes type fill value ≡ Ok (slices (product sizes) offsets items)
read_done f codec index content wide at_end sizes type fill value i d offsets items e h l k m =
    past_count f codec index content wide at_end sizes type fill value i d e h l
    ∙ next_answer (index_offsets f index wide (product sizes + 1) i) offsets (λ offsets. content_bytes f content (last_of offsets) d >>= λ items. ok (slices (product sizes) offsets items)) k
    ∙ next_answer (content_bytes f content (last_of offsets) d) items (λ items. ok (slices (product sizes) offsets items)) m

-- the offsets are one more than elements
pub offsets_long : {B : Type 0} (f : BytesCodecs B) (chain : PlainChain B) (wide : Bool) (count : ℕ) (part offsets : List ℕ) → index_offsets f chain wide count part ≡ Ok offsets → length offsets ≡ count
offsets_long f chain wide count part offsets e =
    let rows = bind_ok (chain_chunk f chain (count ∷ []) (offset_type wide) (offset_bytes wide 0) part) _ offsets e in
    let rising = bind_ok (demand (rises (offsets_in_chunk wide rows.0)) InvalidOffsets) _ offsets rows.2 in
    let long = chunk_long f chain (count ∷ []) (offset_type wide) (offset_bytes wide 0) part rows.0 rows.1 in
    ap length (sym (ok_is (offsets_in_chunk wide rows.0) offsets rising.2)) ∙ numbers_long wide rows.0 ∙ omega (arith, long)

-- the index stands inside, and the data are what is left
pub index_inside : (at_end : Bool) (value i d : List ℕ) → ok (i, d) ≡ vlen_value_parts at_end value → 8 + length i ≤ length value
index_inside false value i d e =
    let c = vlen_cut false value (i, d) (sym e) in
    omega (arith, ap length c.parts, length-append c.head (i ++ d), length-append i d, c.head_size)
index_inside true value i d e =
    let c = vlen_cut true value (i, d) (sym e) in
    omega (arith, ap length c.parts, length-append d (i ++ c.head), length-append i c.head, c.head_size)

-- ---- the answer

counted_in : (test : Bool) (n count : ℕ) → nat_lt n (2 ^ 64) ≡ test → ok count ≡ (if test then ok n else err Overflow) → (n ≡ count) × (n < 2 ^ 64)
counted_in true n count t e = (sym (ok_is count n e), grind (arith, nat_tests, t))
counted_in false n count t e = absurd cc

count_test : (n count : ℕ) → ok count ≡ checked_u64 n → (n ≡ count) × (n < 2 ^ 64)
count_test n count e = counted_in (nat_lt n (2 ^ 64)) n count refl e

variable_so : (sizes : List ℕ) (type : ElementType) (fill : List ℕ) → IsOk (vlen_representation sizes type fill) → is_variable type ≡ true
variable_so sizes (fixed width components sign) fill h = absurd cc
variable_so sizes text fill h = refl
variable_so sizes bytes fill h = refl
variable_so sizes (optional type) fill h = absurd cc

taken_so : {B : Type 0} (f : BytesCodecs B) (codec : VlenCodec B) (sizes : List ℕ) (type : ElementType) (fill : List ℕ) → IsOk (codec_representation f (plain_vlen codec) sizes type fill) → is_variable type ≡ true
unfolding meaning
taken_so f codec sizes type fill h =
    variable_so sizes type fill (subst (λ c. IsOk (codec_representation f c sizes type fill)) (plain_vlen_at codec) h)

made_so : (raw : Raw) (offsets : List ℕ) → length raw.items ≡ last_of offsets → flush_with_offsets raw offsets ≡ Ok (without_front raw offsets)
made_so raw offsets e = let t : (last_of offsets == length raw.items) ≡ true = eq-eqb (last_of offsets) (length raw.items) (sym e) in rw t refl

-- the container that the code makes holds the chunk
pub vlen_answered : {B : Type 0} (f : BytesCodecs B) (codec : VlenCodec B) (sizes : List ℕ) (type : ElementType) (fill value : List ℕ) (r : Result Held CodecError) (i d offsets : List ℕ) (raw : Raw) (count : ℕ)
    → IsOk (codec_representation f (plain_vlen codec) sizes type fill) → ok (i, d) ≡ vlen_value_parts (is_at_end (out-VlenCodec _ codec).index_location) value → ok count ≡ checked_u64 (product sizes + 1)
    → index_offsets f (plain_chain (out-VlenCodec _ codec).index_codecs.value) (is_wide (out-VlenCodec _ codec).index_data_type) count i ≡ Ok offsets
    → content_bytes f (plain_chain (out-VlenCodec _ codec).data_codecs.value) (last_of offsets) (data_part (is_at_end (out-VlenCodec _ codec).index_location) (length i) value) ≡ Ok raw.items
    → length raw.items ≡ last_of offsets → r ≡ flush_with_offsets raw offsets → IfOk r (HoldsSame (vlen raw offsets)) → AnswersBy memory (Holds type) r (codec_chunk f (plain_vlen codec) sizes type fill value)
vlen_answered f codec sizes type fill value r i d offsets raw count taken parts counted index content long made same =
    let o = out-VlenCodec _ codec in
    let n = count_test (product sizes + 1) count counted in
    let many : index_offsets f (plain_chain o.index_codecs.value) (is_wide o.index_data_type) (product sizes + 1) i ≡ Ok offsets = ap (λ k. index_offsets f (plain_chain o.index_codecs.value) (is_wide o.index_data_type) k i) n.0 ∙ index in
    let rest : content_bytes f (plain_chain o.data_codecs.value) (last_of offsets) d ≡ Ok raw.items = ap (content_bytes f (plain_chain o.data_codecs.value) (last_of offsets)) (sym (data_is (is_at_end o.index_location) value i d (sym parts))) ∙ content in
    let chunk : codec_chunk f (plain_vlen codec) sizes type fill value ≡ Ok (slices (product sizes) offsets raw.items) =
    read_done f (plain_vlen codec) (plain_chain o.index_codecs.value) (plain_chain o.data_codecs.value) (is_wide o.index_data_type) (is_at_end o.index_location) sizes type fill value i d offsets raw.items (plain_vlen_at codec) parts n.1 many rest in
    let holds : Holds type (vlen raw offsets) (slices (product sizes) offsets raw.items) =
    holds_slices type raw offsets (product sizes) (taken_so f codec sizes type fill taken) (offsets_long f (plain_chain o.index_codecs.value) (is_wide o.index_data_type) (product sizes + 1) i offsets many) n.1 in
    let is : r ≡ Ok (without_front raw offsets) = made ∙ made_so raw offsets long in
    let kept : HoldsSame (vlen raw offsets) (without_front raw offsets) = subst (λ (x : Result Held CodecError). IfOk x (HoldsSame (vlen raw offsets))) is same in
    subst (λ x. AnswersBy memory (Holds type) x (codec_chunk f (plain_vlen codec) sizes type fill value)) (sym is)
    (subst (λ (x : Result Chunk CodecError). AnswersBy memory (Holds type) (Ok (without_front raw offsets)) x) (sym chunk) (kept type (slices (product sizes) offsets raw.items) holds))

-- errors, by the number of offsets that the code counts

pub index_refused_by : {B : Type 0} (f : BytesCodecs B) (codec : VlenCodec B) (sizes : List ℕ) (type : ElementType) (fill value i d : List ℕ) (count : ℕ) (error : CodecError)
    → ok (i, d) ≡ vlen_value_parts (is_at_end (out-VlenCodec _ codec).index_location) value → ok count ≡ checked_u64 (product sizes + 1)
    → index_offsets f (plain_chain (out-VlenCodec _ codec).index_codecs.value) (is_wide (out-VlenCodec _ codec).index_data_type) count i ≡ Err error → codec_chunk f (plain_vlen codec) sizes type fill value ≡ Err error
index_refused_by f codec sizes type fill value i d count error parts counted index =
    let o = out-VlenCodec _ codec in
    let n = count_test (product sizes + 1) count counted in
    read_index_refused f (plain_vlen codec) (plain_chain o.index_codecs.value) (plain_chain o.data_codecs.value) (is_wide o.index_data_type) (is_at_end o.index_location) sizes type fill value i d error (plain_vlen_at codec) parts n.1
    (ap (λ k. index_offsets f (plain_chain o.index_codecs.value) (is_wide o.index_data_type) k i) n.0 ∙ index)

pub content_refused_by : {B : Type 0} (f : BytesCodecs B) (codec : VlenCodec B) (sizes : List ℕ) (type : ElementType) (fill value i d offsets : List ℕ) (count : ℕ) (error : CodecError)
    → ok (i, d) ≡ vlen_value_parts (is_at_end (out-VlenCodec _ codec).index_location) value → ok count ≡ checked_u64 (product sizes + 1)
    → index_offsets f (plain_chain (out-VlenCodec _ codec).index_codecs.value) (is_wide (out-VlenCodec _ codec).index_data_type) count i ≡ Ok offsets
    → content_bytes f (plain_chain (out-VlenCodec _ codec).data_codecs.value) (last_of offsets) (data_part (is_at_end (out-VlenCodec _ codec).index_location) (length i) value) ≡ Err error → codec_chunk f (plain_vlen codec) sizes type fill value ≡ Err error
content_refused_by f codec sizes type fill value i d offsets count error parts counted index content =
    let o = out-VlenCodec _ codec in
    let n = count_test (product sizes + 1) count counted in
    read_content_refused f (plain_vlen codec) (plain_chain o.index_codecs.value) (plain_chain o.data_codecs.value) (is_wide o.index_data_type) (is_at_end o.index_location) sizes type fill value i d offsets error (plain_vlen_at codec) parts n.1
    (ap (λ k. index_offsets f (plain_chain o.index_codecs.value) (is_wide o.index_data_type) k i) n.0 ∙ index)
    (ap (content_bytes f (plain_chain o.data_codecs.value) (last_of offsets)) (sym (data_is (is_at_end o.index_location) value i d (sym parts))) ∙ content)
