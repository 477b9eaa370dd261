-- The steps of a chain's calls.
use Rattle.zarrs_data_type.specs.Form.{form_of}
use Rattle.std.proofs.Common.{◌≡◌, ◌&&◌, ℕ, suc, nat_lt, Bool, false, List, [], ◌∷◌, length, Result, Ok, Err, IfOk, Option, refl, ap, sym, subst, ◌∙◌, true}
use Rattle.std.proofs.lemmas.List.FromFn.{length-map-range_with_len}
use Rattle.zarrs_chunk.specs.Answer.{◌>>=◌, demand, seen, checked_u64, Answers, AnswersBy, memory}
use Rattle.zarrs_chunk.specs.ChunkShape.{product}
use Rattle.zarrs_chunk.specs.declared.codec_error.CodecError.{CodecError}
use Rattle.zarrs_chunk.specs.declared.codec_error.CodecError.TheVariants.{InvalidFillValue, BitRange}
use Rattle.zarrs_data_type.specs.ElementType.{ElementType, fixed, text, bytes, optional}
use Rattle.zarrs_data_type.specs.FillValue.{fill_fits}
use Rattle.zarrs_data_type.specs.Element.{plain, Chunk}
use Rattle.zarrs_data_type.specs.declared.endianness.Endianness.{Endianness}
use Rattle.zarrs_array_to_array.specs.ArrayToArrayCodec.{ArrayMapping}
use Rattle.zarrs_array_bytes.specs.Elements.{cut, elements}
use Rattle.zarrs_array_bytes.specs.Offsets.{last_of}
use Rattle.zarrs_array_bytes.specs.Held.{Held}
use Rattle.zarrs_array_bytes.specs.Validity.{validity, sizes_fit, Holds}
use Rattle.zarrs_codec.specs.BytesToBytesCodec.{BytesCodecs}
use Rattle.zarrs_codec.specs.CoordinateMap.{CoordinateMap, moved_chunk, inverse_map}
use Rattle.zarrs_codec.specs.MappedChunk.{encoded_chunk}
use Rattle.zarrs_codec.specs.declared.bytes_representation.BytesRepresentation.{BytesRepresentation}
use Rattle.zarrs_bytes.specs.BytesCodec.{bytes_length}
use Rattle.zarrs_packbits.specs.PackBitsSettings.{PackBitsSettings, packed_layout, packbits_length, has_bits}
use Rattle.zarrs_packbits.specs.PaddingByte.{value_len}
use Rattle.zarrs_array_to_array.proofs.CoordinateMaps.{length-moved}
use Rattle.zarrs_chain_meaning.specs.ArrayStages.{arrays_map, IsMapWhere}
use Rattle.zarrs_chain_meaning.specs.BytesStages.{outer_value, outer_bytes, outer_representation}
use Rattle.zarrs_chain_meaning.specs.Chain.{taken_form, codec_held_value, held_value}
use Rattle.zarrs_chain_meaning.specs.vlen.Vlen.{slices, vlen_value_parts, vlen_offsets, vlen_chunk}
use Rattle.zarrs_chain_meaning.specs.Parts.{all_bytes, byte_type, for_each}
use Rattle.zarrs_chain_meaning.specs.CodecMeaning.{PlainChain, codec_representation, chain_representation, codec_value, chain_value, codec_chunk, chain_chunk}
use Rattle.zarrs_chain_meaning.specs.Meaning.{Decoder, around_chunk, Measure, in_a_row}
use Rattle.zarrs_chain_meaning.specs.optional.Optional.{optional_parts, flag_in, under_flags, optional_chunk, flag_type, blank_fill}
use Rattle.zarrs_chain_meaning.proofs.NestedParts.{length_under}
use Rattle.zarrs_bytes.proofs.Coding.{ok, bind_ok}
use Rattle.zarrs_chain_meaning.proofs.ArraySteps.{err, at_ok, ok_is, counted_so, next_answer}
use Rattle.std.specs.Prelude.{is_ok}
use Rattle.zarrs_chain_meaning.proofs.OptionalFor.{count_set}

-- ---- what a chain takes

-- a chain that takes a chunk: what its array-to-array codecs do, and what its array-to-bytes codec makes of it
pub record IsTaken {B : Type 0} (f : BytesCodecs B) (chain : PlainChain B) (sizes : List ℕ) (type : ElementType) (fill encoded : List ℕ) (r : BytesRepresentation) : Type 0 where
  pub map_is : CoordinateMap
  pub mapped : arrays_map type chain.array_to_array sizes ≡ Ok map_is
  pub encoded_is : map_is.encoded ≡ encoded
  pub measured : codec_representation f chain.array_to_bytes map_is.encoded type fill ≡ Ok r

pub seen_ok : {X Y : Type 0} (view : X → Y) (r : Result X CodecError) (y : Y) → seen view r ≡ Ok y → (x : X) × (r ≡ Ok x) × (view x ≡ y)
seen_ok view (Ok x) y e = (x, refl, ok_is (view x) y e)
seen_ok view (Err error) y e = absurd cc

pub is_taken : {B : Type 0} (f : BytesCodecs B) (chain : PlainChain B) (sizes : List ℕ) (type : ElementType) (fill : List ℕ) (form : List ℕ × BytesRepresentation) → taken_form f chain sizes type fill ≡ Ok form → IsTaken f chain sizes type fill form.0 form.1
is_taken f chain sizes type fill form e =
    let a = bind_ok (seen (λ (m : CoordinateMap). m.encoded) (arrays_map type chain.array_to_array sizes)) _ form e in
    let m = seen_ok (λ (m : CoordinateMap). m.encoded) (arrays_map type chain.array_to_array sizes) a.0 a.1 in
    let c = bind_ok (codec_representation f chain.array_to_bytes a.0 type fill) _ form a.2 in
    let is : (a.0, c.0) ≡ form = ok_is (a.0, c.0) form c.2 in
    record {
      map_is = m.0;
      mapped = m.1;
      encoded_is = m.2 ∙ ap (λ (p : List ℕ × BytesRepresentation). p.0) is;
      measured = ap (λ s. codec_representation f chain.array_to_bytes s type fill) m.2 ∙ c.1 ∙ ap (λ (p : List ℕ × BytesRepresentation). ok p.1) is;
    }

-- ---- errors of the form

abbrev form_ok : List ℕ → BytesRepresentation → Result (List ℕ × BytesRepresentation) CodecError
form_ok sizes r = Ok (sizes, r)

cause_is : {A : Type 0} (cause error : CodecError) → err {A = A} cause ≡ err error → cause ≡ error
cause_is cause error e = cc

measured_so : (s : List ℕ) (r : Result BytesRepresentation CodecError) (error : CodecError) → r >>= (λ x. form_ok s x) ≡ err error
    → (X : Type 0) (g : BytesRepresentation → Result X CodecError) → r >>= g ≡ err error
measured_so s (Err cause) error e X g = ap err (cause_is cause error e)
measured_so s (Ok x) error e X g = absurd cc

form_refused : (a : Result CoordinateMap CodecError) (measure : List ℕ → Result BytesRepresentation CodecError) (error : CodecError)
    → seen (λ (m : CoordinateMap). m.encoded) a >>= (λ s. measure s >>= (λ r. form_ok s r)) ≡ err error
    → (X : Type 0) (g : CoordinateMap → BytesRepresentation → Result X CodecError) → a >>= (λ m. measure m.encoded >>= g m) ≡ err error
form_refused (Err cause) measure error e X g = ap err (cause_is cause error e)
form_refused (Ok m) measure error e X g = measured_so m.encoded (measure m.encoded) error e X (g m)

pub refused_representation : {B : Type 0} (f : BytesCodecs B) (chain : PlainChain B) (sizes : List ℕ) (type : ElementType) (fill : List ℕ) (error : CodecError) → taken_form f chain sizes type fill ≡ Err error → chain_representation f chain sizes type fill ≡ Err error
refused_representation f chain sizes type fill error e =
    form_refused (arrays_map type chain.array_to_array sizes) (λ s. codec_representation f chain.array_to_bytes s type fill) error e BytesRepresentation (λ m r. Ok (outer_representation f chain.bytes_to_bytes r))

pub next_err : {A C : Type 0} (r : Result A CodecError) (error : CodecError) (g : A → Result C CodecError) → r ≡ Err error → r >>= g ≡ Err error
next_err r error g a = rw a refl

-- a chain that doesn't take such chunks writes and reads none
pub refused_value : {B : Type 0} (f : BytesCodecs B) (chain : PlainChain B) (sizes : List ℕ) (type : ElementType) (fill : List ℕ) (held : Held) (error : CodecError) → taken_form f chain sizes type fill ≡ Err error → held_value f chain sizes type fill held ≡ Err error
refused_value f chain sizes type fill held error e =
    next_err (chain_representation f chain sizes type fill) error (λ _. validity type (product sizes) held >>= (λ _. chain_value f chain sizes type fill (elements type (product sizes) held))) (refused_representation f chain sizes type fill error e)

pub refused_chunk : {B : Type 0} (f : BytesCodecs B) (chain : PlainChain B) (sizes : List ℕ) (type : ElementType) (fill value : List ℕ) (error : CodecError) → taken_form f chain sizes type fill ≡ Err error → chain_chunk f chain sizes type fill value ≡ Err error
refused_chunk f chain sizes type fill value error e =
    form_refused (arrays_map type chain.array_to_array sizes) (λ s. codec_representation f chain.array_to_bytes s type fill) error e Chunk
    (λ m r. outer_bytes f chain.bytes_to_bytes r value >>= (λ below. codec_chunk f chain.array_to_bytes m.encoded type fill below >>= (λ chunk. Ok (moved_chunk (inverse_map sizes m) chunk))))

pub form_representation : {B : Type 0} (f : BytesCodecs B) (chain : PlainChain B) (sizes : List ℕ) (type : ElementType) (fill : List ℕ) (form : List ℕ × BytesRepresentation) → taken_form f chain sizes type fill ≡ Ok form → chain_representation f chain sizes type fill ≡ Ok (outer_representation f chain.bytes_to_bytes form.1)
form_representation f chain sizes type fill form e =
    let t = is_taken f chain sizes type fill form e in
    rw (t.mapped, t.measured) refl

-- ---- answers

pub is_ok_of : {A : Type 0} (r : Result A CodecError) (x : A) → r ≡ Ok x → is_ok r ≡ true
is_ok_of r x e = rw e refl

-- ---- counts

pub counted_bytes : (order : Option Endianness) (sizes : List ℕ) (type : ElementType) (fill : List ℕ) (len : ℕ) → bytes_length order (form_of sizes type fill) ≡ Ok len → checked_u64 (product sizes) ≡ Ok (product sizes)
counted_bytes order sizes (fixed width components sign) fill len e =
    let a = bind_ok (demand (fill_fits (fixed width components sign) fill) InvalidFillValue) _ len e in
    let b = bind_ok (checked_u64 (product sizes)) _ len a.2 in
    counted_so (product sizes) b.0 b.1
counted_bytes order sizes text fill len e = absurd cc
counted_bytes order sizes bytes fill len e = absurd cc
counted_bytes order sizes (optional type) fill len e = absurd cc

pub counted_packed : (settings : PackBitsSettings) (sizes : List ℕ) (type : ElementType) (fill : List ℕ) (len : ℕ) → packbits_length settings (form_of sizes type fill) ≡ Ok len → checked_u64 (product sizes) ≡ Ok (product sizes)
counted_packed settings sizes (fixed width components sign) fill len e =
    let l = seen_ok value_len (packed_layout settings (form_of sizes (fixed width components sign) fill)) len e in
    let a = bind_ok (demand (fill_fits (fixed width components sign) fill) InvalidFillValue) _ l.0 l.1 in
    let b = bind_ok (demand (has_bits settings width && nat_lt 0 components) BitRange) _ l.0 a.2 in
    let c = bind_ok (checked_u64 (product sizes)) _ l.0 b.2 in
    counted_so (product sizes) c.0 c.1
counted_packed settings sizes text fill len e = absurd cc
counted_packed settings sizes bytes fill len e = absurd cc
counted_packed settings sizes (optional type) fill len e = absurd cc

-- ---- encoding

both_ok : (r s : Result (Unit {0}) CodecError) → r >>= (λ _. s) ≡ Ok tt → r ≡ Ok tt
both_ok (Ok u) s h = refl
both_ok (Err e) s h = absurd cc

pub validity_fits : (type : ElementType) (count : ℕ) (held : Held) → validity type count held ≡ Ok tt → sizes_fit type count ≡ Ok tt
validity_fits type count held e = both_ok (sizes_fit type count) _ e

pub encoded_so : {B : Type 0} (f : BytesCodecs B) (chain : PlainChain B) (sizes : List ℕ) (type : ElementType) (fill : List ℕ) (held : Held) (encoded : List ℕ) (r : BytesRepresentation) (t : IsTaken f chain sizes type fill encoded r) → validity type (product sizes) held ≡ Ok tt
    → held_value f chain sizes type fill held ≡ codec_value f chain.array_to_bytes t.map_is.encoded type fill (moved_chunk t.map_is (elements type (product sizes) held)) >>= (λ below. outer_value f chain.bytes_to_bytes below)
encoded_so f chain sizes type fill held encoded r t valid =
    let fits = validity_fits type (product sizes) held valid in
    rw (t.mapped, t.measured, valid, fits) refl

-- the container that the array-to-array codecs make holds the moved chunk
pub moved_held : {B : Type 0} (f : BytesCodecs B) (chain : PlainChain B) (sizes : List ℕ) (type : ElementType) (fill : List ℕ) (held : Held) (encoded : List ℕ) (r : BytesRepresentation) (t : IsTaken f chain sizes type fill encoded r)
    → checked_u64 (product sizes) ≡ Ok (product sizes) → validity type (product sizes) held ≡ Ok tt
    → encoded_chunk (Ok tt) (arrays_map type chain.array_to_array sizes) type sizes held ≡ Ok (moved_chunk t.map_is (elements type (product sizes) held))
moved_held f chain sizes type fill held encoded r t counted valid = rw (t.mapped, counted, valid) refl

-- the value is what the array-to-bytes codec answers of that container, through the bytes-to-bytes codecs
pub value_through : {B : Type 0} (f : BytesCodecs B) (chain : PlainChain B) (sizes : List ℕ) (type : ElementType) (fill : List ℕ) (form : List ℕ × BytesRepresentation) (held made : Held)
    → IsMapWhere type chain.array_to_array sizes → taken_form f chain sizes type fill ≡ Ok form → checked_u64 (product sizes) ≡ Ok (product sizes) → validity type (product sizes) held ≡ Ok tt
    → IfOk (encoded_chunk (Ok tt) (arrays_map type chain.array_to_array sizes) type sizes held) (λ chunk. Holds type made chunk)
    → held_value f chain sizes type fill held ≡ codec_held_value f chain.array_to_bytes form.0 type fill made >>= (λ below. outer_value f chain.bytes_to_bytes below)
value_through f chain sizes type fill form held made maps e counted valid found =
    let t = is_taken f chain sizes type fill form e in
    let chunk = moved_chunk t.map_is (elements type (product sizes) held) in
    let holds : Holds type made chunk = at_ok (encoded_chunk (Ok tt) (arrays_map type chain.array_to_array sizes) type sizes held) (λ (c : Chunk). Holds type made c) chunk (moved_held f chain sizes type fill held form.0 form.1 t counted valid) found in
    let long : length chunk ≡ product t.map_is.encoded = length-moved t.map_is (elements type (product sizes) held) in
    let made_valid : validity type (product t.map_is.encoded) made ≡ Ok tt = subst (λ (k : ℕ). validity type k made ≡ Ok tt) long holds.valid in
    let made_is : elements type (product t.map_is.encoded) made ≡ chunk = subst (λ (k : ℕ). elements type k made ≡ chunk) long holds.elements_are in
    let inner : codec_held_value f chain.array_to_bytes t.map_is.encoded type fill made ≡ codec_value f chain.array_to_bytes t.map_is.encoded type fill chunk = rw (t.measured, made_valid) (ap (codec_value f chain.array_to_bytes t.map_is.encoded type fill) made_is) in
    encoded_so f chain sizes type fill held form.0 form.1 t valid
    ∙ ap (λ (r : Result (List ℕ) CodecError). r >>= (λ below. outer_value f chain.bytes_to_bytes below)) (sym inner)
    ∙ ap (λ s. codec_held_value f chain.array_to_bytes s type fill made >>= (λ below. outer_value f chain.bytes_to_bytes below)) t.encoded_is

pub two_ok : {A D C : Type 0} (r : Result A CodecError) (x : A) (s : A → Result D CodecError) (y : D) (g : D → Result C CodecError) → r ≡ Ok x → s x ≡ Ok y → r >>= (λ a. s a >>= g) ≡ g y
two_ok r x s y g a b = next_answer r x (λ z. s z >>= g) a ∙ next_answer (s x) y g b

pub value_last : {B X : Type 0} (view : X → List ℕ) (result : Result X CodecError) (f : BytesCodecs B) (chain : PlainChain B) (sizes : List ℕ) (type : ElementType) (fill : List ℕ) (form : List ℕ × BytesRepresentation) (held made : Held) (below : List ℕ)
    → IsMapWhere type chain.array_to_array sizes → taken_form f chain sizes type fill ≡ Ok form → checked_u64 (product sizes) ≡ Ok (product sizes) → validity type (product sizes) held ≡ Ok tt
    → IfOk (encoded_chunk (Ok tt) (arrays_map type chain.array_to_array sizes) type sizes held) (λ chunk. Holds type made chunk)
    → codec_held_value f chain.array_to_bytes form.0 type fill made ≡ Ok below
    → Answers memory view result (outer_value f chain.bytes_to_bytes below) → Answers memory view result (held_value f chain sizes type fill held)
value_last view result f chain sizes type fill form held made below maps e counted valid found inner h =
    let is : held_value f chain sizes type fill held ≡ outer_value f chain.bytes_to_bytes below = value_through f chain sizes type fill form held made maps e counted valid found ∙ next_answer (codec_held_value f chain.array_to_bytes form.0 type fill made) below (λ b. outer_value f chain.bytes_to_bytes b) inner in
    subst (λ (x : Result (List ℕ) CodecError). Answers memory view result x) (sym is) h

pub value_refused : {B : Type 0} (f : BytesCodecs B) (chain : PlainChain B) (sizes : List ℕ) (type : ElementType) (fill : List ℕ) (form : List ℕ × BytesRepresentation) (held made : Held) (error : CodecError)
    → IsMapWhere type chain.array_to_array sizes → taken_form f chain sizes type fill ≡ Ok form → checked_u64 (product sizes) ≡ Ok (product sizes) → validity type (product sizes) held ≡ Ok tt
    → IfOk (encoded_chunk (Ok tt) (arrays_map type chain.array_to_array sizes) type sizes held) (λ chunk. Holds type made chunk)
    → (memory error ≡ false → codec_held_value f chain.array_to_bytes form.0 type fill made ≡ Err error)
    → memory error ≡ false → held_value f chain sizes type fill held ≡ Err error
value_refused f chain sizes type fill form held made error maps e counted valid found inner ne =
    value_through f chain sizes type fill form held made maps e counted valid found ∙ next_err (codec_held_value f chain.array_to_bytes form.0 type fill made) error (λ b. outer_value f chain.bytes_to_bytes b) (inner ne)

-- ---- decoding

-- the chunk is what the array-to-array codecs make of what the array-to-bytes codec reads
pub chunk_through : {B : Type 0} (f : BytesCodecs B) (chain : PlainChain B) (sizes : List ℕ) (type : ElementType) (fill : List ℕ) (form : List ℕ × BytesRepresentation) (value : List ℕ)
    → (e : taken_form f chain sizes type fill ≡ Ok form)
    → chain_chunk f chain sizes type fill value ≡ outer_bytes f chain.bytes_to_bytes form.1 value >>= (λ below. codec_chunk f chain.array_to_bytes form.0 type fill below >>= (λ chunk. Ok (moved_chunk (inverse_map sizes (is_taken f chain sizes type fill form e).map_is) chunk)))
chunk_through f chain sizes type fill form value e =
    let t = is_taken f chain sizes type fill form e in
    let whole : chain_chunk f chain sizes type fill value ≡ outer_bytes f chain.bytes_to_bytes form.1 value >>= (λ below. codec_chunk f chain.array_to_bytes t.map_is.encoded type fill below >>= (λ chunk. Ok (moved_chunk (inverse_map sizes t.map_is) chunk))) = rw (t.mapped, t.measured) refl in
    whole ∙ ap (λ s. outer_bytes f chain.bytes_to_bytes form.1 value >>= (λ below. codec_chunk f chain.array_to_bytes s type fill below >>= (λ chunk. Ok (moved_chunk (inverse_map sizes t.map_is) chunk)))) t.encoded_is

-- an error of the bytes-to-bytes codecs, and of the array-to-bytes codec, is that of the chain
pub unopened : {B : Type 0} (f : BytesCodecs B) (chain : PlainChain B) (sizes : List ℕ) (type : ElementType) (fill : List ℕ) (form : List ℕ × BytesRepresentation) (value : List ℕ) (error : CodecError)
    → taken_form f chain sizes type fill ≡ Ok form → outer_bytes f chain.bytes_to_bytes form.1 value ≡ Err error → chain_chunk f chain sizes type fill value ≡ Err error
unopened f chain sizes type fill form value error e h =
    chunk_through f chain sizes type fill form value e ∙ next_err (outer_bytes f chain.bytes_to_bytes form.1 value) error (λ below. codec_chunk f chain.array_to_bytes form.0 type fill below >>= (λ chunk. Ok (moved_chunk (inverse_map sizes (is_taken f chain sizes type fill form e).map_is) chunk))) h

pub unread : {B : Type 0} (f : BytesCodecs B) (chain : PlainChain B) (sizes : List ℕ) (type : ElementType) (fill : List ℕ) (form : List ℕ × BytesRepresentation) (value below : List ℕ) (error : CodecError)
    → taken_form f chain sizes type fill ≡ Ok form → outer_bytes f chain.bytes_to_bytes form.1 value ≡ Ok below → codec_chunk f chain.array_to_bytes form.0 type fill below ≡ Err error → chain_chunk f chain sizes type fill value ≡ Err error
unread f chain sizes type fill form value below error e opened h =
    let back = λ (chunk : Chunk). ok (moved_chunk (inverse_map sizes (is_taken f chain sizes type fill form e).map_is) chunk) in
    chunk_through f chain sizes type fill form value e ∙ next_answer (outer_bytes f chain.bytes_to_bytes form.1 value) below (λ b. codec_chunk f chain.array_to_bytes form.0 type fill b >>= back) opened
    ∙ next_err (codec_chunk f chain.array_to_bytes form.0 type fill below) error back h

flags_long : (chunk : Chunk) (flags : List Bool) → for_each flag_in chunk ≡ ok flags → length flags ≡ length chunk
flags_long [] flags e = ap length (sym (ok_is [] flags e))
flags_long (element ∷ chunk) flags e =
    let a = bind_ok (flag_in element) _ flags e in
    let b = bind_ok (for_each flag_in chunk) _ flags a.2 in
    ap length (sym (ok_is (a.0 ∷ b.0) flags b.2)) ∙ ap suc (flags_long chunk b.0 b.1)

pub around_long : {B : Type 0} (f : BytesCodecs B) (arrays : List ArrayMapping) (measure : Measure) (content : Decoder) (outer : List B) (sizes : List ℕ) (type : ElementType) (fill value : List ℕ) (chunk : Chunk) → around_chunk f arrays measure content outer sizes type fill value ≡ Ok chunk → length chunk ≡ product sizes
around_long f arrays measure content outer sizes type fill value chunk e =
    let m = bind_ok (arrays_map type arrays sizes) _ chunk e in
    let r = bind_ok (measure m.0.encoded type fill) _ chunk m.2 in
    let below = bind_ok (outer_bytes f outer r.0 value) _ chunk r.2 in
    let c = bind_ok (content m.0.encoded type fill below.0) _ chunk below.2 in
    ap length (sym (ok_is (moved_chunk (inverse_map sizes m.0) c.0) chunk c.2)) ∙ length-moved (inverse_map sizes m.0) c.0

pub vlen_long : (wide at_end : Bool) (index content : Decoder) (count : ℕ) (value : List ℕ) (chunk : Chunk) → vlen_chunk wide at_end index content count value ≡ Ok chunk → length chunk ≡ count
vlen_long wide at_end index content count value chunk e =
    let parts = bind_ok (vlen_value_parts at_end value) _ chunk e in
    let offsets = bind_ok (vlen_offsets wide index count parts.0.0) _ chunk parts.2 in
    let items = bind_ok (in_a_row (Ok []) (λ sizes. content sizes byte_type (0 ∷ []) parts.0.1) (last_of offsets.0)) _ chunk offsets.2 in
    ap length (sym (ok_is (slices count offsets.0 (all_bytes items.0)) chunk items.2)) ∙ length-map-range_with_len (λ place. plain (cut offsets.0 (all_bytes items.0) place)) 0 count

pub optional_long : (mask content : Decoder) (sizes : List ℕ) (type : ElementType) (value : List ℕ) (chunk : Chunk) → ((part : List ℕ) (flags : Chunk) → mask sizes flag_type (0 ∷ []) part ≡ Ok flags → length flags ≡ product sizes)
    → optional_chunk mask content sizes (optional type) value ≡ Ok chunk → length chunk ≡ product sizes
optional_long mask content sizes type value chunk long e =
    let parts = bind_ok (optional_parts value) _ chunk e in
    let flags = bind_ok (mask sizes flag_type (0 ∷ []) parts.0.0) _ chunk parts.2 in
    let bits = bind_ok (for_each flag_in flags.0) _ chunk flags.2 in
    let items = bind_ok (in_a_row (Ok []) (λ sizes. content sizes type (blank_fill type) parts.0.1) (count_set bits.0)) _ chunk bits.2 in
    ap length (sym (ok_is (under_flags bits.0 items.0) chunk items.2)) ∙ length_under bits.0 items.0 ∙ flags_long flags.0 bits.0 bits.1 ∙ long parts.0.0 flags.0 flags.1

pub held_chunk : (type : ElementType) (held : Held) (r : Result Chunk CodecError) → AnswersBy memory (Holds type) (Ok held) r → (chunk : Chunk) × (r ≡ Ok chunk) × Holds type held chunk
held_chunk type held (Ok chunk) h = (chunk, refl, h)
held_chunk type held (Err error) h = absurd h
