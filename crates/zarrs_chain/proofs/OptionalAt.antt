-- One level of the codec `optional`, as the code opens it.
use Rattle.std.proofs.Common.{◌≡◌, ℕ, nat_lt, true, List, [], ◌∷◌, Result, Ok, Err, refl, ap, sym, subst, ◌∙◌, ◌+◌}
use Rattle.std.specs.List.{list_all}
use Rattle.std.specs.Prelude.{IfOk, IsOk}
use Rattle.zarrs_chunk.specs.Answer.{◌>>=◌, demand, checked_u64, Answers, AnswersBy, memory}
use Rattle.zarrs_chunk.specs.ChunkShape.{product}
use Rattle.zarrs_chunk.specs.declared.codec_error.CodecError.{CodecError}
use Rattle.zarrs_chunk.specs.declared.codec_error.CodecError.TheVariants.{InvalidFillValue}
use Rattle.zarrs_data_type.specs.ElementType.{ElementType, optional}
use Rattle.zarrs_data_type.specs.Element.{Chunk}
use Rattle.zarrs_data_type.specs.FillValue.{fill_fits}
use Rattle.zarrs_array_bytes.specs.Tight.{IsTight}
use Rattle.zarrs_array_bytes.specs.Elements.{elements}
use Rattle.zarrs_array_bytes.specs.Held.{Raw, Held, masked}
use Rattle.zarrs_array_bytes.specs.Present.{present_count, present_chunk}
use Rattle.zarrs_array_bytes.specs.Validity.{validity, Holds}
use Rattle.zarrs_codec.specs.BytesToBytesCodec.{BytesCodecs}
use Rattle.zarrs_codec.specs.declared.bytes_representation.BytesRepresentation.{BytesRepresentation}
use Rattle.zarrs_chain_meaning.specs.BytesStages.{in_memory}
use Rattle.zarrs_chain_meaning.specs.Chain.{held_part, codec_held_value}
use Rattle.zarrs_chain.specs.ChainView.{plain_chain, plain_optional, plain_optional_at}
use Rattle.zarrs_chain_meaning.specs.optional.Optional.{optional_parts, optional_layout, optional_value, flag_type, blank_fill, bounded_total}
use Rattle.zarrs_chain_meaning.specs.CodecMeaning.{PlainCodec, codec_representation, chain_representation, codec_value, chain_value, codec_chunk, chain_chunk}
use Rattle.zarrs_chain_meaning.specs.Parts.{byte_elements}
use Rattle.zarrs_chain_meaning.specs.optional.OptionalParts.{optional_inner, present_part}
use Rattle.zarrs_chain.specs.declared.optional.optional_codec.OptionalCodec.{OptionalCodec, out-OptionalCodec}
use Rattle.zarrs_bytes.proofs.Coding.{ok}
use Rattle.zarrs_chain_meaning.proofs.OptionalSteps.{representation_opened, representation_counted, inner_is, mask_not_written, part_not_written, both_written, part_written, value_by_mask, value_opened, chunk_opened, chunk_answers}

-- ---- representation

pub representation_at : {B : Type 0} (f : BytesCodecs B) (codec : OptionalCodec B) (sizes : List ℕ) (type : ElementType) (fill : List ℕ)
    → codec_representation f (plain_optional codec) sizes type fill
    ≡ optional_inner type >>= (λ inner. demand (fill_fits type fill) InvalidFillValue >>= (λ _. checked_u64 (product sizes) >>= (λ _. chain_representation f (plain_chain (out-OptionalCodec _ codec).mask_codecs.value) sizes flag_type (0 ∷ []) >>= (λ m. chain_representation f (plain_chain (out-OptionalCodec _ codec).data_codecs.value) sizes inner (blank_fill inner) >>= (λ d. ok (bounded_total (λ mask content. 16 + mask + content) m d))))))
representation_at f codec sizes type fill =
    ap (λ x. codec_representation f x sizes type fill) (plain_optional_at codec)
    ∙ representation_opened f (plain_chain (out-OptionalCodec _ codec).mask_codecs.value) (plain_chain (out-OptionalCodec _ codec).data_codecs.value) sizes type fill

pub ok_of : {X : Type 0} (r : Result X CodecError) → IsOk r → (x : X) × (r ≡ Ok x)
ok_of (Ok x) taken = (x, refl)
ok_of (Err cause) taken = absurd cc

pub counted_at : {B : Type 0} (f : BytesCodecs B) (codec : OptionalCodec B) (sizes : List ℕ) (type : ElementType) (fill : List ℕ) → IsOk (codec_representation f (plain_optional codec) sizes type fill) → checked_u64 (product sizes) ≡ Ok (product sizes)
counted_at f codec sizes type fill taken =
    let known = ok_of (codec_representation f (plain_optional codec) sizes type fill) taken in
    representation_counted f (plain_chain (out-OptionalCodec _ codec).mask_codecs.value) (plain_chain (out-OptionalCodec _ codec).data_codecs.value) sizes type fill known.0 (sym (ap (λ x. codec_representation f x sizes type fill) (plain_optional_at codec)) ∙ known.1)

-- ---- encoding

pub inner_refused_at : {B : Type 0} (f : BytesCodecs B) (codec : OptionalCodec B) (sizes : List ℕ) (type : ElementType) (fill : List ℕ) (held : Held) (cause : CodecError) → optional_inner type ≡ Err cause → codec_held_value f (plain_optional codec) sizes type fill held ≡ Err cause
inner_refused_at f codec sizes type fill held cause e =
    let refused : codec_representation f (plain_optional codec) sizes type fill ≡ Err cause = representation_at f codec sizes type fill ∙ rw e refl in
    rw refused refl

value_opened_at : {B : Type 0} (f : BytesCodecs B) (codec : OptionalCodec B) (sizes : List ℕ) (type : ElementType) (fill : List ℕ) (chunk : Chunk)
    → codec_value f (plain_optional codec) sizes type fill chunk ≡ optional_value (chain_value f (plain_chain (out-OptionalCodec _ codec).mask_codecs.value)) (chain_value f (plain_chain (out-OptionalCodec _ codec).data_codecs.value)) sizes type chunk
value_opened_at f codec sizes type fill chunk =
    ap (λ x. codec_value f x sizes type fill chunk) (plain_optional_at codec)
    ∙ value_opened f (plain_chain (out-OptionalCodec _ codec).mask_codecs.value) (plain_chain (out-OptionalCodec _ codec).data_codecs.value) sizes type fill chunk

pub mask_refused_at : {B : Type 0} (f : BytesCodecs B) (codec : OptionalCodec B) (sizes : List ℕ) (type : ElementType) (held inner : Held) (mask : Raw) (cause : CodecError) → held ≡ masked inner mask → list_all (λ byte. nat_lt byte 2) mask.items ≡ true → validity (optional type) (product sizes) held ≡ Ok tt
    → chain_value f (plain_chain (out-OptionalCodec _ codec).mask_codecs.value) sizes flag_type (0 ∷ []) (byte_elements mask.items) ≡ Err cause
    → codec_value f (plain_optional codec) sizes (optional type) [] (elements (optional type) (product sizes) held) ≡ Err cause
mask_refused_at f codec sizes type held inner mask cause is flags valid e =
    value_opened_at f codec sizes (optional type) [] (elements (optional type) (product sizes) held)
    ∙ mask_not_written (chain_value f (plain_chain (out-OptionalCodec _ codec).mask_codecs.value)) (chain_value f (plain_chain (out-OptionalCodec _ codec).data_codecs.value)) sizes type held inner mask cause is flags valid e

pub part_refused_at : {B : Type 0} (f : BytesCodecs B) (codec : OptionalCodec B) (sizes m : List ℕ) (type : ElementType) (held inner present : Held) (mask : Raw) (count : ℕ) (cause : CodecError) → held ≡ masked inner mask → list_all (λ byte. nat_lt byte 2) mask.items ≡ true → validity (optional type) (product sizes) held ≡ Ok tt → present_count mask.items ≡ Ok count
    → AnswersBy {E = CodecError} memory (Holds type) (Ok present) (present_chunk type inner mask.items)
    → chain_value f (plain_chain (out-OptionalCodec _ codec).mask_codecs.value) sizes flag_type (0 ∷ []) (byte_elements mask.items) ≡ Ok m
    → held_part f (plain_chain (out-OptionalCodec _ codec).data_codecs.value) count type (blank_fill type) present ≡ Err cause
    → codec_value f (plain_optional codec) sizes (optional type) [] (elements (optional type) (product sizes) held) ≡ Err cause
part_refused_at f codec sizes m type held inner present mask count cause is flags valid counted gives e h =
    value_opened_at f codec sizes (optional type) [] (elements (optional type) (product sizes) held)
    ∙ part_not_written f (chain_value f (plain_chain (out-OptionalCodec _ codec).mask_codecs.value)) (plain_chain (out-OptionalCodec _ codec).data_codecs.value) sizes m type held inner present mask count cause is flags valid counted gives e h

pub content_at : {B : Type 0} (f : BytesCodecs B) (codec : OptionalCodec B) (sizes : List ℕ) (type : ElementType) (held inner present : Held) (mask : Raw) (count : ℕ) → held ≡ masked inner mask → list_all (λ byte. nat_lt byte 2) mask.items ≡ true → validity (optional type) (product sizes) held ≡ Ok tt → present_count mask.items ≡ Ok count
    → AnswersBy {E = CodecError} memory (Holds type) (Ok present) (present_chunk type inner mask.items)
    → codec_value f (plain_optional codec) sizes (optional type) [] (elements (optional type) (product sizes) held)
    ≡ chain_value f (plain_chain (out-OptionalCodec _ codec).mask_codecs.value) sizes flag_type (0 ∷ []) (byte_elements mask.items) >>= (λ m. held_part f (plain_chain (out-OptionalCodec _ codec).data_codecs.value) count type (blank_fill type) present >>= (λ d. in_memory (optional_layout m d)))
content_at f codec sizes type held inner present mask count is flags valid counted gives =
    let me = chain_value f (plain_chain (out-OptionalCodec _ codec).mask_codecs.value) in
    let content = plain_chain (out-OptionalCodec _ codec).data_codecs.value in
    value_opened_at f codec sizes (optional type) [] (elements (optional type) (product sizes) held)
    ∙ value_by_mask me (chain_value f content) sizes type held inner mask is flags valid
    ∙ (λ i. me sizes flag_type (0 ∷ []) (byte_elements mask.items) >>= (λ m. sym (part_written f content sizes type held inner present mask count is valid counted gives) i >>= (λ d. in_memory (optional_layout m d))))

pub written_at : {B X : Type 0} (view : X → List ℕ) (result : Result X CodecError) (f : BytesCodecs B) (codec : OptionalCodec B) (sizes m d : List ℕ) (type : ElementType) (held inner present : Held) (mask : Raw) (count : ℕ) → held ≡ masked inner mask → list_all (λ byte. nat_lt byte 2) mask.items ≡ true → validity (optional type) (product sizes) held ≡ Ok tt → present_count mask.items ≡ Ok count
    → AnswersBy {E = CodecError} memory (Holds type) (Ok present) (present_chunk type inner mask.items)
    → chain_value f (plain_chain (out-OptionalCodec _ codec).mask_codecs.value) sizes flag_type (0 ∷ []) (byte_elements mask.items) ≡ Ok m
    → held_part f (plain_chain (out-OptionalCodec _ codec).data_codecs.value) count type (blank_fill type) present ≡ Ok d → Answers memory view result (in_memory (optional_layout m d))
    → Answers memory view result (codec_value f (plain_optional codec) sizes (optional type) [] (elements (optional type) (product sizes) held))
written_at view result f codec sizes m d type held inner present mask count is flags valid counted gives e h joined =
    subst (λ (x : Result (List ℕ) CodecError). Answers memory view result x) (sym (value_opened_at f codec sizes (optional type) [] (elements (optional type) (product sizes) held)))
    (both_written view result f (chain_value f (plain_chain (out-OptionalCodec _ codec).mask_codecs.value)) (plain_chain (out-OptionalCodec _ codec).data_codecs.value) sizes m d type held inner present mask count is flags valid counted gives e h joined)

-- what the codec answers for a container that it takes
value_taken_at : {B : Type 0} (f : BytesCodecs B) (codec : OptionalCodec B) (sizes : List ℕ) (type : ElementType) (fill : List ℕ) (held : Held) (r : BytesRepresentation) → codec_representation f (plain_optional codec) sizes type fill ≡ Ok r → validity type (product sizes) held ≡ Ok tt
    → codec_held_value f (plain_optional codec) sizes type fill held ≡ codec_value f (plain_optional codec) sizes type [] (elements type (product sizes) held)
value_taken_at f codec sizes type fill held r taken valid =
    let first : codec_held_value f (plain_optional codec) sizes type fill held ≡ codec_value f (plain_optional codec) sizes type fill (elements type (product sizes) held) = rw (taken, valid) refl in
    first ∙ value_opened_at f codec sizes type fill (elements type (product sizes) held) ∙ sym (value_opened_at f codec sizes type [] (elements type (product sizes) held))

-- a container that it doesn't take
pub unfit_at : {B : Type 0} (f : BytesCodecs B) (codec : OptionalCodec B) (sizes : List ℕ) (type : ElementType) (fill : List ℕ) (held : Held) (cause : CodecError) → IsOk (codec_representation f (plain_optional codec) sizes type fill) → validity type (product sizes) held ≡ Err cause
    → codec_held_value f (plain_optional codec) sizes type fill held ≡ Err cause
unfit_at f codec sizes type fill held cause taken e =
    let known = ok_of (codec_representation f (plain_optional codec) sizes type fill) taken in
    let measured : codec_representation f (plain_optional codec) sizes type fill ≡ Ok known.0 = known.1 in
    rw (measured, e) refl

pub value_at : {B X : Type 0} (view : X → List ℕ) (result : Result X CodecError) (f : BytesCodecs B) (codec : OptionalCodec B) (sizes : List ℕ) (type inner : ElementType) (fill : List ℕ) (held : Held)
    → Ok inner ≡ optional_inner type → IsOk (codec_representation f (plain_optional codec) sizes type fill) → validity type (product sizes) held ≡ Ok tt
    → Answers memory view result (codec_value f (plain_optional codec) sizes (optional inner) [] (elements (optional inner) (product sizes) held))
    → Answers memory view result (codec_held_value f (plain_optional codec) sizes type fill held)
value_at view result f codec sizes type inner fill held e taken valid gives =
    let known = ok_of (codec_representation f (plain_optional codec) sizes type fill) taken in
    let is : type ≡ optional inner = inner_is type inner (sym e) in
    let here : Answers memory view result (codec_value f (plain_optional codec) sizes type [] (elements type (product sizes) held))
    = subst (λ (t : ElementType). Answers memory view result (codec_value f (plain_optional codec) sizes t [] (elements t (product sizes) held))) (sym is) gives in
    subst (λ (x : Result (List ℕ) CodecError). Answers memory view result x) (sym (value_taken_at f codec sizes type fill held known.0 known.1 valid)) here

-- a container that was taken has the inner type
pub inner_valid : (held : Held) (type inner : ElementType) (count : ℕ) → Ok inner ≡ optional_inner type → validity type count held ≡ Ok tt → validity (optional inner) count held ≡ Ok tt
inner_valid held type inner count e valid = subst (λ (t : ElementType). validity t count held ≡ Ok tt) (inner_is type inner (sym e)) valid

-- ---- decoding

pub chunk_opened_at : {B : Type 0} (f : BytesCodecs B) (codec : OptionalCodec B) (sizes : List ℕ) (type : ElementType) (fill value : List ℕ)
    → codec_chunk f (plain_optional codec) sizes type fill value
    ≡ optional_inner type >>= (λ inner. optional_parts value >>= (λ parts. chain_chunk f (plain_chain (out-OptionalCodec _ codec).mask_codecs.value) sizes flag_type (0 ∷ []) parts.0 >>= (λ flags. present_part (chain_chunk f (plain_chain (out-OptionalCodec _ codec).data_codecs.value)) inner flags parts.1)))
chunk_opened_at f codec sizes type fill value =
    ap (λ x. codec_chunk f x sizes type fill value) (plain_optional_at codec)
    ∙ chunk_opened f (plain_chain (out-OptionalCodec _ codec).mask_codecs.value) (plain_chain (out-OptionalCodec _ codec).data_codecs.value) sizes type fill value

pub chunk_at : {B : Type 0} (result : Result Held CodecError) (f : BytesCodecs B) (codec : OptionalCodec B) (sizes : List ℕ) (type inner : ElementType) (fill value mask_part data_part : List ℕ) (flags : Chunk)
    → Ok inner ≡ optional_inner type → optional_parts value ≡ Ok (mask_part, data_part) → chain_chunk f (plain_chain (out-OptionalCodec _ codec).mask_codecs.value) sizes flag_type (0 ∷ []) mask_part ≡ Ok flags
    → AnswersBy memory (Holds (optional inner)) result (present_part (chain_chunk f (plain_chain (out-OptionalCodec _ codec).data_codecs.value)) inner flags data_part)
    → AnswersBy memory (Holds type) result (codec_chunk f (plain_optional codec) sizes type fill value)
chunk_at result f codec sizes type inner fill value mask_part data_part flags e parts read gives =
    subst (λ (x : PlainCodec _). AnswersBy memory (Holds type) result (codec_chunk f x sizes type fill value)) (sym (plain_optional_at codec))
    (chunk_answers result f (plain_chain (out-OptionalCodec _ codec).mask_codecs.value) (plain_chain (out-OptionalCodec _ codec).data_codecs.value) sizes type inner fill value mask_part data_part flags e parts read gives)

-- what is tight as elements of the optional type of the one inside is tight as those of the type
pub tight_at : (result : Result Held CodecError) (type inner : ElementType) → Ok inner ≡ optional_inner type → IfOk result (IsTight (optional inner)) → IfOk result (IsTight type)
tight_at result type inner e tight = subst (λ (t : ElementType). IfOk result (IsTight t)) (sym (inner_is type inner (sym e))) tight
