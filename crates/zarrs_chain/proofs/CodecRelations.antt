-- What a codec with chains inside answers is what stands and what is written.
use Rattle.std.proofs.Common.{◌≡◌, ℕ, ◌<◌, List, length, Result, Ok, Err, IfOk, All, refl, sym, subst, Global}
use Rattle.std.specs.declared.borrow.CowSlice.{CowSlice}
use Rattle.std.specs.Prelude.{IsOk}
use Rattle.zarrs_chunk.specs.Answer.{Answers, AnswersBy, Gives, GivesBy, memory}
use Rattle.zarrs_chunk.specs.ChunkShape.{product}
use Rattle.zarrs_chunk.specs.declared.codec_error.CodecError.{CodecError}
use Rattle.zarrs_data_type.specs.Element.{Chunk}
use Rattle.zarrs_data_type.specs.Form.{Form}
use Rattle.zarrs_array_bytes.specs.Elements.{elements}
use Rattle.zarrs_array_bytes.specs.Held.{Held, items_of}
use Rattle.zarrs_array_bytes.specs.Validity.{validity, Holds}
use Rattle.zarrs_array_bytes.proofs.ElementLaw.{AreElements-held}
use Rattle.zarrs_codec.specs.BytesToBytesCodec.{BytesCodecs}
use Rattle.zarrs_codec.specs.Grammar.{Encodes, Decodes}
use Rattle.zarrs_bytes.specs.BytesCodec.{IsChunk}
use Rattle.zarrs_chain_meaning.specs.Chain.{codec_held_value, taken_chunk}
use Rattle.zarrs_chain_meaning.specs.CodecMeaning.{PlainCodec, HasMappings, codec_representation}
use Rattle.zarrs_chain.specs.ChainGrammar.{codec_grammar, TakenStands, TakenWritten}
use Rattle.zarrs_chain_meaning.proofs.Answered.{from_ok}
use Rattle.zarrs_bytes.proofs.Coding.{bind_ok}
use Rattle.zarrs_array_bytes.proofs.UpdatedLemmas.{length-elements}
use Rattle.zarrs_array_to_array.proofs.MappedChunks.{holds_elements}
use Rattle.zarrs_chain_meaning.proofs.ChainSteps.{held_chunk}
use Rattle.zarrs_chain_meaning.proofs.CodecLaws.{chunk_only, value_only, value_found, chunk_read}

-- ---- encoding

-- what is answered of a container is written for the chunk that it holds
pub value_written : {B : Type 0} (f : BytesCodecs B) (codec : PlainCodec B) (form : Form) (held : Held) (value : List ℕ)
    → HasMappings codec → All (λ size. 0 < size) form.sizes → codec_held_value f codec form.sizes form.type form.fill held ≡ Ok value
    → (chunk : Chunk) × Holds form.type held chunk × TakenWritten f codec form value chunk
value_written f codec form held value is positive e =
    let a = bind_ok (codec_representation f codec form.sizes form.type form.fill) _ value e in
    let b = bind_ok (validity form.type (product form.sizes) held) _ value a.2 in
    let chunk = elements form.type (product form.sizes) held in
    let holds = holds_elements form.type (product form.sizes) held b.1 in
    let count : length chunk ≡ product form.sizes = length-elements form.type (product form.sizes) held in
    let elements_are : IsChunk form.type (product form.sizes) chunk = record { count_is = count; each = AreElements-held form.type held chunk holds } in
    let written = value_found f codec is form.sizes form.type form.fill value chunk a.0 positive elements_are a.1 b.2 in
    (chunk, holds, record { taken = subst IsOk (sym a.1) refl; count_is = count; written = written })

-- what is written is answered of a container that holds the chunk
written_value : {B : Type 0} (f : BytesCodecs B) (codec : PlainCodec B) (form : Form) (held : Held) (chunk : Chunk) (value : List ℕ)
    → Holds form.type held chunk → TakenWritten f codec form value chunk → codec_held_value f codec form.sizes form.type form.fill held ≡ Ok value
written_value f codec form held chunk value holds w =
    let valid : validity form.type (product form.sizes) held ≡ Ok tt = subst (λ (k : ℕ). validity form.type k held ≡ Ok tt) w.count_is holds.valid in
    let items : elements form.type (product form.sizes) held ≡ chunk = subst (λ (k : ℕ). elements form.type k held ≡ chunk) w.count_is holds.elements_are in
    let t = from_ok (codec_representation f codec form.sizes form.type form.fill) w.taken in
    rw (t.1, valid, items) (value_only f codec form.sizes form.type form.fill value chunk w.written)

value_written_by : {B : Type 0} (f : BytesCodecs B) (codec : PlainCodec B) (form : Form) (held : Held) (result : Result (CowSlice ℕ Global) CodecError)
    → HasMappings codec → All (λ size. 0 < size) form.sizes → Answers memory items_of result (codec_held_value f codec form.sizes form.type form.fill held)
    → IfOk result (λ value. (chunk : Chunk) × Holds form.type held chunk × TakenWritten f codec form (items_of value) chunk)
value_written_by f codec form held (Ok value) is positive h = value_written f codec form held (items_of value) is positive h
value_written_by f codec form held (Err e) is positive h = tt

pub codec_encodes : {B : Type 0} (f : BytesCodecs B) (codec : PlainCodec B) (form : Form) (held : Held) (result : Result (CowSlice ℕ Global) CodecError)
    → HasMappings codec → All (λ size. 0 < size) form.sizes → Gives items_of result (codec_held_value f codec form.sizes form.type form.fill held)
    → Encodes (codec_grammar f codec) form held result
codec_encodes f codec form held result is positive gives = record {
  found = value_written_by f codec form held result is positive gives.is;
  only = λ chunk value holds w. subst (λ (x : Result (List ℕ) CodecError). Answers memory items_of result x) (written_value f codec form held chunk value holds w) gives.is;
  exact = gives.is;
  no_fault = gives.no_fault;
}

-- ---- decoding

-- what is answered of a value is a chunk that it stands for
chunk_stands : {B : Type 0} (f : BytesCodecs B) (codec : PlainCodec B) (form : Form) (value : List ℕ) (chunk : Chunk)
    → HasMappings codec → All (λ size. 0 < size) form.sizes → taken_chunk f codec form.sizes form.type form.fill value ≡ Ok chunk → TakenStands f codec form value chunk
chunk_stands f codec form value chunk is positive e =
    let a = bind_ok (codec_representation f codec form.sizes form.type form.fill) _ chunk e in
    record { taken = subst IsOk (sym a.1) refl; stands = (chunk_read f codec is form.sizes form.type form.fill value chunk a.0 positive a.1 a.2).0 }

-- the chunk that a value stands for is answered
stands_chunk : {B : Type 0} (f : BytesCodecs B) (codec : PlainCodec B) (form : Form) (value : List ℕ) (chunk : Chunk)
    → HasMappings codec → All (λ size. 0 < size) form.sizes → TakenStands f codec form value chunk → taken_chunk f codec form.sizes form.type form.fill value ≡ Ok chunk
stands_chunk f codec form value chunk is positive s =
    let t = from_ok (codec_representation f codec form.sizes form.type form.fill) s.taken in
    rw (t.1) (chunk_only f codec is form.sizes form.type form.fill value chunk positive s.stands)

chunk_stands_by : {B : Type 0} (f : BytesCodecs B) (codec : PlainCodec B) (form : Form) (value : List ℕ) (result : Result Held CodecError)
    → HasMappings codec → All (λ size. 0 < size) form.sizes → AnswersBy memory (Holds form.type) result (taken_chunk f codec form.sizes form.type form.fill value)
    → IfOk result (λ held. (chunk : Chunk) × Holds form.type held chunk × TakenStands f codec form value chunk)
chunk_stands_by f codec form value (Ok held) is positive h =
    let c = held_chunk form.type held (taken_chunk f codec form.sizes form.type form.fill value) h in
    (c.0, c.2, chunk_stands f codec form value c.0 is positive c.1)
chunk_stands_by f codec form value (Err e) is positive h = tt

pub codec_decodes : {B : Type 0} (f : BytesCodecs B) (codec : PlainCodec B) (form : Form) (value : List ℕ) (result : Result Held CodecError)
    → HasMappings codec → All (λ size. 0 < size) form.sizes → GivesBy (Holds form.type) result (taken_chunk f codec form.sizes form.type form.fill value)
    → Decodes (codec_grammar f codec) form value result
codec_decodes f codec form value result is positive gives = record {
  found = chunk_stands_by f codec form value result is positive gives.is;
  only = λ chunk s. subst (λ (x : Result Chunk CodecError). AnswersBy memory (Holds form.type) result x) (stands_chunk f codec form value chunk is positive s) gives.is;
  exact = gives.is;
  no_fault = gives.no_fault;
}
