-- A container that holds the chunk which a value stands for has as many elements as were asked for.
use Rattle.std.proofs.Common.{◌≡◌, ℕ, List, length, Result, Ok, Err, refl, subst}
use Rattle.std.specs.Prelude.{IfOk}
use Rattle.zarrs_chunk.specs.Answer.{AnswersBy, memory}
use Rattle.zarrs_chunk.specs.ChunkShape.{product}
use Rattle.zarrs_chunk.specs.declared.codec_error.CodecError.{CodecError}
use Rattle.zarrs_data_type.specs.Element.{Chunk}
use Rattle.zarrs_data_type.specs.ElementType.{ElementType}
use Rattle.zarrs_array_bytes.specs.Held.{Held}
use Rattle.zarrs_array_bytes.specs.Validity.{Holds, validity}
use Rattle.zarrs_codec.specs.BytesToBytesCodec.{BytesCodecs}
use Rattle.zarrs_chain_meaning.specs.Chain.{taken_chunk}
use Rattle.zarrs_chain_meaning.specs.CodecMeaning.{PlainCodec, PlainChain, codec_representation, codec_chunk, chain_chunk}
use Rattle.zarrs_bytes.proofs.Coding.{bind_ok}
use Rattle.zarrs_chain_meaning.proofs.CodecLaws.{chunk_count}
use Rattle.zarrs_chain_meaning.proofs.OptionalSteps.{chunk_long}

answered_valid : (type : ElementType) (count : ℕ) (r : Result Held CodecError) (expected : Result Chunk CodecError) → ((chunk : Chunk) → expected ≡ Ok chunk → length chunk ≡ count) → AnswersBy memory (Holds type) r expected
    → IfOk r (λ held. validity type count held ≡ Ok tt)
answered_valid type count (Ok held) (Ok chunk) long h = subst (λ (k : ℕ). validity type k held ≡ Ok tt) (long chunk refl) h.valid
answered_valid type count (Ok held) (Err e) long h = absurd h
answered_valid type count (Err e) expected long h = tt

pub chain_valid : {B : Type 0} (f : BytesCodecs B) (chain : PlainChain B) (sizes : List ℕ) (type : ElementType) (fill value : List ℕ) (r : Result Held CodecError) → AnswersBy memory (Holds type) r (chain_chunk f chain sizes type fill value)
    → IfOk r (λ held. validity type (product sizes) held ≡ Ok tt)
chain_valid f chain sizes type fill value r h = answered_valid type (product sizes) r (chain_chunk f chain sizes type fill value) (chunk_long f chain sizes type fill value) h

pub codec_valid : {B : Type 0} (f : BytesCodecs B) (codec : PlainCodec B) (sizes : List ℕ) (type : ElementType) (fill value : List ℕ) (r : Result Held CodecError) → AnswersBy memory (Holds type) r (taken_chunk f codec sizes type fill value)
    → IfOk r (λ held. validity type (product sizes) held ≡ Ok tt)
codec_valid f codec sizes type fill value r h =
    answered_valid type (product sizes) r (taken_chunk f codec sizes type fill value)
    (λ chunk e. chunk_count f codec sizes type fill value chunk (bind_ok (codec_representation f codec sizes type fill) (λ _. codec_chunk f codec sizes type fill value) chunk e).2) h

pub content_valid : {B : Type 0} (f : BytesCodecs B) (codec : PlainCodec B) (sizes : List ℕ) (type : ElementType) (fill value : List ℕ) (r : Result Held CodecError) → AnswersBy memory (Holds type) r (codec_chunk f codec sizes type fill value)
    → IfOk r (λ held. validity type (product sizes) held ≡ Ok tt)
content_valid f codec sizes type fill value r h = answered_valid type (product sizes) r (codec_chunk f codec sizes type fill value) (chunk_count f codec sizes type fill value) h
