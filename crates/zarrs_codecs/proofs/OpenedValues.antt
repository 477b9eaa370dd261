-- A decoder is made of each value that stands for a chunk.
use Rattle.std.proofs.Common.{◌≡◌, ℕ, zero, suc, Some, List, [], ◌∷◌, Result, Ok, Err, subst, refl}
use Rattle.std.specs.Prelude.{IsOk}
use Rattle.zarrs_chunk.specs.Answer.{◌>>=◌}
use Rattle.zarrs_chunk.specs.declared.codec_error.CodecError.{CodecError}
use Rattle.zarrs_data_type.specs.Element.{Chunk}
use Rattle.zarrs_data_type.specs.ElementType.{ElementType}
use Rattle.zarrs_codec.specs.BytesToBytesCodec.{BytesCodecs}
use Rattle.zarrs_codec.specs.declared.bytes_representation.BytesRepresentation.{BytesRepresentation}
use Rattle.zarrs_codec.specs.declared.capabilities.PartialDecoderCapability.{PartialDecoderCapability}
use Rattle.zarrs_bytes.proofs.Coding.{bind_ok}
use Rattle.zarrs_chain_meaning.proofs.CodecLaws.{chain_chunk_only}
use Rattle.zarrs_chain_meaning.specs.ArrayStages.{arrays_map}
use Rattle.zarrs_chain_meaning.specs.BytesStages.{outer_bytes}
use Rattle.zarrs_chain_meaning.specs.ChunkForm.{ChunkForm}
use Rattle.zarrs_chain_meaning.specs.CodecMeaning.{PlainChain, codec_representation, codec_chunk, chain_chunk}
use Rattle.zarrs_codecs.specs.ChunkSource.{cache_stage, source_at, source_made, upper_bytes}
use Rattle.zarrs_codecs.specs.ReadLaws.{StandingIsOpened}
use Rattle.zarrs_codecs.specs.declared.partial_decoder.cache.CacheStage.{CacheStage}
use Rattle.zarrs_codecs.specs.declared.partial_decoder.cache.CacheStage.TheVariants as stage

-- where all codecs decode a value, the last of them do
upper_opened : {B : Type 0} (f : BytesCodecs B) (codecs : List B) (below : ℕ) (r : BytesRepresentation) (value bytes : List ℕ) → outer_bytes f codecs r value ≡ Ok bytes → (upper : List ℕ) × (upper_bytes f codecs below r value ≡ Ok upper)
upper_opened f [] zero r value bytes e = (value, refl)
upper_opened f [] (suc below) r value bytes e = (value, refl)
upper_opened f (codec ∷ codecs) zero r value bytes e = (bytes, e)
upper_opened f (codec ∷ codecs) (suc below) r value bytes e =
    let above = bind_ok (outer_bytes f codecs (f.representation codec r) value) _ bytes e in
    upper_opened f codecs below (f.representation codec r) value above.0 above.1

-- an answer that all steps give
is_ok_by : {A T : Type 0} (r : Result A CodecError) (next : A → Result T CodecError) (x : A) → r ≡ Ok x → IsOk (next x) → IsOk (r >>= next)
is_ok_by (Ok y) next x e h = subst (λ z. IsOk (next z)) (let same : x ≡ y = cc in same) h
is_ok_by (Err d) next x e h = absurd cc

-- so a decoder's cache is filled, wherever it stands
source_opened : {B : Type 0} (f : BytesCodecs B) (chain : PlainChain B) (encoded : List ℕ) (type : ElementType) (fill : List ℕ) (r : BytesRepresentation) (s : CacheStage) (value below : List ℕ) (chunk : Chunk) → outer_bytes f chain.bytes_to_bytes r value ≡ Ok below
    → codec_chunk f chain.array_to_bytes encoded type fill below ≡ Ok chunk → IsOk (source_at f chain encoded type fill r s (Some value))
source_opened f chain encoded type fill r stage.Nowhere value below chunk e d = refl
source_opened f chain encoded type fill r (stage.Bytes left) value below chunk e d =
    let upper = upper_opened f chain.bytes_to_bytes left r value below e in
    is_ok_by (upper_bytes f chain.bytes_to_bytes left r value) _ upper.0 upper.1 refl
source_opened f chain encoded type fill r stage.Chunk value below chunk e d =
    is_ok_by (outer_bytes f chain.bytes_to_bytes r value >>= codec_chunk f chain.array_to_bytes encoded type fill) _ chunk (rw e d) refl

-- what a chain reads, a decoder opens
read_opened : {B : Type 0} (f : BytesCodecs B) (reads : B → PartialDecoderCapability) (form : ChunkForm B) (value : List ℕ) (chunk : Chunk) → chain_chunk f form.chain form.sizes form.type form.fill value ≡ Ok chunk → IsOk (source_made f reads form (Some value))
read_opened f reads form value chunk e =
    let a = bind_ok (arrays_map form.type form.chain.array_to_array form.sizes) _ chunk e in
    let b = bind_ok (codec_representation f form.chain.array_to_bytes a.0.encoded form.type form.fill) _ chunk a.2 in
    let c = bind_ok (outer_bytes f form.chain.bytes_to_bytes b.0 value) _ chunk b.2 in
    let d = bind_ok (codec_chunk f form.chain.array_to_bytes a.0.encoded form.type form.fill c.0) _ chunk c.2 in
    rw (a.1, b.1) (source_opened f form.chain a.0.encoded form.type form.fill b.0 (cache_stage reads form.chain) value c.0 d.0 c.1 d.1)

pub standing_opened : {B : Type 0} (f : BytesCodecs B) → StandingIsOpened f
standing_opened f reads form value chunk mappings positive stands =
    read_opened f reads form value chunk (chain_chunk_only f form.chain mappings form.sizes form.type form.fill value chunk positive stands)
