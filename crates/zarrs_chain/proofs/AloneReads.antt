-- An array-to-bytes codec with no array-to-array codecs in front of it.
use Rattle.std.proofs.Common.{◌≡◌, ℕ, List, [], length, Result, Ok, Err, refl, ap, subst, sym, ◌∙◌}
use Rattle.zarrs_chunk.specs.Answer.{◌>>=◌, GivesBy}
use Rattle.zarrs_chunk.specs.ChunkShape.{product}
use Rattle.zarrs_chunk.specs.declared.codec_error.CodecError.{CodecError}
use Rattle.zarrs_data_type.specs.Element.{Chunk}
use Rattle.zarrs_data_type.specs.ElementType.{ElementType}
use Rattle.zarrs_data_type.specs.Form.{form_of}
use Rattle.zarrs_codec.specs.BytesToBytesCodec.{BytesCodecs}
use Rattle.zarrs_codec.specs.CoordinateMap.{CoordinateMap, inverse_map, moved_chunk, same_places}
use Rattle.zarrs_codec.specs.declared.bytes_representation.BytesRepresentation.{BytesRepresentation}
use Rattle.zarrs_array_to_array.proofs.CoordinateMaps.{kept_places}
use Rattle.zarrs_packbits.specs.PackBitsCodec.{packbits_chunk}
use Rattle.zarrs_packbits.specs.PackBitsSettings.{PackBitsSettings}
use Rattle.zarrs_chain_meaning.specs.ArrayStages.{arrays_map}
use Rattle.zarrs_chain_meaning.specs.BytesStages.{outer_bytes}
use Rattle.zarrs_chain_meaning.specs.Chain.{taken_form}
use Rattle.zarrs_chain_meaning.specs.CodecMeaning.{PlainChain, chain_chunk, codec_chunk, packbits_codec}
use Rattle.zarrs_chain_meaning.proofs.ArraySteps.{next_answer, ok_is}
use Rattle.zarrs_chain_meaning.proofs.ChainSteps.{chunk_through, is_taken}
use Rattle.zarrs_chain_meaning.proofs.CodecLaws.{chunk_count}
use Rattle.zarrs_chain.proofs.CodecSteps.{packbits_chunk_at}

-- a chunk whose elements keep their places
stays : (sizes : List ℕ) (r : Result Chunk CodecError) → ((chunk : Chunk) → r ≡ Ok chunk → length chunk ≡ product sizes) → r >>= (λ chunk. Ok (moved_chunk (inverse_map sizes (same_places sizes)) chunk)) ≡ r
stays sizes (Ok chunk) long = ap Ok (kept_places sizes chunk (long chunk refl))
stays sizes (Err error) long = refl

-- what stands below the bytes-to-bytes codecs is the codec's own value
alone_is : {B : Type 0} (f : BytesCodecs B) (chain : PlainChain B) (sizes : List ℕ) (type : ElementType) (fill : List ℕ) (form : List ℕ × BytesRepresentation) (value below : List ℕ)
    → chain.array_to_array ≡ [] → taken_form f chain sizes type fill ≡ Ok form → outer_bytes f chain.bytes_to_bytes form.1 value ≡ Ok below
    → chain_chunk f chain sizes type fill value ≡ codec_chunk f chain.array_to_bytes sizes type fill below
alone_is f chain sizes type fill form value below none e opened =
    let t = is_taken f chain sizes type fill form e in
    let codec = chain.array_to_bytes in
    let is : t.map_is ≡ same_places sizes = sym (ok_is (same_places sizes) t.map_is (subst (λ codecs. arrays_map type codecs sizes ≡ Ok t.map_is) none t.mapped)) in
    let same : form.0 ≡ sizes = sym t.encoded_is ∙ ap (λ (m : CoordinateMap). m.encoded) is in
    chunk_through f chain sizes type fill form value e
    ∙ next_answer (outer_bytes f chain.bytes_to_bytes form.1 value) below (λ b. codec_chunk f codec form.0 type fill b >>= (λ chunk. Ok (moved_chunk (inverse_map sizes t.map_is) chunk))) opened
    ∙ ap (λ s. codec_chunk f codec s type fill below >>= (λ chunk. Ok (moved_chunk (inverse_map sizes t.map_is) chunk))) same
    ∙ ap (λ m. codec_chunk f codec sizes type fill below >>= (λ chunk. Ok (moved_chunk (inverse_map sizes m) chunk))) is
    ∙ stays sizes (codec_chunk f codec sizes type fill below) (chunk_count f codec sizes type fill below)

-- what `packbits` returns of that is what the chain does
pub packbits_read : {T B : Type 0} (R : T → Chunk → Type 0) (r : Result T CodecError) (f : BytesCodecs B) (chain : PlainChain B) (settings : PackBitsSettings) (sizes : List ℕ) (type : ElementType) (fill : List ℕ) (form : List ℕ × BytesRepresentation) (value below : List ℕ)
    → chain.array_to_bytes ≡ packbits_codec settings → chain.array_to_array ≡ [] → taken_form f chain sizes type fill ≡ Ok form → outer_bytes f chain.bytes_to_bytes form.1 value ≡ Ok below
    → GivesBy R r (packbits_chunk settings (form_of sizes type fill) below) → GivesBy R r (chain_chunk f chain sizes type fill value)
packbits_read R r f chain settings sizes type fill form value below is none e opened given =
    subst (GivesBy R r)
    (sym (alone_is f chain sizes type fill form value below none e opened ∙ ap (λ codec. codec_chunk f codec sizes type fill below) is ∙ packbits_chunk_at f settings sizes type fill below))
    given
