-- What joins the members of chains and of their array-to-bytes codecs: what is decoded is of chunks that are taken, and has as many elements as they have.
use Rattle.std.specs.Prelude.{◌≡◌, ℕ, List, length, Ok, IsOk, refl}
use Rattle.std.proofs.Common.{◌∙◌, ap, sym, subst}
use Rattle.zarrs_chunk.specs.Answer.{◌>>=◌}
use Rattle.zarrs_data_type.specs.Element.{Chunk}
use Rattle.zarrs_data_type.specs.Form.{Form}
use Rattle.zarrs_codec.specs.BytesToBytesCodec.{BytesCodecs}
use Rattle.zarrs_codec.specs.CodecMembers.{FitsForm}
use Rattle.zarrs_codec.specs.CoordinateMap.{inverse_map, moved_chunk}
use Rattle.zarrs_array_to_array.proofs.CoordinateMaps.{length-moved}
use Rattle.zarrs_chain_meaning.specs.ArrayStages.{arrays_map}
use Rattle.zarrs_chain_meaning.specs.BytesStages.{outer_bytes, outer_representation}
use Rattle.zarrs_chain_meaning.specs.Chain.{taken_chunk}
use Rattle.zarrs_chain_meaning.specs.CodecMeaning.{PlainCodec, PlainChain, codec_representation, chain_representation, codec_chunk, chain_chunk}
use Rattle.zarrs_bytes.proofs.Coding.{bind_ok}
use Rattle.zarrs_chain_meaning.proofs.ArraySteps.{ok_is, next_answer}
use Rattle.zarrs_chain_meaning.proofs.CodecLaws.{chunk_count}

pub codec_fits : {B : Type 0} (f : BytesCodecs B) (codec : PlainCodec B) (form : Form) (value : List ℕ) (chunk : Chunk)
    → taken_chunk f codec form.sizes form.type form.fill value ≡ Ok chunk → FitsForm (codec_representation f codec form.sizes form.type form.fill) form chunk
codec_fits f codec form value chunk e =
    let r = bind_ok (codec_representation f codec form.sizes form.type form.fill) (λ _. codec_chunk f codec form.sizes form.type form.fill value) chunk e in
    record { taken = subst IsOk (sym r.1) refl; count = chunk_count f codec form.sizes form.type form.fill value chunk r.2 }

pub chain_fits : {B : Type 0} (f : BytesCodecs B) (chain : PlainChain B) (form : Form) (value : List ℕ) (chunk : Chunk)
    → chain_chunk f chain form.sizes form.type form.fill value ≡ Ok chunk → FitsForm (chain_representation f chain form.sizes form.type form.fill) form chunk
chain_fits f chain form value chunk e =
    let m = bind_ok (arrays_map form.type chain.array_to_array form.sizes) _ chunk e in
    let r = bind_ok (codec_representation f chain.array_to_bytes m.0.encoded form.type form.fill) _ chunk m.2 in
    let below = bind_ok (outer_bytes f chain.bytes_to_bytes r.0 value) _ chunk r.2 in
    let c = bind_ok (codec_chunk f chain.array_to_bytes m.0.encoded form.type form.fill below.0) _ chunk below.2 in
    let taken : chain_representation f chain form.sizes form.type form.fill ≡ Ok (outer_representation f chain.bytes_to_bytes r.0) =
    next_answer (arrays_map form.type chain.array_to_array form.sizes) m.0 (λ map. codec_representation f chain.array_to_bytes map.encoded form.type form.fill >>= λ inner. Ok (outer_representation f chain.bytes_to_bytes inner)) m.1
    ∙ next_answer (codec_representation f chain.array_to_bytes m.0.encoded form.type form.fill) r.0 (λ inner. Ok (outer_representation f chain.bytes_to_bytes inner)) r.1 in
    record {
      taken = subst IsOk (sym taken) refl;
      count = ap length (sym (ok_is (moved_chunk (inverse_map form.sizes m.0) c.0) chunk c.2)) ∙ length-moved (inverse_map form.sizes m.0) c.0;
    }
