-- The codecs `vlen-utf8` and `vlen-bytes`, as the code sees their answers.
use Rattle.zarrs_data_type.specs.Form.{form_of}
use Rattle.std.proofs.Common.{◌≡◌, ℕ, false, List, Result, Ok, Err, refl, subst}
use Rattle.std.specs.Prelude.{IfOk, IsOk}
use Rattle.zarrs_chunk.specs.Answer.{Answers, memory, demand, checked_u64, is_fault}
use Rattle.zarrs_chunk.specs.ChunkShape.{product}
use Rattle.zarrs_chunk.specs.declared.codec_error.CodecError.{CodecError}
use Rattle.zarrs_chunk.specs.declared.codec_error.CodecError.TheVariants.{UnsupportedDataType}
use Rattle.zarrs_data_type.specs.ElementType.{ElementType}
use Rattle.zarrs_array_bytes.specs.Held.{Held}
use Rattle.zarrs_array_bytes.specs.Tight.{GivesFlush, IsTight}
use Rattle.zarrs_array_bytes.proofs.TightLemmas.{simple_tight_results}
use Rattle.zarrs_codec.specs.BytesToBytesCodec.{BytesCodecs}
use Rattle.zarrs_codec.specs.declared.bytes_representation.BytesRepresentation.{BytesRepresentation}
use Rattle.zarrs_array_to_array.proofs.Refusals.{bind_no_fault, demand_no_fault}
use Rattle.zarrs_vlen_v2.specs.VlenV2Codec.{accepts, error_name, vlen_v2_represented, vlen_v2_value, vlen_v2_chunk}
use Rattle.zarrs_vlen_v2.specs.declared.vlen_v2_codec.VlenV2Codec.{VlenV2Codec}
use Rattle.zarrs_vlen_v2.proofs.CodecLaws.{accepted}
use Rattle.zarrs_vlen_v2.proofs.Counted.{variable_simple}
use Rattle.zarrs_chain_meaning.specs.Chain.{codec_held_value}
use Rattle.zarrs_chain_meaning.specs.CodecMeaning.{vlen_v2_codec, meaning, codec_representation, codec_chunk}
use Rattle.zarrs_chain.specs.ChainView.{plain_codec}
use Rattle.zarrs_chain.specs.declared.array_to_bytes_codec.ArrayToBytesCodec.{ArrayToBytesCodec}
use Rattle.zarrs_chain.specs.declared.array_to_bytes_codec.ArrayToBytesCodec.TheVariants.{VlenV2}
use Rattle.zarrs_chain.proofs.CodecSteps.{same_answer, count_no_fault}

pub vlen_v2_measured : {B : Type 0} (f : BytesCodecs B) (codec : VlenV2Codec) (sizes : List ℕ) (type : ElementType) (fill : List ℕ) (r : Result BytesRepresentation CodecError) → r ≡ vlen_v2_represented codec (form_of sizes type fill) → Answers memory (λ x. x) r (codec_representation f (vlen_v2_codec codec) sizes type fill)
unfolding meaning
vlen_v2_measured f codec sizes type fill r e = same_answer r (vlen_v2_represented codec (form_of sizes type fill)) e

pub vlen_v2_no_fault : (codec : VlenV2Codec) (sizes : List ℕ) (type : ElementType) (fill : List ℕ) → is_fault (vlen_v2_represented codec (form_of sizes type fill)) ≡ false
vlen_v2_no_fault codec sizes type fill =
    bind_no_fault (demand (accepts codec type) (UnsupportedDataType (error_name codec))) _ (demand_no_fault (accepts codec type) (UnsupportedDataType (error_name codec)) refl)
    (λ _. bind_no_fault (checked_u64 (product sizes)) _ (count_no_fault _ (product sizes)) (λ _. refl))

pub vlen_v2_held_value : {B : Type 0} (f : BytesCodecs B) (codec : VlenV2Codec) (sizes : List ℕ) (type : ElementType) (fill : List ℕ) (held : Held) → codec_held_value f (vlen_v2_codec codec) sizes type fill held ≡ vlen_v2_value codec (form_of sizes type fill) held
unfolding meaning
vlen_v2_held_value f codec sizes type fill held = refl

pub vlen_v2_chunk_at : {B : Type 0} (f : BytesCodecs B) (codec : VlenV2Codec) (sizes : List ℕ) (type : ElementType) (fill value : List ℕ) → codec_chunk f (vlen_v2_codec codec) sizes type fill value ≡ vlen_v2_chunk codec (form_of sizes type fill) value
unfolding meaning
vlen_v2_chunk_at f codec sizes type fill value = refl

represented_of : {B : Type 0} (f : BytesCodecs B) (codec : VlenV2Codec) (sizes : List ℕ) (type : ElementType) (fill : List ℕ) → codec_representation f (vlen_v2_codec codec) sizes type fill ≡ vlen_v2_represented codec (form_of sizes type fill)
unfolding meaning
represented_of f codec sizes type fill = refl

ok_so : (r : Result BytesRepresentation CodecError) → IsOk r → (x : BytesRepresentation) × (r ≡ Ok x)
ok_so (Ok x) h = (x, refl)
ok_so (Err e) h = absurd cc

pub vlen_v2_tight_at : {B : Type 0} (f : BytesCodecs B) (codec : ArrayToBytesCodec B) (inner : VlenV2Codec) (sizes : List ℕ) (type : ElementType) (fill : List ℕ) (r : Result Held CodecError)
    → codec ≡ VlenV2 inner → IsOk (codec_representation f (plain_codec codec) sizes type fill) → GivesFlush r → IfOk r (IsTight type)
unfolding plain_codec
vlen_v2_tight_at f codec inner sizes type fill r is taken flush =
    let so : IsOk (codec_representation f (vlen_v2_codec inner) sizes type fill) = subst (λ c. IsOk (codec_representation f (plain_codec c) sizes type fill)) is taken in
    let ok = ok_so (vlen_v2_represented inner (form_of sizes type fill)) (subst IsOk (represented_of f inner sizes type fill) so) in
    simple_tight_results type r (variable_simple type (accepted inner (form_of sizes type fill) ok.0 ok.1).variable) flush
