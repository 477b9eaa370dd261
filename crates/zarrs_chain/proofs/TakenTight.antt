-- What codecs without a mask decode is tight.
use Rattle.std.proofs.Common.{◌≡◌, ℕ, true, List, Option, None, Result, refl, subst}
use Rattle.std.specs.Prelude.{IfOk, IsOk, is_some}
use Rattle.zarrs_chunk.specs.Answer.{AnswersBy, memory}
use Rattle.zarrs_chunk.specs.declared.codec_error.CodecError.{CodecError}
use Rattle.zarrs_data_type.specs.Element.{Chunk}
use Rattle.zarrs_data_type.specs.ElementType.{ElementType, fixed, text, bytes, optional, fixed_size_of, inner_of}
use Rattle.zarrs_data_type.specs.declared.endianness.Endianness.{Endianness}
use Rattle.zarrs_array_bytes.specs.Held.{Held}
use Rattle.zarrs_array_bytes.specs.Tight.{GivesFlush, IsTight}
use Rattle.zarrs_array_bytes.specs.Validity.{Holds}
use Rattle.zarrs_array_bytes.proofs.TightLemmas.{simple_tight_results, sized_given_tight}
use Rattle.zarrs_codec.specs.BytesToBytesCodec.{BytesCodecs}
use Rattle.zarrs_packbits.specs.PackBitsSettings.{PackBitsSettings}
use Rattle.zarrs_chain_meaning.specs.CodecMeaning.{bytes_codec, packbits_codec, meaning, codec_representation}
use Rattle.zarrs_chain_meaning.specs.vlen.Vlen.{vlen_representation}
use Rattle.zarrs_chain.specs.ChainView.{plain_codec, plain_vlen, plain_vlen_at}
use Rattle.zarrs_chain.specs.declared.array_to_bytes_codec.ArrayToBytesCodec.{ArrayToBytesCodec}
use Rattle.zarrs_chain.specs.declared.array_to_bytes_codec.ArrayToBytesCodec.TheVariants.{Bytes, PackBits}
use Rattle.zarrs_chain.specs.declared.vlen.vlen_codec.VlenCodec.{VlenCodec}

bytes_sized : {B : Type 0} (f : BytesCodecs B) (order : Option Endianness) (sizes : List ℕ) (type : ElementType) (fill : List ℕ) → IsOk (codec_representation f (bytes_codec order) sizes type fill) → is_some (fixed_size_of type) ≡ true
unfolding meaning
bytes_sized f order sizes (fixed w c s) fill taken = refl
bytes_sized f order sizes text fill taken = cc
bytes_sized f order sizes bytes fill taken = cc
bytes_sized f order sizes (optional type) fill taken = cc

packbits_sized : {B : Type 0} (f : BytesCodecs B) (settings : PackBitsSettings) (sizes : List ℕ) (type : ElementType) (fill : List ℕ) → IsOk (codec_representation f (packbits_codec settings) sizes type fill) → is_some (fixed_size_of type) ≡ true
unfolding meaning
packbits_sized f settings sizes (fixed w c s) fill taken = refl
packbits_sized f settings sizes text fill taken = cc
packbits_sized f settings sizes bytes fill taken = cc
packbits_sized f settings sizes (optional type) fill taken = cc

vlen_simple : (sizes : List ℕ) (type : ElementType) (fill : List ℕ) → IsOk (vlen_representation sizes type fill) → inner_of type ≡ None
vlen_simple sizes (fixed w c s) fill taken = refl
vlen_simple sizes text fill taken = refl
vlen_simple sizes bytes fill taken = refl
vlen_simple sizes (optional type) fill taken = cc

pub vlen_measured : {B : Type 0} (f : BytesCodecs B) (codec : VlenCodec B) (sizes : List ℕ) (type : ElementType) (fill : List ℕ) → codec_representation f (plain_vlen codec) sizes type fill ≡ vlen_representation sizes type fill
unfolding meaning
vlen_measured f codec sizes type fill = rw (plain_vlen_at codec) refl

pub vlen_tight : {B : Type 0} (f : BytesCodecs B) (codec : VlenCodec B) (sizes : List ℕ) (type : ElementType) (fill : List ℕ) (r : Result Held CodecError) → IsOk (codec_representation f (plain_vlen codec) sizes type fill) → GivesFlush r → IfOk r (IsTight type)
vlen_tight f codec sizes type fill r taken flush =
    simple_tight_results type r (vlen_simple sizes type fill (subst IsOk (vlen_measured f codec sizes type fill) taken)) flush

-- ---- as the code returns the codecs apart

pub bytes_tight_at : {B : Type 0} (f : BytesCodecs B) (codec : ArrayToBytesCodec B) (order : Option Endianness) (sizes : List ℕ) (type : ElementType) (fill : List ℕ) (r : Result Held CodecError) (due : Result Chunk CodecError)
    → codec ≡ Bytes order → IsOk (codec_representation f (plain_codec codec) sizes type fill) → AnswersBy memory (Holds type) r due → IfOk r (IsTight type)
unfolding plain_codec
bytes_tight_at f codec order sizes type fill r due is taken gives =
    sized_given_tight type r due (bytes_sized f order sizes type fill (subst (λ c. IsOk (codec_representation f (plain_codec c) sizes type fill)) is taken)) gives

pub packbits_tight_at : {B : Type 0} (f : BytesCodecs B) (codec : ArrayToBytesCodec B) (settings : PackBitsSettings) (sizes : List ℕ) (type : ElementType) (fill : List ℕ) (r : Result Held CodecError) (due : Result Chunk CodecError)
    → codec ≡ PackBits settings → IsOk (codec_representation f (plain_codec codec) sizes type fill) → AnswersBy memory (Holds type) r due → IfOk r (IsTight type)
unfolding plain_codec
packbits_tight_at f codec settings sizes type fill r due is taken gives =
    sized_given_tight type r due (packbits_sized f settings sizes type fill (subst (λ c. IsOk (codec_representation f (plain_codec c) sizes type fill)) is taken)) gives
