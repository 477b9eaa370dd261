-- One array-to-bytes codec.
use Rattle.zarrs_data_type.specs.Form.{form_of}
use Rattle.std.proofs.Common.{◌≡◌, ◌&&◌, ℕ, ◌^◌, nat_lt, Bool, true, false, if◌then◌else◌, List, [], Option, Result, Ok, Err, refl, sym}
use Rattle.zarrs_chunk.specs.Answer.{◌>>=◌, Answers, memory, demand, checked_u64, seen, is_fault}
use Rattle.zarrs_chunk.specs.declared.codec_error.CodecError.{CodecError}
use Rattle.zarrs_chunk.specs.declared.codec_error.CodecError.TheVariants.{InvalidFillValue, BitRange, Overflow}
use Rattle.zarrs_data_type.specs.ElementType.{ElementType, fixed, text, bytes, optional}
use Rattle.zarrs_data_type.specs.FillValue.{fill_fits}
use Rattle.zarrs_data_type.specs.declared.endianness.Endianness.{Endianness}
use Rattle.zarrs_array_bytes.specs.Held.{Held}
use Rattle.zarrs_array_bytes.specs.Elements.{elements}
use Rattle.zarrs_array_bytes.specs.Validity.{validity}
use Rattle.zarrs_chunk.specs.ChunkShape.{product}
use Rattle.zarrs_codec.specs.BytesToBytesCodec.{BytesCodecs}
use Rattle.zarrs_codec.specs.declared.bytes_representation.BytesRepresentation.{BytesRepresentation}
use Rattle.zarrs_codec.specs.declared.bytes_representation.BytesRepresentation.TheVariants.{FixedSize}
use Rattle.zarrs_bytes.specs.BytesCodec.{bytes_length, bytes_value, bytes_chunk, spelling}
use Rattle.zarrs_packbits.specs.BitStream.{chunk_stream}
use Rattle.zarrs_packbits.specs.PackBitsCodec.{packbits_value, packbits_chunk}
use Rattle.zarrs_packbits.specs.PackBitsSettings.{PackBitsSettings, packed_layout, packbits_length, has_bits, layout_for}
use Rattle.zarrs_packbits.specs.PackedLayout.{is_in_reach}
use Rattle.zarrs_packbits.specs.PaddingByte.{value_len, value_with}
use Rattle.zarrs_chain_meaning.specs.Chain.{codec_held_value}
use Rattle.zarrs_chain.specs.ChainView.{plain_vlen, plain_vlen_at}
use Rattle.zarrs_chain_meaning.specs.CodecMeaning.{bytes_codec, packbits_codec, meaning, codec_representation, codec_chunk}
use Rattle.zarrs_chain_meaning.specs.vlen.Vlen.{vlen_representation}
use Rattle.zarrs_chain.specs.declared.vlen.vlen_codec.VlenCodec.{VlenCodec}
use Rattle.zarrs_array_to_array.proofs.Refusals.{bind_no_fault, demand_no_fault, seen_no_fault}

seen_then : {A : Type 0} (r : Result ℕ CodecError) (f : Result A CodecError) → seen FixedSize r >>= (λ _. f) ≡ r >>= (λ _. f)
seen_then (Ok n) f = refl
seen_then (Err e) f = refl

pub bytes_held_value : {B : Type 0} (f : BytesCodecs B) (order : Option Endianness) (sizes : List ℕ) (type : ElementType) (fill : List ℕ) (held : Held) → codec_held_value f (bytes_codec order) sizes type fill held ≡ bytes_value order (form_of sizes type fill) held
unfolding meaning
bytes_held_value f order sizes type fill held =
    seen_then (bytes_length order (form_of sizes type fill)) (validity type (product sizes) held >>= (λ _. Ok (spelling order type (elements type (product sizes) held))))

layout_then : {L : Type 0} (r : Result L CodecError) (size : L → ℕ) (v : Result (Unit {0}) CodecError) (f : L → List ℕ) → seen FixedSize (seen size r) >>= (λ _. v >>= (λ _. r >>= (λ l. Ok (f l)))) ≡ r >>= (λ l. v >>= (λ _. Ok (f l)))
layout_then (Ok l) size v f = refl
layout_then (Err e) size v f = refl

pub packbits_held_value : {B : Type 0} (f : BytesCodecs B) (settings : PackBitsSettings) (sizes : List ℕ) (type : ElementType) (fill : List ℕ) (held : Held) → codec_held_value f (packbits_codec settings) sizes type fill held ≡ packbits_value settings (form_of sizes type fill) held
unfolding meaning
packbits_held_value f settings sizes type fill held =
    layout_then (packed_layout settings (form_of sizes type fill)) value_len (validity type (product sizes) held) (λ l. value_with l (chunk_stream l (elements type (product sizes) held)))

-- ---- errors of a representation are no faults of a handle

pub count_no_fault : (test : Bool) (n : ℕ) → is_fault {T = ℕ} (if test then Ok n else Err Overflow) ≡ false
count_no_fault true n = refl
count_no_fault false n = refl

layout_no_fault : (settings : PackBitsSettings) (sizes : List ℕ) (type : ElementType) (fill : List ℕ) → is_fault (packed_layout settings (form_of sizes type fill)) ≡ false
layout_no_fault settings sizes (fixed width components sign) fill =
    bind_no_fault (demand (fill_fits (fixed width components sign) fill) InvalidFillValue) _ (demand_no_fault (fill_fits (fixed width components sign) fill) InvalidFillValue refl)
    (λ _. bind_no_fault (demand (has_bits settings width && nat_lt 0 components) BitRange) _ (demand_no_fault (has_bits settings width && nat_lt 0 components) BitRange refl)
    (λ _. bind_no_fault (checked_u64 (product sizes)) _ (count_no_fault (nat_lt (product sizes) (2 ^ 64)) (product sizes))
    (λ count. bind_no_fault (demand (is_in_reach (layout_for settings count width components sign)) Overflow) _ (demand_no_fault (is_in_reach (layout_for settings count width components sign)) Overflow refl) (λ _. refl))))
layout_no_fault settings sizes text fill = refl
layout_no_fault settings sizes bytes fill = refl
layout_no_fault settings sizes (optional type) fill = refl

pub packbits_no_fault : (settings : PackBitsSettings) (sizes : List ℕ) (type : ElementType) (fill : List ℕ) → is_fault (seen FixedSize (packbits_length settings (form_of sizes type fill))) ≡ false
packbits_no_fault settings sizes type fill =
    seen_no_fault FixedSize (packbits_length settings (form_of sizes type fill)) (seen_no_fault value_len (packed_layout settings (form_of sizes type fill)) (layout_no_fault settings sizes type fill))

-- ---- one level of a codec's answers, as the code sees it

pub same_answer : (r expected : Result BytesRepresentation CodecError) → r ≡ expected → Answers memory (λ x. x) r expected
same_answer (Ok x) expected e = sym e
same_answer (Err cause) expected e = λ _. sym e

pub bytes_measured : {B : Type 0} (f : BytesCodecs B) (order : Option Endianness) (sizes : List ℕ) (type : ElementType) (fill : List ℕ) (r : Result BytesRepresentation CodecError) → r ≡ seen FixedSize (bytes_length order (form_of sizes type fill)) → Answers memory (λ x. x) r (codec_representation f (bytes_codec order) sizes type fill)
unfolding meaning
bytes_measured f order sizes type fill r e = same_answer r (seen FixedSize (bytes_length order (form_of sizes type fill))) e

pub packbits_measured : {B : Type 0} (f : BytesCodecs B) (settings : PackBitsSettings) (sizes : List ℕ) (type : ElementType) (fill : List ℕ) (r : Result BytesRepresentation CodecError) → r ≡ seen FixedSize (packbits_length settings (form_of sizes type fill)) → Answers memory (λ x. x) r (codec_representation f (packbits_codec settings) sizes type fill)
unfolding meaning
packbits_measured f settings sizes type fill r e = same_answer r (seen FixedSize (packbits_length settings (form_of sizes type fill))) e

pub vlen_measured : {B : Type 0} (f : BytesCodecs B) (codec : VlenCodec B) (sizes : List ℕ) (type : ElementType) (fill : List ℕ) (r : Result BytesRepresentation CodecError) → r ≡ vlen_representation sizes type [] → Answers memory (λ x. x) r (codec_representation f (plain_vlen codec) sizes type fill)
unfolding meaning
vlen_measured f codec sizes type fill r e = rw (plain_vlen_at codec) (same_answer r (vlen_representation sizes type []) e)

pub vlen_measured_exactly : {B : Type 0} (f : BytesCodecs B) (codec : VlenCodec B) (sizes : List ℕ) (type : ElementType) (fill : List ℕ) (r : Result BytesRepresentation CodecError) → r ≡ vlen_representation sizes type [] → r ≡ codec_representation f (plain_vlen codec) sizes type fill
unfolding meaning
vlen_measured_exactly f codec sizes type fill r e = rw (plain_vlen_at codec) e

pub bytes_chunk_at : {B : Type 0} (f : BytesCodecs B) (order : Option Endianness) (sizes : List ℕ) (type : ElementType) (fill value : List ℕ) → codec_chunk f (bytes_codec order) sizes type fill value ≡ bytes_chunk order (form_of sizes type fill) value
unfolding meaning
bytes_chunk_at f order sizes type fill value = refl

pub packbits_chunk_at : {B : Type 0} (f : BytesCodecs B) (settings : PackBitsSettings) (sizes : List ℕ) (type : ElementType) (fill value : List ℕ) → codec_chunk f (packbits_codec settings) sizes type fill value ≡ packbits_chunk settings (form_of sizes type fill) value
unfolding meaning
packbits_chunk_at f settings sizes type fill value = refl
