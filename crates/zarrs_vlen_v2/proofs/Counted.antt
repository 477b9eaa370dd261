-- A container that holds a chunk which a value stands for has as many elements as were asked for, and is fixed by them.
use Rattle.std.proofs.Common.{◌≡◌, ℕ, true, List, None, Result, Ok, Err, refl, subst, Global}
use Rattle.std.specs.Prelude.{IfOk}
use Rattle.std.specs.declared.borrow.CowSlice.{CowSlice}
use Rattle.zarrs_chunk.specs.ChunkShape.{product}
use Rattle.zarrs_chunk.specs.declared.codec_error.CodecError.{CodecError}
use Rattle.zarrs_data_type.specs.Element.{Chunk}
use Rattle.zarrs_data_type.specs.ElementType.{ElementType, fixed, text, bytes, optional, is_variable, inner_of}
use Rattle.zarrs_data_type.specs.Form.{Form, form_of}
use Rattle.zarrs_array_bytes.specs.Held.{Held, items_of}
use Rattle.zarrs_array_bytes.specs.Tight.{IsTight, GivesFlush}
use Rattle.zarrs_array_bytes.specs.Validity.{Holds, validity}
use Rattle.zarrs_array_bytes.proofs.TightLemmas.{simple_tight}
use Rattle.zarrs_codec.specs.CodecMembers.{DecodesAgain}
use Rattle.zarrs_vlen_v2.specs.VlenV2Codec.{vlen_v2_chunk, VlenV2Stands, VlenV2Written}
use Rattle.zarrs_vlen_v2.specs.declared.vlen_v2_codec.VlenV2Codec.{VlenV2Codec}
use Rattle.zarrs_codec.specs.declared.bytes_representation.BytesRepresentation.TheVariants.{UnboundedSize}
use Rattle.zarrs_vlen_v2.proofs.CodecLaws.{accepted, decoded_is_written}

pub found_valid : (codec : VlenV2Codec) (sizes : List ℕ) (type : ElementType) (fill value : List ℕ) (r : Result Held CodecError) → IfOk r (λ held. (chunk : Chunk) × Holds type held chunk × VlenV2Stands codec (form_of sizes type fill) value chunk)
    → IfOk r (λ held. validity type (product sizes) held ≡ Ok tt)
found_valid codec sizes type fill value (Ok held) (chunk, h, stands) = subst (λ (k : ℕ). validity type k held ≡ Ok tt) stands.count_is h.valid
found_valid codec sizes type fill value (Err e) f = f

pub variable_simple : (type : ElementType) → is_variable type ≡ true → inner_of type ≡ None
variable_simple (fixed width components sign) v = refl
variable_simple text v = refl
variable_simple bytes v = refl
variable_simple (optional type) v = absurd cc

pub found_tight : (codec : VlenV2Codec) (sizes : List ℕ) (type : ElementType) (fill value : List ℕ) (r : Result Held CodecError) → IfOk r (λ held. (chunk : Chunk) × Holds type held chunk × VlenV2Stands codec (form_of sizes type fill) value chunk) → GivesFlush r
    → IfOk r (IsTight type)
found_tight codec sizes type fill value (Ok held) (chunk, h, stands) flush =
    simple_tight type held (variable_simple type (accepted codec (form_of sizes type fill) UnboundedSize stands.taken).variable) flush
found_tight codec sizes type fill value (Err e) f flush = tt

-- a value that is written for a chunk is decoded again, to that chunk
pub found_decodes : (codec : VlenV2Codec) (form : Form) (held : Held) (r : Result (CowSlice ℕ Global) CodecError) → IfOk r (λ value. (chunk : Chunk) × Holds form.type held chunk × VlenV2Written codec form (items_of value) chunk)
    → DecodesAgain (vlen_v2_chunk codec) (λ type chunk. chunk) form held r
found_decodes codec form held (Ok value) (chunk, h, written) = (chunk, h, decoded_is_written codec form (items_of value) chunk written)
found_decodes codec form held (Err e) f = f
