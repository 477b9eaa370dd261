-- A container that holds a chunk which a value stands for has as many elements as were asked for.
use Rattle.zarrs_data_type.specs.Form.{Form, form_of}
use Rattle.std.proofs.Common.{◌≡◌, ℕ, List, Result, Ok, Err, subst, refl, Option, Global}
use Rattle.std.specs.Prelude.{IfOk, is_some, true}
use Rattle.std.specs.declared.borrow.CowSlice.{CowSlice}
use Rattle.zarrs_chunk.specs.ChunkShape.{product}
use Rattle.zarrs_chunk.specs.declared.codec_error.CodecError.{CodecError}
use Rattle.zarrs_data_type.specs.Element.{Chunk}
use Rattle.zarrs_data_type.specs.ElementType.{ElementType, fixed, text, bytes, optional, fixed_size_of}
use Rattle.zarrs_array_bytes.specs.Tight.{IsTight}
use Rattle.zarrs_array_bytes.specs.Held.{Held, items_of}
use Rattle.zarrs_array_bytes.specs.Validity.{Holds, validity}
use Rattle.zarrs_data_type.specs.declared.endianness.Endianness.{Endianness}
use Rattle.zarrs_array_bytes.proofs.TightLemmas.{sized_tight}
use Rattle.zarrs_codec.specs.CodecMembers.{DecodesAgain}
use Rattle.zarrs_bytes.specs.BytesCodec.{BytesStands, BytesWritten, length_by, bytes_chunk}
use Rattle.zarrs_bytes.proofs.ByGrammar.{bytes_reads}
use Rattle.zarrs_bytes.proofs.CodecLaws.{written_stands}

pub found_valid : (settings : Option Endianness) (sizes : List ℕ) (type : ElementType) (fill value : List ℕ) (r : Result Held CodecError) → IfOk r (λ held. (chunk : Chunk) × Holds type held chunk × BytesStands settings (form_of sizes type fill) value chunk)
    → IfOk r (λ held. validity type (product sizes) held ≡ Ok tt)
found_valid settings sizes type fill value (Ok held) (chunk, h, stands) = subst (λ (k : ℕ). validity type k held ≡ Ok tt) stands.elements.count_is h.valid
found_valid settings sizes type fill value (Err e) f = f

-- a value that is written for a chunk stands for it
pub found_decodes : (settings : Option Endianness) (form : Form) (held : Held) (r : Result (CowSlice ℕ Global) CodecError) → IfOk r (λ value. (chunk : Chunk) × Holds form.type held chunk × BytesWritten settings form (items_of value) chunk)
    → DecodesAgain (bytes_chunk settings) (λ type chunk. chunk) form held r
found_decodes settings form held (Ok value) (chunk, h, written) =
    (chunk, h, (bytes_reads settings).only form (items_of value) chunk (written_stands settings form.sizes form.type form.fill (items_of value) chunk written))
found_decodes settings form held (Err e) f = f

-- a type that the codec accepts is fixed
taken_sized : (settings : Option Endianness) (sizes : List ℕ) (type : ElementType) (fill : List ℕ) (len : ℕ) → length_by settings sizes type fill ≡ Ok len → is_some (fixed_size_of type) ≡ true
taken_sized settings sizes (fixed w c s) fill len e = refl
taken_sized settings sizes text fill len e = cc
taken_sized settings sizes bytes fill len e = cc
taken_sized settings sizes (optional type) fill len e = cc

pub found_tight : (settings : Option Endianness) (sizes : List ℕ) (type : ElementType) (fill value : List ℕ) (r : Result Held CodecError) → IfOk r (λ held. (chunk : Chunk) × Holds type held chunk × BytesStands settings (form_of sizes type fill) value chunk)
    → IfOk r (IsTight type)
found_tight settings sizes type fill value (Ok held) (chunk, h, stands) = sized_tight type held chunk (taken_sized settings sizes type fill stands.len stands.length_is) h
found_tight settings sizes type fill value (Err e) f = f
