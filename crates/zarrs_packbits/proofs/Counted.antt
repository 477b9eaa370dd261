-- A container that holds a chunk which a value stands for has as many elements as were asked for.
use Rattle.zarrs_data_type.specs.Form.{Form, form_of}
use Rattle.std.proofs.Common.{◌≡◌, ℕ, true, List, Result, Ok, Err, subst, refl, ap, Global}
use Rattle.std.specs.Prelude.{IfOk, IsOkAnd, is_ok, is_some}
use Rattle.std.specs.declared.borrow.CowSlice.{CowSlice}
use Rattle.zarrs_chunk.specs.ChunkShape.{product}
use Rattle.zarrs_chunk.specs.Runs.{joined_runs}
use Rattle.zarrs_chunk.specs.declared.codec_error.CodecError.{CodecError}
use Rattle.zarrs_data_type.specs.Element.{Chunk}
use Rattle.zarrs_data_type.specs.ElementType.{ElementType, fixed, text, bytes, optional, fixed_size_of}
use Rattle.zarrs_array_bytes.specs.Held.{Held, items_of}
use Rattle.zarrs_array_bytes.specs.Tight.{IsTight}
use Rattle.zarrs_array_bytes.specs.Validity.{Holds, validity}
use Rattle.zarrs_array_bytes.proofs.TightLemmas.{sized_tight}
use Rattle.zarrs_codec.specs.StorageState.{StorageState}
use Rattle.zarrs_codec.specs.CodecMembers.{DecodesAgain}
use Rattle.zarrs_packbits.specs.NormalForm.{normal_chunk}
use Rattle.zarrs_packbits.specs.PackBitsCodec.{PackBitsStands, PackBitsWritten, packbits_chunk}
use Rattle.zarrs_packbits.specs.PackBitsSettings.{PackBitsSettings, packed_layout}
use Rattle.zarrs_packbits.specs.PartialRead.{read_places_of, ReadsRuns}
use Rattle.zarrs_packbits.proofs.CodecLaws.{decoded_is_normal}

pub found_valid : (settings : PackBitsSettings) (sizes : List ℕ) (type : ElementType) (fill value : List ℕ) (r : Result Held CodecError) → IfOk r (λ held. (chunk : Chunk) × Holds type held chunk × PackBitsStands settings (form_of sizes type fill) value chunk)
    → IfOk r (λ held. validity type (product sizes) held ≡ Ok tt)
found_valid settings sizes type fill value (Ok held) (chunk, h, stands) = subst (λ (k : ℕ). validity type k held ≡ Ok tt) stands.elements.count_is h.valid
found_valid settings sizes type fill value (Err e) f = f

-- a value that is written for a chunk is decoded again, to the chunk's normal form
pub found_decodes : (settings : PackBitsSettings) (form : Form) (held : Held) (r : Result (CowSlice ℕ Global) CodecError) → IfOk r (λ value. (chunk : Chunk) × Holds form.type held chunk × PackBitsWritten settings form (items_of value) chunk)
    → DecodesAgain (packbits_chunk settings) (normal_chunk settings) form held r
found_decodes settings form held (Ok value) (chunk, h, written) =
    (chunk, h, decoded_is_normal settings form.sizes form.type form.fill (items_of value) chunk written)
found_decodes settings form held (Err e) f = f

-- a type that the codec accepts is fixed: its elements are of one size
taken_sized : (settings : PackBitsSettings) (sizes : List ℕ) (type : ElementType) (fill : List ℕ) → is_ok (packed_layout settings (form_of sizes type fill)) ≡ true → is_some (fixed_size_of type) ≡ true
taken_sized settings sizes (fixed w c s) fill e = refl
taken_sized settings sizes text fill e = cc
taken_sized settings sizes bytes fill e = cc
taken_sized settings sizes (optional type) fill e = cc

-- so its containers are fixed by their elements
pub found_tight : (settings : PackBitsSettings) (sizes : List ℕ) (type : ElementType) (fill value : List ℕ) (r : Result Held CodecError) → IfOk r (λ held. (chunk : Chunk) × Holds type held chunk × PackBitsStands settings (form_of sizes type fill) value chunk)
    → IfOk r (IsTight type)
found_tight settings sizes type fill value (Ok held) (chunk, h, stands) =
    sized_tight type held chunk (taken_sized settings sizes type fill (ap is_ok stands.taken)) h
found_tight settings sizes type fill value (Err e) f = f

answered_tight : (type : ElementType) (held : Held) (due : Result Chunk CodecError) → is_some (fixed_size_of type) ≡ true → IsOkAnd due (Holds type held) → IsTight type held
answered_tight type held (Ok chunk) sized h = sized_tight type held chunk sized h
answered_tight type held (Err e) sized h = absurd h

pub read_tight : (settings : PackBitsSettings) (sizes : List ℕ) (type : ElementType) (fill : List ℕ) (before : StorageState) (runs : List (ℕ × ℕ)) (r : Result Held CodecError) → is_ok (packed_layout settings (form_of sizes type fill)) ≡ true → ReadsRuns settings (form_of sizes type fill) before runs r
    → IfOk r (IsTight type)
read_tight settings sizes type fill before runs (Ok held) e h =
    answered_tight type held (read_places_of settings (form_of sizes type fill) before.value (joined_runs runs)) (taken_sized settings sizes type fill e) h
read_tight settings sizes type fill before runs (Err c) e h = tt
