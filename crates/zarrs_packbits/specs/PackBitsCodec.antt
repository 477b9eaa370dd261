-- What the codec `packbits` answers, for which chunk a value stands, and which value is written for a chunk.
-- Source: zarr-extensions, `packbits`.
use Rattle.std.specs.Prelude.{◌≡◌, ℕ, ◌==◌, true, List, length, drop, map, Result, Ok}
use Rattle.std.specs.List.{range_with_len}
use Rattle.std.proofs.Common.{Global}
use Rattle.std.specs.declared.borrow.CowSlice.{CowSlice}
use Rattle.zarrs_chunk.specs.Answer.{◌>>=◌, GivesBy, demand, seen}
use Rattle.zarrs_chunk.specs.ChunkShape.{product}
use Rattle.zarrs_chunk.specs.declared.codec_error.CodecError.{CodecError}
use Rattle.zarrs_chunk.specs.declared.codec_error.CodecError.TheVariants.{InvalidBytesLength, PaddingByte}
use Rattle.zarrs_data_type.specs.Element.{Chunk}
use Rattle.zarrs_data_type.specs.ElementType.{ElementType}
use Rattle.zarrs_array_bytes.specs.Elements.{elements}
use Rattle.zarrs_array_bytes.specs.Held.{Held, items_of}
use Rattle.zarrs_array_bytes.specs.Pieces.{fixed_of}
use Rattle.zarrs_array_bytes.specs.Validity.{Holds, validity}
use Rattle.zarrs_data_type.specs.Form.{Form, form_of}
use Rattle.zarrs_bytes.specs.BytesCodec.{IsChunk}
use Rattle.zarrs_bytes.specs.GivenBytes.{EncodesNow, DecodesNow, IsGiven, HoldsGiven}
use Rattle.zarrs_packbits.specs.Bits.{bits_of, field}
use Rattle.zarrs_packbits.specs.BitStream.{chunk_stream, packed_element}
use Rattle.zarrs_packbits.specs.NormalForm.{normal_chunk}
use Rattle.zarrs_packbits.specs.PackBitsSettings.{PackBitsSettings, packed_layout, KeepsAllBytes}
use Rattle.zarrs_packbits.specs.declared.layout.PackedLayout.{PackedLayout}
use Rattle.zarrs_packbits.specs.PackedLayout.{bits_in}
use Rattle.zarrs_packbits.specs.PaddingByte.{lead, value_len, padding_holds, value_with}

-- ---- its grammar

-- The value stands for the chunk: the codec accepts such chunks; the value has its length, and its padding byte is the number of spare bits; without a padding byte before them, its first bits are the kept ones of the chunk's components, in order; and the chunk has no other bits. Spare bits are free.
pub record PackBitsStands (settings : PackBitsSettings) (form : Form) (value : List ℕ) (chunk : Chunk) : Type 0 where
  pub layout : PackedLayout
  pub taken : packed_layout settings form ≡ Ok layout
  pub elements : IsChunk form.type (product form.sizes) chunk
  pub len : length value ≡ value_len layout
  pub padding : padding_holds layout value ≡ true
  pub bits : field 0 (bits_in layout) (bits_of (drop (lead layout) value)) ≡ chunk_stream layout chunk
  pub kept : normal_chunk settings form.type chunk ≡ chunk

-- The value is written for the chunk: the codec accepts such chunks, and the value is the kept bits of the chunk's components, in order, in as few bytes as hold them, with zeros for spare bits, and the padding byte where it belongs.
pub record PackBitsWritten (settings : PackBitsSettings) (form : Form) (value : List ℕ) (chunk : Chunk) : Type 0 where
  pub layout : PackedLayout
  pub taken : packed_layout settings form ≡ Ok layout
  pub elements : IsChunk form.type (product form.sizes) chunk
  pub spelt : value ≡ value_with layout (chunk_stream layout chunk)

-- ---- what its calls answer

-- the value of the chunk that a container holds, or the first error
abbrev pub packbits_value : PackBitsSettings → Form → Held → Result (List ℕ) CodecError
packbits_value settings form held = do
  l ← packed_layout settings form
  _ ← validity form.type (product form.sizes) held
  Ok (value_with l (chunk_stream l (elements form.type (product form.sizes) held)))

-- the chunk that a value stands for, or the first error
abbrev pub packbits_chunk : PackBitsSettings → Form → List ℕ → Result Chunk CodecError
packbits_chunk settings form value = do
  l ← packed_layout settings form
  _ ← demand (length value == value_len l) (InvalidBytesLength (length value) (value_len l))
  _ ← demand (padding_holds l value) PaddingByte
  Ok (map (packed_element l value) (range_with_len 0 (product form.sizes)))

-- a value has its length, and its padding byte is the number of spare bits, or the first error
abbrev pub value_checked : PackedLayout → List ℕ → Result (Unit {0}) CodecError
value_checked l value = do
  _ ← demand (length value == value_len l) (InvalidBytesLength (length value) (value_len l))
  demand (padding_holds l value) PaddingByte

-- these are the elements, all of one size, of the chunk that a value stands for, or the first error is returned
abbrev pub PackBitsPutsElements : {T : Type 0} → PackBitsSettings → Form → List ℕ → List ℕ → Result T CodecError → Type 0
PackBitsPutsElements settings form value elements result =
    GivesBy (λ items. Holds form.type (fixed_of items)) (seen (λ _. elements) result) (packbits_chunk settings form value)

-- where all bits of whole bytes are kept, the value of a container's chunk is answered in no new memory, or the first error
abbrev pub PackBitsEncodesInPlace : PackBitsSettings → Form → Held → Result (CowSlice ℕ Global) CodecError → Type 0
PackBitsEncodesInPlace settings form held result =
    KeepsAllBytes settings form → EncodesNow (packbits_value settings) form held result

-- where all bits of whole bytes are kept, a container of a value's chunk is answered in no new memory, or the first error
abbrev pub PackBitsDecodesInPlace : PackBitsSettings → Form → CowSlice ℕ Global → Result Held CodecError → Type 0
PackBitsDecodesInPlace settings form given result =
    KeepsAllBytes settings form → DecodesNow (packbits_chunk settings) form (items_of given) result

-- ---- where all bits of whole bytes are kept, of chunks of these sizes, this type and this fill value

-- what is answered is the bytes that the container holds, owned or borrowed as they were given
abbrev pub Keeps : PackBitsSettings → List ℕ → ElementType → List ℕ → Held → Result (CowSlice ℕ Global) CodecError → Type 0
Keeps settings sizes type fill held result = KeepsAllBytes settings (form_of sizes type fill) → IsGiven held result

-- what is answered is a container of the bytes, owned or borrowed as they were given
abbrev pub KeepsIn : PackBitsSettings → List ℕ → ElementType → List ℕ → CowSlice ℕ Global → Result Held CodecError → Type 0
KeepsIn settings sizes type fill given result =
    KeepsAllBytes settings (form_of sizes type fill) → HoldsGiven given result
