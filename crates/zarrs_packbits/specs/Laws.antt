-- Laws of the codec `packbits`.
use Rattle.zarrs_data_type.specs.Form.{form_of}
use Rattle.std.specs.Prelude.{◌≡◌, ◌<◌, ◌↔◌, ℕ, true, Some, List, length, All, Ok, ◌*◌, ◌≤◌, drop}
use Rattle.zarrs_data_type.specs.Element.{Element, plain, absent, present, Chunk}
use Rattle.zarrs_data_type.specs.ElementType.{ElementType}
use Rattle.zarrs_data_type.specs.declared.endianness.Endianness.TheVariants.{Little}
use Rattle.zarrs_array_bytes.specs.Elements.{select}
use Rattle.zarrs_array_bytes.specs.Update.{update}
use Rattle.zarrs_bytes.specs.BytesCodec.{BytesWritten}
use Rattle.zarrs_codec.specs.ByteRanges.{SameByte}
use Rattle.zarrs_packbits.specs.declared.layout.PackedLayout.{PackedLayout}
use Rattle.zarrs_packbits.specs.NormalForm.{normal_chunk}
use Rattle.zarrs_packbits.specs.PackBitsCodec.{packbits_chunk, PackBitsStands, PackBitsWritten}
use Rattle.zarrs_packbits.specs.PackBitsSettings.{PackBitsSettings, packed_layout, packbits_length, keeps_all_bytes}
use Rattle.zarrs_packbits.specs.Bits.{bits_of, field}
use Rattle.zarrs_packbits.specs.PackedLayout.{element_bits_len}
use Rattle.zarrs_packbits.specs.PaddingByte.{lead}
use Rattle.zarrs_packbits.specs.PartialRead.{packed_places_bytes, read_packed_places, read_places_of, run_end}

-- A value that is written for a chunk stands for the chunk's normal form.
abbrev pub PackBitsWrittenStands : Type 0
PackBitsWrittenStands =
    (settings : PackBitsSettings) (sizes : List ℕ) (type : ElementType) (fill value : List ℕ) (chunk : Chunk)
    → PackBitsWritten settings (form_of sizes type fill) value chunk → PackBitsStands settings (form_of sizes type fill) value (normal_chunk settings type chunk)

-- What is decoded of a value that is written for a chunk is the chunk's normal form.
abbrev pub DecodedIsNormal : Type 0
DecodedIsNormal =
    (settings : PackBitsSettings) (sizes : List ℕ) (type : ElementType) (fill value : List ℕ) (chunk : Chunk)
    → PackBitsWritten settings (form_of sizes type fill) value chunk → packbits_chunk settings (form_of sizes type fill) value ≡ Ok (normal_chunk settings type chunk)

-- The normal form of a normal form is itself, for chunks that the codec accepts.
abbrev pub NormalOnce : Type 0
NormalOnce =
    (settings : PackBitsSettings) (sizes : List ℕ) (type : ElementType) (fill value : List ℕ) (chunk : Chunk)
    → PackBitsWritten settings (form_of sizes type fill) value chunk → normal_chunk settings type (normal_chunk settings type chunk) ≡ normal_chunk settings type chunk

-- A chunk and its normal form are written alike.
abbrev pub NormalWritten : Type 0
NormalWritten =
    (settings : PackBitsSettings) (sizes : List ℕ) (type : ElementType) (fill value : List ℕ) (chunk : Chunk)
    → PackBitsWritten settings (form_of sizes type fill) value chunk → PackBitsWritten settings (form_of sizes type fill) value (normal_chunk settings type chunk)

-- The normal form of selected elements is those selected of the normal form.
abbrev pub NormalSelected : Type 0
NormalSelected =
    (settings : PackBitsSettings) (type : ElementType) (chunk : Chunk) (places : List ℕ)
    → normal_chunk settings type (select chunk places) ≡ select (normal_chunk settings type chunk) places

-- The normal form of an updated chunk is the normal form updated with that of the new elements.
abbrev pub NormalUpdated : Type 0
NormalUpdated =
    (settings : PackBitsSettings) (type : ElementType) (chunk : Chunk) (places : List ℕ) (new : Chunk)
    → normal_chunk settings type (update chunk places new) ≡ update (normal_chunk settings type chunk) places (normal_chunk settings type new)

-- A value stands for at most one chunk.
abbrev pub PackBitsStandsForOne : Type 0
PackBitsStandsForOne =
    (settings : PackBitsSettings) (sizes : List ℕ) (type : ElementType) (fill value : List ℕ) (chunk other : Chunk)
    → PackBitsStands settings (form_of sizes type fill) value chunk → PackBitsStands settings (form_of sizes type fill) value other → chunk ≡ other

-- Two chunks are written alike exactly if their normal forms are equal.
abbrev pub PackBitsWrittenAlike : Type 0
PackBitsWrittenAlike =
    (settings : PackBitsSettings) (sizes : List ℕ) (type : ElementType) (fill value other_value : List ℕ) (chunk other : Chunk)
    → PackBitsWritten settings (form_of sizes type fill) value chunk → PackBitsWritten settings (form_of sizes type fill) other_value other
    → (value ≡ other_value) ↔ (normal_chunk settings type chunk ≡ normal_chunk settings type other)

-- A written value has the length that the representation declares.
abbrev pub PackBitsHasRepresentedLength : Type 0
PackBitsHasRepresentedLength =
    (settings : PackBitsSettings) (sizes : List ℕ) (type : ElementType) (fill value : List ℕ) (chunk : Chunk) (len : ℕ)
    → PackBitsWritten settings (form_of sizes type fill) value chunk → packbits_length settings (form_of sizes type fill) ≡ Ok len → length value ≡ len

-- Of a value that stands for a chunk, a read of places inside selects the chunk's elements.
abbrev pub PackBitsReadSelects : Type 0
PackBitsReadSelects =
    (settings : PackBitsSettings) (sizes : List ℕ) (type : ElementType) (fill value : List ℕ) (chunk : Chunk) (places : List ℕ)
    → PackBitsStands settings (form_of sizes type fill) value chunk → All (λ place. place < length chunk) places
    → read_places_of settings (form_of sizes type fill) (Some value) places ≡ Ok (select chunk places)

-- Two values that both have all bytes of these places, and the same ones there, are read alike at these places.
abbrev pub PackBitsReadsAlike : Type 0
PackBitsReadsAlike =
    (settings : PackBitsSettings) (sizes : List ℕ) (type : ElementType) (fill : List ℕ) (layout : PackedLayout) (value other places : List ℕ)
    → packed_layout settings (form_of sizes type fill) ≡ Ok layout → All (SameByte value other) (packed_places_bytes layout places)
    → read_packed_places layout type fill (Some value) places ≡ read_packed_places layout type fill (Some other) places

-- the kept bits of the element at a place
abbrev pub place_bits : PackedLayout → List ℕ → ℕ → List ℕ
place_bits l value place = field (place * element_bits_len l) (element_bits_len l) (bits_of (drop (lead l) value))

-- two values both have all bytes of the place, and the same kept bits there
pub record SameBits (l : PackedLayout) (value other : List ℕ) (place : ℕ) : Type 0 where
  pub in_value : run_end l (place, 1) ≤ length value
  pub in_other : run_end l (place, 1) ≤ length other
  pub same : place_bits l value place ≡ place_bits l other place

-- Two values that both have all bytes of these places, and the same kept bits there, are read alike at these places, whatever else stands in these bytes.
abbrev pub ReadsBitsAlike : Type 0
ReadsBitsAlike =
    (settings : PackBitsSettings) (sizes : List ℕ) (type : ElementType) (fill : List ℕ) (layout : PackedLayout) (value other places : List ℕ)
    → packed_layout settings (form_of sizes type fill) ≡ Ok layout → All (SameBits layout value other) places
    → read_packed_places layout type fill (Some value) places ≡ read_packed_places layout type fill (Some other) places

-- the bytes of an element are below 256, as all bytes are
abbrev pub HasBytes : Element → Type 0
HasBytes (plain bytes) = All (λ byte. byte < 256) bytes
HasBytes absent = Unit {0}
HasBytes (present element) = HasBytes element

-- Where all bits of whole bytes are kept, a value is written for a chunk exactly if the codec `bytes` in little order writes it.
abbrev pub WrittenAsBytes : Type 0
WrittenAsBytes =
    (settings : PackBitsSettings) (sizes : List ℕ) (type : ElementType) (fill value : List ℕ) (chunk : Chunk)
    → keeps_all_bytes (packed_layout settings (form_of sizes type fill)) ≡ true → All HasBytes chunk
    → PackBitsWritten settings (form_of sizes type fill) value chunk ↔ BytesWritten (Some Little) (form_of sizes type fill) value chunk
