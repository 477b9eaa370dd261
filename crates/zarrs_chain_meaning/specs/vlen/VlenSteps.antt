-- The steps of a codec `vlen`, each by what its calls are given.
-- Source: codec.zarrs.dev, `vlen`.
use Rattle.zarrs_data_type.specs.Form.{form_of, Form}
use Rattle.std.specs.Prelude.{◌≡◌, ℕ, ◌+◌, ◌-◌, ◌/◌, Bool, true, false, if◌then◌else◌, List, [], ◌∷◌, length, map, take, drop, slice_index, Result, Ok, IsOk}
use Rattle.std.specs.List.{flat_map}
use Rattle.zarrs_chunk.specs.Answer.{◌>>=◌, demand, Answers, memory}
use Rattle.zarrs_chunk.specs.declared.codec_error.CodecError.{CodecError}
use Rattle.zarrs_chunk.specs.declared.codec_error.CodecError.TheVariants.{InvalidOffsets, OffsetTooLarge, OffsetNotKept}
use Rattle.zarrs_data_type.specs.Element.{Chunk}
use Rattle.zarrs_array_bytes.specs.Held.{Raw, flen}
use Rattle.zarrs_array_bytes.specs.Offsets.{rises, last_of}
use Rattle.zarrs_array_bytes.specs.Pieces.{pieces}
use Rattle.zarrs_array_bytes.specs.Tight.{from_first}
use Rattle.zarrs_codec.specs.BytesToBytesCodec.{BytesCodecs}
use Rattle.zarrs_packbits.specs.PackBitsSettings.{packed_layout, PackBitsSettings}
use Rattle.zarrs_chain_meaning.specs.CodecFacts.{facts}
use Rattle.zarrs_chain_meaning.specs.vlen.Vlen.{offset_of, offsets_in_chunk, offset_bytes, offset_fits, offset_elements, is_same_bytes, offset_type}
use Rattle.zarrs_chain_meaning.specs.CodecMeaning.{PlainCodec, PlainChain, codec_normal_element, chain_value, chain_chunk}
use Rattle.zarrs_chunk.specs.ChunkShape.{product}
use Rattle.zarrs_data_type.specs.ElementType.{ElementType}
use Rattle.zarrs_array_bytes.specs.Validity.{Holds}
use Rattle.zarrs_packbits.specs.NormalForm.{normal_chunk}

-- ---- parts of a value

-- the data of a value whose index has so many bytes
abbrev pub data_part : Bool → ℕ → List ℕ → List ℕ
data_part false size value = drop (8 + size) value
data_part true size value = take (length value - 8 - size) value

-- bytes that are lent
abbrev pub lent_bytes : List ℕ → Raw
lent_bytes items = record { items = items; is_owned = false }

-- ---- offsets

-- how many bytes an offset has
abbrev pub offset_size : Bool → ℕ
offset_size wide = if wide then 8 else 4

-- the bytes of offsets, each counted from `first`
abbrev pub bytes_from : Bool → ℕ → List ℕ → List ℕ
bytes_from wide first offsets = flat_map (λ offset. offset_bytes wide (offset - first)) offsets

-- the type has the last offset, counted from the first
abbrev pub offsets_fit : Bool → List ℕ → Bool
offsets_fit wide offsets = offset_fits wide (last_of offsets - slice_index offsets 0)

-- the bytes of offsets, counted from the first of them, where the type has the last
abbrev pub written_offsets : Bool → List ℕ → Result (List ℕ) CodecError
written_offsets wide offsets = do
  _ ← demand (offsets_fit wide offsets) OffsetTooLarge
  Ok (bytes_from wide (slice_index offsets 0) offsets)

-- the elements of an index, where the type has the last offset
abbrev pub index_elements : Bool → List ℕ → Result Chunk CodecError
index_elements wide offsets = do
  _ ← demand (offsets_fit wide offsets) OffsetTooLarge
  Ok (offset_elements wide (from_first offsets))

-- the offsets that bytes spell
abbrev pub read_offsets : Bool → List ℕ → List ℕ
read_offsets wide items = map (offset_of wide) (pieces (offset_size wide) (length items / offset_size wide) items)

-- ---- what is kept

-- a codec gives offsets back unchanged
abbrev pub keeps_offsets : {B : Type 0} → PlainCodec B → Bool → List ℕ → Bool
keeps_offsets codec wide offsets =
    is_same_bytes (map (codec_normal_element codec (offset_type wide)) (offset_elements wide (from_first offsets))) (offset_elements wide (from_first offsets))

-- a row of so many offsets
abbrev pub offsets_form : Bool → ℕ → Form
offsets_form wide count = form_of (count ∷ []) (offset_type wide) (offset_bytes wide 0)

-- a codec `packbits` takes a row of so many offsets; any other may take it or not
abbrev pub TakesOffsets : {B : Type 0} → PlainCodec B → Bool → ℕ → Type 0
TakesOffsets codec wide count = (facts codec).Packs (offsets_form wide count)

-- ---- parts that are written

-- the index part of offsets through a chain
abbrev pub index_part : {B : Type 0} → BytesCodecs B → PlainChain B → Bool → List ℕ → Result (List ℕ) CodecError
index_part f chain wide offsets = do
  rows ← index_elements wide offsets
  part ← chain_value f chain (length rows ∷ []) (offset_type wide) (offset_bytes wide 0) rows
  _ ← demand (keeps_offsets chain.array_to_bytes wide offsets) OffsetNotKept
  Ok part

-- ---- parts that are read

-- the offsets, so many, that an index part stands for through a chain
abbrev pub index_offsets : {B : Type 0} → BytesCodecs B → PlainChain B → Bool → ℕ → List ℕ → Result (List ℕ) CodecError
index_offsets f chain wide count part = do
  rows ← chain_chunk f chain (count ∷ []) (offset_type wide) (offset_bytes wide 0) part
  _ ← demand (rises (offsets_in_chunk wide rows)) InvalidOffsets
  Ok (offsets_in_chunk wide rows)

-- the codec `packbits` takes chunks of this form
abbrev pub IsPackable : PackBitsSettings → Form → Type 0
IsPackable settings form = IsOk (packed_layout settings form)

-- The answer is whether `packbits` gives the elements of each chunk back unchanged that these bytes hold. Only a lack of memory may come in its place.
abbrev pub TellsKept : PackBitsSettings → List ℕ → ElementType → List ℕ → Result Bool CodecError → Type 0
TellsKept settings sizes type items result =
    (chunk : Chunk) → Holds type (flen (lent_bytes items)) chunk → length chunk ≡ product sizes
    → Answers memory (λ kept. kept) result (Ok (is_same_bytes (normal_chunk settings type chunk) chunk))
