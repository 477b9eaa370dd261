-- The codecs `vlen-utf8` and `vlen-bytes`: how many elements there are, and each behind its length.
-- Source: zarr-extensions, `vlen-utf8` and `vlen-bytes`.
use Rattle.std.specs.Int.{w32, to_le_bytes, from_le_bytes}
use Rattle.std.specs.List.{flat_map, list_all}
use Rattle.std.specs.Prelude.{ℕ, zero, suc, ◌+◌, ◌-◌, ◌^◌, ◌==◌, Bool, true, false, ◌&&◌, nat_lt, nat_le, List, [], ◌∷◌, ◌++◌, length, take, drop, Result, Ok, ◌≡◌}
use Rattle.zarrs_chunk.specs.Answer.{◌>>=◌, demand, checked_u64}
use Rattle.zarrs_chunk.specs.ChunkShape.{product}
use Rattle.zarrs_chunk.specs.declared.codec_error.CodecError.{CodecError}
use Rattle.zarrs_chunk.specs.declared.codec_error.CodecError.TheVariants.{UnsupportedDataType, OffsetTooLarge, InvalidBytesLength, ElementCount}
use Rattle.zarrs_chunk.specs.declared.codec_error.CodecName.{CodecName}
use Rattle.zarrs_data_type.specs.Element.{Element, plain, Chunk}
use Rattle.zarrs_data_type.specs.ElementType.{ElementType, text, bytes}
use Rattle.zarrs_data_type.specs.Form.{Form, form_of}
use Rattle.zarrs_array_bytes.specs.Elements.{elements}
use Rattle.zarrs_array_bytes.specs.Held.{Held}
use Rattle.zarrs_array_bytes.specs.Validity.{validity}
use Rattle.zarrs_codec.specs.declared.bytes_representation.BytesRepresentation.{BytesRepresentation}
use Rattle.zarrs_codec.specs.declared.bytes_representation.BytesRepresentation.TheVariants.{UnboundedSize}
use Rattle.zarrs_bytes.specs.ByteOrder.{bytes_of}
use Rattle.zarrs_bytes.specs.BytesCodec.{IsChunk}
use Rattle.zarrs_vlen_v2.specs.declared.vlen_v2_codec.TheConstants.{VLEN_UTF8, VLEN_BYTES}
use Rattle.zarrs_vlen_v2.specs.declared.vlen_v2_codec.VlenV2Codec.{VlenV2Codec}
use Rattle.zarrs_vlen_v2.specs.declared.vlen_v2_codec.VlenV2Codec.TheVariants.{Utf8, Bytes}

-- ---- which chunks, and how many bytes

-- `vlen-utf8` accepts texts, `vlen-bytes` byte strings
abbrev pub accepts : VlenV2Codec → ElementType → Bool
accepts Utf8 text = true
accepts Bytes bytes = true
accepts _ _ = false

-- its name in errors
abbrev pub error_name : VlenV2Codec → CodecName
error_name Utf8 = VLEN_UTF8
error_name Bytes = VLEN_BYTES

-- the representation of the value of such a chunk, or the first error of chunks that the codec doesn't accept
abbrev pub vlen_v2_represented : VlenV2Codec → Form → Result BytesRepresentation CodecError
vlen_v2_represented codec form = do
  _ ← demand (accepts codec form.type) (UnsupportedDataType (error_name codec))
  _ ← checked_u64 (product form.sizes)
  Ok UnboundedSize

-- the answer is that representation, or the first error; it is never out of memory
abbrev pub VlenV2RepresentsNow : VlenV2Codec → List ℕ → ElementType → List ℕ → Result BytesRepresentation CodecError → Type 0
VlenV2RepresentsNow codec sizes type fill result = result ≡ vlen_v2_represented codec (form_of sizes type fill)

-- ---- numbers

-- a number's four bytes, the lowest first; shut, since they compute to a long list
unfoldable pub u32_bytes : ℕ → List ℕ
u32_bytes n = to_le_bytes w32 n

-- the number that four bytes spell, the lowest first; shut likewise
unfoldable pub u32_of : List ℕ → ℕ
u32_of items = from_le_bytes w32 items

-- the number has four bytes
abbrev pub fits_u32 : ℕ → Bool
fits_u32 n = nat_lt n (2 ^ 32)

-- ---- the value of a chunk

-- bytes behind their length
abbrev pub prefixed : List ℕ → List ℕ
prefixed items = u32_bytes (length items) ++ items

-- an element behind its length
abbrev pub prefixed_element : Element → List ℕ
prefixed_element element = prefixed (bytes_of element)

-- the number of elements, and then each behind its length
abbrev pub vlen_v2_layout : Chunk → List ℕ
vlen_v2_layout chunk = u32_bytes (length chunk) ++ flat_map prefixed_element chunk

-- the length of an element has four bytes
abbrev pub is_short : Element → Bool
is_short element = fits_u32 (length (bytes_of element))

-- the number of elements and their lengths have four bytes
abbrev pub lengths_fit : Chunk → Bool
lengths_fit chunk = fits_u32 (length chunk) && list_all is_short chunk

-- the value of a chunk that the codec accepts, or the error
abbrev pub prefixed_value : Chunk → Result (List ℕ) CodecError
prefixed_value chunk = do
  _ ← demand (lengths_fit chunk) OffsetTooLarge
  Ok (vlen_v2_layout chunk)

-- the value of the chunk that a container holds, or the first error
abbrev pub vlen_v2_value : VlenV2Codec → Form → Held → Result (List ℕ) CodecError
vlen_v2_value codec form held = do
  _ ← vlen_v2_represented codec form
  _ ← validity form.type (product form.sizes) held
  prefixed_value (elements form.type (product form.sizes) held)

-- ---- the chunk of a value

-- so many elements, each behind its length, and nothing behind the last; the row begins at a place of a value of so many bytes
abbrev pub elements_in : ℕ → ℕ → ℕ → List ℕ → Result Chunk CodecError
elements_in zero whole at row = do
  _ ← demand (length row == 0) (InvalidBytesLength whole at)
  Ok []
elements_in (suc count) whole at row = do
  _ ← demand (nat_le 4 (length row)) (InvalidBytesLength whole (at + 4))
  let size = u32_of (take 4 row)
  _ ← demand (nat_le size (length row - 4)) (InvalidBytesLength whole (at + 4 + size))
  chunk ← elements_in count whole (at + 4 + size) (drop size (drop 4 row))
  Ok (plain (take size (drop 4 row)) ∷ chunk)

-- the number of elements, which is the one that is due, and then they
abbrev pub elements_of_value : ℕ → List ℕ → Result Chunk CodecError
elements_of_value count value = do
  _ ← demand (nat_le 4 (length value)) (InvalidBytesLength (length value) 4)
  _ ← demand (u32_of (take 4 value) == count) ElementCount
  elements_in count (length value) 4 (drop 4 value)

-- the chunk that a value stands for, or the first error
abbrev pub vlen_v2_chunk : VlenV2Codec → Form → List ℕ → Result Chunk CodecError
vlen_v2_chunk codec form value = do
  _ ← vlen_v2_represented codec form
  elements_of_value (product form.sizes) value

-- ---- what stands and what is written

-- four bytes that spell how many bytes follow, those, and a row behind them
pub record IsPrefixed (items : List ℕ) (Rest : List ℕ → Type 0) (row : List ℕ) : Type 0 where
  pub head : List ℕ
  pub behind : List ℕ
  pub parts : row ≡ head ++ (items ++ behind)
  pub head_size : length head ≡ 4
  pub head_is : u32_of head ≡ length items
  pub rest : Rest behind

-- a row of these elements, each behind its length, and nothing behind them
abbrev pub IsRow : Chunk → List ℕ → Type 0
IsRow [] row = row ≡ []
IsRow (plain items ∷ chunk) row = IsPrefixed items (IsRow chunk) row
IsRow (_ ∷ chunk) row = ⊥

-- The value stands for the chunk: the codec accepts such chunks; and the value is four bytes that spell how many elements there are, and a row of these.
pub record VlenV2Stands (codec : VlenV2Codec) (form : Form) (value : List ℕ) (chunk : Chunk) : Type 0 where
  pub taken : vlen_v2_represented codec form ≡ Ok UnboundedSize
  pub head : List ℕ
  pub row : List ℕ
  pub parts : value ≡ head ++ row
  pub head_size : length head ≡ 4
  pub head_is : u32_of head ≡ product form.sizes
  pub count_is : length chunk ≡ product form.sizes
  pub entries : IsRow chunk row

-- The value is written for the chunk: the codec accepts such chunks, the number of elements and their lengths have four bytes, and the value is these and the elements' bytes.
pub record VlenV2Written (codec : VlenV2Codec) (form : Form) (value : List ℕ) (chunk : Chunk) : Type 0 where
  pub taken : vlen_v2_represented codec form ≡ Ok UnboundedSize
  pub elements : IsChunk form.type (product form.sizes) chunk
  pub fit : lengths_fit chunk ≡ true
  pub spelt : value ≡ vlen_v2_layout chunk
