-- What the codec `bytes` answers, for which chunk a value stands, and which value is written for a chunk.
-- Source: the Zarr v3 codec `bytes`.
use Rattle.std.specs.Prelude.{◌≡◌, ℕ, ◌*◌, ◌<◌, ◌^◌, ◌==◌, ◌&&◌, nat_le, is_some, is_ok, if◌then◌else◌, Bool, true, false, not, Option, Some, None, List, [], length, map, Result, Ok, Err}
use Rattle.std.proofs.Common.{Global}
use Rattle.std.specs.List.{range_with_len}
use Rattle.std.specs.declared.borrow.CowSlice.{CowSlice}
use Rattle.zarrs_chunk.specs.Answer.{◌>>=◌, demand, checked_u64, seen}
use Rattle.zarrs_chunk.specs.ChunkShape.{product}
use Rattle.zarrs_chunk.specs.declared.codec_error.CodecError.{CodecError}
use Rattle.zarrs_chunk.specs.declared.codec_error.CodecError.TheVariants.{UnsupportedDataType, InvalidFillValue, EndiannessMissing, InvalidBytesLength}
use Rattle.zarrs_data_type.specs.Element.{Element, plain, absent, Chunk, AreElements}
use Rattle.zarrs_data_type.specs.ElementType.{ElementType, fixed, text, bytes, optional, component_bytes, element_size}
use Rattle.zarrs_data_type.specs.FillValue.{fill_fits}
use Rattle.zarrs_data_type.specs.declared.endianness.Endianness.{Endianness}
use Rattle.zarrs_data_type.specs.declared.endianness.Endianness.TheVariants.{Big}
use Rattle.zarrs_array_bytes.specs.Elements.{piece, elements}
use Rattle.zarrs_array_bytes.specs.Held.{Held, flen, items_of, raw_of}
use Rattle.zarrs_array_bytes.specs.Validity.{validity}
use Rattle.zarrs_data_type.specs.Form.{Form, form_of}
use Rattle.zarrs_codec.specs.declared.bytes_representation.BytesRepresentation.{BytesRepresentation}
use Rattle.zarrs_codec.specs.declared.bytes_representation.BytesRepresentation.TheVariants.{FixedSize}
use Rattle.zarrs_bytes.specs.ByteOrder.{bytes_in_order, has_order, spelled_chunk}
use Rattle.zarrs_bytes.specs.GivenBytes.{EncodesNow, DecodesNow}
use Rattle.zarrs_bytes.specs.declared.bytes_codec.TheConstants.{BYTES}

-- ---- which chunks it takes

-- how many bytes the value of a chunk of these sizes, this type and this fill value has, or the first error
abbrev pub length_by : Option Endianness → List ℕ → ElementType → List ℕ → Result ℕ CodecError
length_by order sizes (fixed width components sign) fill = do
  _ ← demand (fill_fits (fixed width components sign) fill) InvalidFillValue
  count ← checked_u64 (product sizes)
  len ← checked_u64 (count * element_size width components)
  _ ← demand (has_order order width) EndiannessMissing
  Ok len
length_by order sizes type fill = Err (UnsupportedDataType BYTES)

-- how many bytes the value of such a chunk has, or the first error of chunks that the codec doesn't accept
abbrev pub bytes_length : Option Endianness → Form → Result ℕ CodecError
bytes_length order form = length_by order form.sizes form.type form.fill

-- the representation of the value of such a chunk, or the first error of chunks that the codec doesn't accept
abbrev pub bytes_represented : Option Endianness → Form → Result BytesRepresentation CodecError
bytes_represented order form = seen FixedSize (bytes_length order form)

-- the answer is the representation of the value of such a chunk, or the first error; it is never out of memory
abbrev pub RepresentsNow : Option Endianness → List ℕ → ElementType → List ℕ → Result BytesRepresentation CodecError → Type 0
RepresentsNow order sizes type fill result = result ≡ bytes_represented order (form_of sizes type fill)

-- the codec accepts such chunks
abbrev pub BytesTakes : Option Endianness → Form → Type 0
BytesTakes order form = is_ok (bytes_length order form) ≡ true

-- ---- its grammar: the elements of the chunk in order, each component in the byte order

-- so many elements of the type
pub record IsChunk (type : ElementType) (count : ℕ) (chunk : Chunk) : Type 0 where
  pub count_is : length chunk ≡ count
  pub each : AreElements type chunk

-- the bytes of a chunk's elements in order, each component in the byte order; none, where the type isn't fixed
abbrev pub spelling : Option Endianness → ElementType → Chunk → List ℕ
spelling order (fixed width components sign) chunk = spelled_chunk order width components chunk
spelling order type chunk = []

-- The value stands for the chunk: the codec accepts such chunks, and the value is the bytes of the chunk's elements.
pub record BytesStands (order : Option Endianness) (form : Form) (value : List ℕ) (chunk : Chunk) : Type 0 where
  pub len : ℕ
  pub length_is : bytes_length order form ≡ Ok len
  pub elements : IsChunk form.type (product form.sizes) chunk
  pub value_is : value ≡ spelling order form.type chunk

-- The value is written for the chunk: the codec accepts such chunks, the value is the bytes of the chunk's elements, and 64 bits count them.
pub record BytesWritten (order : Option Endianness) (form : Form) (value : List ℕ) (chunk : Chunk) : Type 0 where
  pub len : ℕ
  pub length_is : bytes_length order form ≡ Ok len
  pub elements : IsChunk form.type (product form.sizes) chunk
  pub value_is : value ≡ spelling order form.type chunk
  pub small : length value < 2 ^ 64

-- ---- what its calls answer

-- the element at a place of a value, by the bytes of that place alone
abbrev pub bytes_element : Option Endianness → ElementType → List ℕ → ℕ → Element
bytes_element order (fixed width components sign) value place =
    plain (bytes_in_order order width components (piece (element_size width components) value place))
bytes_element order type value place = absent

-- the value of the chunk that a container holds, or the first error
abbrev pub bytes_value : Option Endianness → Form → Held → Result (List ℕ) CodecError
bytes_value order form held = do
  _ ← bytes_length order form
  _ ← validity form.type (product form.sizes) held
  Ok (spelling order form.type (elements form.type (product form.sizes) held))

-- the chunk that a value stands for, or the first error
abbrev pub bytes_chunk : Option Endianness → Form → List ℕ → Result Chunk CodecError
bytes_chunk order form value = do
  len ← bytes_length order form
  _ ← demand (length value == len) (InvalidBytesLength (length value) len)
  Ok (map (bytes_element order form.type value) (range_with_len 0 (product form.sizes)))

-- how many bytes the components have that the order turns round; none, where it leaves all bytes in their places
abbrev pub turn_size : Option Endianness → ElementType → Option ℕ
turn_size (Some Big) (fixed width components sign) =
    if nat_le (component_bytes width) 1 then None else Some (component_bytes width)
turn_size order type = None

-- whether a call takes memory for a container's bytes: it does where the order turns components round and the bytes are borrowed, so that they are copied first
abbrev pub needs_memory : Option Endianness → ElementType → Held → Bool
needs_memory order type (flen raw) = is_some (turn_size order type) && not raw.is_owned
needs_memory order type held = false

-- where no memory is taken for a container's bytes, its chunk's value is answered, or the first error
abbrev pub EncodesInPlace : Option Endianness → Form → Held → Result (CowSlice ℕ Global) CodecError → Type 0
EncodesInPlace order form held result =
    needs_memory order form.type held ≡ false → EncodesNow (bytes_value order) form held result

-- where no memory is taken for a value's bytes, a container of its chunk is answered, or the first error
abbrev pub DecodesInPlace : Option Endianness → Form → CowSlice ℕ Global → Result Held CodecError → Type 0
DecodesInPlace order form given result =
    needs_memory order form.type (flen (raw_of given)) ≡ false → DecodesNow (bytes_chunk order) form (items_of given) result

-- ---- the same of chunks of these sizes, this type and this fill value

-- where no memory is taken for the container's bytes, its chunk's value is answered, or the first error; it is never out of memory
abbrev pub EncodedNow : Option Endianness → List ℕ → ElementType → List ℕ → Held → Result (CowSlice ℕ Global) CodecError → Type 0
EncodedNow order sizes type fill held result = EncodesInPlace order (form_of sizes type fill) held result

-- where no memory is taken for the value's bytes, a container of its chunk is answered, or the first error; it is never out of memory
abbrev pub DecodedNow : Option Endianness → List ℕ → ElementType → List ℕ → CowSlice ℕ Global → Result Held CodecError → Type 0
DecodedNow order sizes type fill given result = DecodesInPlace order (form_of sizes type fill) given result
