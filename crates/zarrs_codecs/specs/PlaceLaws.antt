-- What is asked of a read of places, and of what it rests on, so that chains and shards keep it.
use Rattle.std.specs.List.{All, list_all}
use Rattle.std.specs.Prelude.{◌≡◌, ℕ, ◌<◌, Bool, Option, Some, None, List, [], ◌∷◌, length, map, slice_index, Result, Ok, IsOk}
use Rattle.zarrs_array_bytes.specs.Elements.{select}
use Rattle.zarrs_array_to_array.specs.ArrayToArrayCodec.{ArrayMapping}
use Rattle.zarrs_chain_meaning.specs.ArrayStages.{arrays_map}
use Rattle.zarrs_chain_meaning.specs.BytesStages.{outer_bytes}
use Rattle.zarrs_chain_meaning.specs.Meaning.{Measure, Decoder, Meaning}
use Rattle.zarrs_chunk.specs.Answer.{◌>>=◌, seen}
use Rattle.zarrs_chunk.specs.ChunkShape.{product}
use Rattle.zarrs_chunk.specs.declared.codec_error.CodecError.{CodecError}
use Rattle.zarrs_codec.specs.BytesToBytesCodec.{BytesCodecs}
use Rattle.zarrs_codec.specs.StorageState.{value_indices}
use Rattle.zarrs_codec.specs.declared.bytes_representation.BytesRepresentation.{BytesRepresentation}
use Rattle.zarrs_codecs.specs.PartRead.{PlaceReader}
use Rattle.zarrs_data_type.specs.Element.{Element, Chunk, fill_element}
use Rattle.zarrs_data_type.specs.ElementType.{ElementType}

-- the numbers of the bytes that a read of places rests on, beside how many bytes there are: of a chunk of these sizes, this type and this fill value, by the bytes that are there, or by none; or the first error
abbrev pub Resting : Type 0
Resting = List ℕ → ElementType → List ℕ → Option (List ℕ) → List ℕ → Result (List ℕ) CodecError

-- ---- through a chain

-- what a chain reads whose array-to-bytes codec reads so
abbrev pub read_through : {B : Type 0} → BytesCodecs B → List ArrayMapping → Measure → PlaceReader → List B → PlaceReader
read_through f arrays measure read outer sizes type fill None places = Ok (map (λ _. fill_element type fill) places)
read_through f arrays measure read outer sizes type fill (Some value) places = do
  m ← arrays_map type arrays sizes
  r ← measure m.encoded type fill
  below ← outer_bytes f outer r value
  read m.encoded type fill (Some below) (map m.to places)

-- and what that rests on: with bytes-to-bytes codecs all bytes
abbrev pub rests_through : {B : Type 0} → List ArrayMapping → Resting → List B → Resting
rests_through arrays rests [] sizes type fill stored places = do
  m ← arrays_map type arrays sizes
  rests m.encoded type fill stored (map m.to places)
rests_through arrays rests (codec ∷ codecs) sizes type fill stored places = Ok (value_indices stored)

-- ---- the laws

-- the lists have the same members: what all of one are, all of the other are
abbrev pub SameMembers : List ℕ → List ℕ → Type 0
SameMembers ps qs = (test : ℕ → Bool) → list_all test ps ≡ list_all test qs

-- Places are read each by itself, where the read doesn't fail; and whether it does goes by which places they are, not by their order.
pub record ReadsEach (read : List ℕ → Result Chunk CodecError) : Type 0 where
  pub element : ℕ → Element
  pub refusal : List ℕ → Result (Unit {0}) CodecError
  pub same : (ps qs : List ℕ) → SameMembers ps qs → refusal ps ≡ refusal qs
  pub is : (places : List ℕ) → read places ≡ (refusal places >>= λ _. Ok (map element places))

-- reads of the same places, in whatever order, rest on the same bytes
abbrev pub RestsEach : (List ℕ → Result (List ℕ) CodecError) → Type 0
RestsEach rests = (ps qs : List ℕ) → SameMembers ps qs → (test : ℕ → Bool) → seen (list_all test) (rests ps) ≡ seen (list_all test) (rests qs)

-- both values have the same byte with this number, or neither has one
abbrev pub IsSame : List ℕ → List ℕ → ℕ → Type 0
IsSame value other number = slice_index value number ≡ slice_index other number

-- Locality: values of one length with the same bytes where the read rests are read alike, or rejected for the same cause.
abbrev pub ReadsBy : PlaceReader → Resting → Type 0
ReadsBy read rests =
    (sizes : List ℕ) (type : ElementType) (fill value other places numbers : List ℕ)
    → length value ≡ length other → rests sizes type fill (Some value) places ≡ Ok numbers → All (IsSame value other) numbers → read sizes type fill (Some value) places ≡ read sizes type fill (Some other) places

-- of a value that it reads as a chunk, a codec that takes such chunks reads the chunk's elements
abbrev pub SelectsOfChunk : Measure → Decoder → PlaceReader → Type 0
SelectsOfChunk measure decode read =
    (sizes : List ℕ) (type : ElementType) (fill value : List ℕ) (r : BytesRepresentation) (chunk : Chunk) (places : List ℕ)
    → All (λ size. 0 < size) sizes → measure sizes type fill ≡ Ok r → decode sizes type fill value ≡ Ok chunk → All (λ place. place < product sizes) places
    → read sizes type fill (Some value) places ≡ Ok (select chunk places)

-- Where nothing is stored, fill elements are read; of a value that is read as a chunk, the chunk's; each by itself. What a read of a chunk that the codec takes rests on is known, and goes by which places they are; and the read rests on these bytes alone.
pub record IsLawfulReader {B : Type 0} (f : BytesCodecs B) (m : Meaning B) (read : PlaceReader) (rests : Resting) : Type 0 where
  pub fills : (sizes : List ℕ) (type : ElementType) (fill : List ℕ) (r : BytesRepresentation) (places : List ℕ) → m.representation f sizes type fill ≡ Ok r → read sizes type fill None places ≡ Ok (map (λ _. fill_element type fill) places)
  pub selects : m.Mapped → SelectsOfChunk (m.representation f) (m.chunk f) read
  pub each : (sizes : List ℕ) (type : ElementType) (fill : List ℕ) (stored : Option (List ℕ)) → ReadsEach (read sizes type fill stored)
  pub rests_each : (sizes : List ℕ) (type : ElementType) (fill : List ℕ) (stored : Option (List ℕ)) → RestsEach (rests sizes type fill stored)
  pub rests_found : (sizes : List ℕ) (type : ElementType) (fill : List ℕ) (r : BytesRepresentation) (stored : Option (List ℕ)) (places : List ℕ) → m.representation f sizes type fill ≡ Ok r → IsOk (rests sizes type fill stored places)
  pub local : ReadsBy read rests
