-- What an array-to-bytes codec means, as one record, and a chain by that of its array-to-bytes codec.
use Rattle.std.specs.Prelude.{ℕ, List, [], ◌∷◌, Result, Ok, ◌≡◌, zero, suc, All}
use Rattle.zarrs_array_bytes.specs.Validity.{sizes_fit}
use Rattle.zarrs_array_to_array.specs.ArrayToArrayCodec.{ArrayMapping, IsMapping}
use Rattle.zarrs_bytes.specs.BytesCodec.{IsChunk}
use Rattle.zarrs_chain_meaning.specs.ArrayStages.{arrays_map}
use Rattle.zarrs_chain_meaning.specs.BytesStages.{outer_representation, outer_bytes, outer_value}
use Rattle.zarrs_chunk.specs.Answer.{◌>>=◌}
use Rattle.zarrs_chunk.specs.ChunkShape.{product}
use Rattle.zarrs_chunk.specs.declared.codec_error.CodecError.{CodecError}
use Rattle.zarrs_codec.specs.BytesToBytesCodec.{BytesCodecs}
use Rattle.zarrs_codec.specs.CoordinateMap.{CoordinateMap, moved_chunk, inverse_map}
use Rattle.zarrs_codec.specs.declared.bytes_representation.BytesRepresentation.{BytesRepresentation}
use Rattle.zarrs_data_type.specs.Element.{Element, Chunk}
use Rattle.zarrs_data_type.specs.ElementType.{ElementType}
use Rattle.zarrs_data_type.specs.Form.{Form, form_of}

-- what says how many bytes a chunk of these sizes, this type and this fill value has, or the first cause of an error
abbrev pub Measure : Type 0
Measure = List ℕ → ElementType → List ℕ → Result BytesRepresentation CodecError

-- what answers the value of a chunk of these sizes, this type and this fill value
abbrev pub Encoder : Type 0
Encoder = List ℕ → ElementType → List ℕ → Chunk → Result (List ℕ) CodecError

-- what answers the chunk of these sizes, this type and this fill value that bytes stand for
abbrev pub Decoder : Type 0
Decoder = List ℕ → ElementType → List ℕ → List ℕ → Result Chunk CodecError

-- bytes stand for a chunk of these sizes, this type and this fill value
abbrev pub Standing : Type 1
Standing = List ℕ → ElementType → List ℕ → List ℕ → Chunk → Type 0

-- what is kept of an element of a type
abbrev pub Keeping : Type 0
Keeping = ElementType → Element → Element

-- All array-to-array codecs inside hold to what their types do, and no inner chunk has a size of zero; what is left of an element; and by the caller's bytes-to-bytes codecs: how many bytes a chunk has, its value, the chunk of a value, for which chunk a value stands, and which value is written for a chunk.
pub record Meaning (B : Type 0) : Type 1 where
  pub Mapped : Type 0
  pub normal : Keeping
  pub representation : BytesCodecs B → Measure
  pub value : BytesCodecs B → Encoder
  pub chunk : BytesCodecs B → Decoder
  pub Stands : BytesCodecs B → Standing
  pub Written : BytesCodecs B → Standing

-- ---- rows

-- what a codec means that has no chain inside, by its words on chunks of a form: what it keeps of an element, its size, its value, the chunk of a value, what stands and what is written
abbrev pub leaf_meaning : {B : Type 0} → Keeping → (Form → Result BytesRepresentation CodecError) → (Form → Chunk → Result (List ℕ) CodecError) → (Form → List ℕ → Result Chunk CodecError) → (stand write : Form → List ℕ → Chunk → Type 0) → Meaning B
leaf_meaning keep measure encode decode stand write = record {
  Mapped = Unit {0};
  normal = keep;
  representation = λ f sizes type fill. measure (form_of sizes type fill);
  value = λ f sizes type fill. encode (form_of sizes type fill);
  chunk = λ f sizes type fill. decode (form_of sizes type fill);
  Stands = λ f sizes type fill. stand (form_of sizes type fill);
  Written = λ f sizes type fill. write (form_of sizes type fill);
}

-- what is asked of so many elements in a row: of none this, of more what is asked of a chunk of one axis
abbrev pub in_a_row {ℓ} : {A : Type ℓ} → A → (List ℕ → A) → ℕ → A
in_a_row none asked zero = none
in_a_row none asked (suc count) = asked (suc count ∷ [])

-- ---- chains

-- how many bytes a chunk has through a chain, or the first error: of the array-to-array codecs in order, then of the array-to-bytes codec, which says it by `measure`; bytes-to-bytes codecs reject nothing
abbrev pub around_representation : {B : Type 0} → BytesCodecs B → List ArrayMapping → Measure → List B → Measure
around_representation f arrays measure outer sizes type fill = do
  m ← arrays_map type arrays sizes
  r ← measure m.encoded type fill
  Ok (outer_representation f outer r)

-- the value through a chain, by its representation and what its array-to-bytes codec writes
abbrev pub around_value : {B : Type 0} → BytesCodecs B → List ArrayMapping → Measure → Encoder → List B → Encoder
around_value f arrays measure content outer sizes type fill chunk = do
  _ ← around_representation f arrays measure outer sizes type fill
  _ ← sizes_fit type (product sizes)
  m ← arrays_map type arrays sizes
  below ← content m.encoded type fill (moved_chunk m chunk)
  outer_value f outer below

-- the chunk through a chain, by its representation and what its array-to-bytes codec reads
abbrev pub around_chunk : {B : Type 0} → BytesCodecs B → List ArrayMapping → Measure → Decoder → List B → Decoder
around_chunk f arrays measure content outer sizes type fill value = do
  m ← arrays_map type arrays sizes
  r ← measure m.encoded type fill
  below ← outer_bytes f outer r value
  chunk ← content m.encoded type fill below
  Ok (moved_chunk (inverse_map sizes m) chunk)

-- Through a chain that takes the chunk: below its bytes-to-bytes codecs stands the chunk as its array-to-array codecs move it.
pub record StandsThrough {B : Type 0} (f : BytesCodecs B) (arrays : List ArrayMapping) (measure : Measure) (content : Standing) (outer : List B) (sizes : List ℕ) (type : ElementType) (fill value : List ℕ) (chunk : Chunk) : Type 0 where
  pub map_is : CoordinateMap
  pub size : BytesRepresentation
  pub below : List ℕ
  pub mapped : arrays_map type arrays sizes ≡ Ok map_is
  pub measured : measure map_is.encoded type fill ≡ Ok size
  pub elements : IsChunk type (product sizes) chunk
  pub opened : outer_bytes f outer size value ≡ Ok below
  pub stands : content map_is.encoded type fill below (moved_chunk map_is chunk)

-- Through a chain that takes the chunk: its array-to-bytes codec writes the chunk as its array-to-array codecs move it, and its bytes-to-bytes codecs what they make of that.
pub record WrittenThrough {B : Type 0} (f : BytesCodecs B) (arrays : List ArrayMapping) (measure : Measure) (content : Standing) (outer : List B) (sizes : List ℕ) (type : ElementType) (fill value : List ℕ) (chunk : Chunk) : Type 0 where
  pub map_is : CoordinateMap
  pub size : BytesRepresentation
  pub below : List ℕ
  pub mapped : arrays_map type arrays sizes ≡ Ok map_is
  pub measured : measure map_is.encoded type fill ≡ Ok size
  pub countable : sizes_fit type (product sizes) ≡ Ok tt
  pub elements : IsChunk type (product sizes) chunk
  pub written : content map_is.encoded type fill below (moved_chunk map_is chunk)
  pub around : outer_value f outer below ≡ Ok value

-- what a chain means, whose array-to-bytes codec means this
abbrev pub through : {B : Type 0} → List ArrayMapping → Meaning B → List B → Meaning B
through arrays inner outer = record {
  Mapped = All IsMapping arrays × inner.Mapped;
  normal = inner.normal;
  representation = λ f. around_representation f arrays (inner.representation f) outer;
  value = λ f. around_value f arrays (inner.representation f) (inner.value f) outer;
  chunk = λ f. around_chunk f arrays (inner.representation f) (inner.chunk f) outer;
  Stands = λ f. StandsThrough f arrays (inner.representation f) (inner.Stands f) outer;
  Written = λ f. WrittenThrough f arrays (inner.representation f) (inner.Written f) outer;
}
