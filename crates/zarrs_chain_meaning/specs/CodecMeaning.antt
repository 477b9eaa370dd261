-- Array-to-bytes codecs and chains of codecs as plain data: what each codec means and how it is written as metadata, by one recursion each, and what that says of a codec and of a chain.
-- Source: zarrs, `CodecChain`, `VlenCodec` and `OptionalCodec`.
use Rattle.std.specs.Prelude.{ℕ, Bool, List, map, Option, Ok}
use Rattle.zarrs_array_to_array.specs.ArrayToArrayCodec.{ArrayMapping}
use Rattle.zarrs_bytes.specs.BytesCodec.{bytes_length, BytesStands, BytesWritten, spelling, bytes_chunk}
use Rattle.zarrs_chain_meaning.specs.Meaning.{Measure, Encoder, Decoder, Standing, Keeping, Meaning, leaf_meaning, through}
use Rattle.zarrs_chain_meaning.specs.MetadataFacts.{MetadataFacts, facts_through, bytes_metadata_facts, packbits_metadata_facts, vlen_metadata_facts, optional_metadata_facts, sharding_metadata_facts}
use Rattle.zarrs_chain_meaning.specs.optional.Optional.{optional_meaning}
use Rattle.zarrs_chain_meaning.specs.sharding.Sharding.{shard_meaning}
use Rattle.zarrs_chain_meaning.specs.vlen.Vlen.{vlen_meaning}
use Rattle.zarrs_chain_meaning.specs.vlen_v2.VlenV2.{vlen_v2_meaning, vlen_v2_metadata_facts}
use Rattle.zarrs_chunk.specs.Answer.{◌>>=◌, seen}
use Rattle.zarrs_codec.specs.BytesToBytesCodec.{BytesCodecs}
use Rattle.zarrs_codec.specs.declared.bytes_representation.BytesRepresentation.TheVariants.{FixedSize}
use Rattle.zarrs_data_type.specs.Element.{Chunk}
use Rattle.zarrs_data_type.specs.ElementType.{ElementType}
use Rattle.zarrs_data_type.specs.declared.endianness.Endianness.{Endianness}
use Rattle.zarrs_packbits.specs.BitStream.{chunk_stream}
use Rattle.zarrs_packbits.specs.NormalForm as packbits
use Rattle.zarrs_packbits.specs.PackBitsCodec.{PackBitsStands, PackBitsWritten, packbits_chunk}
use Rattle.zarrs_packbits.specs.PackBitsSettings.{PackBitsSettings, packed_layout}
use Rattle.zarrs_packbits.specs.PaddingByte.{value_len, value_with}
use Rattle.zarrs_vlen_v2.specs.declared.vlen_v2_codec.VlenV2Codec.{VlenV2Codec}

-- An array-to-bytes codec. One that has chains inside has the parts of each of them: its array-to-array codecs, its array-to-bytes codec, its bytes-to-bytes codecs.
pub data PlainCodec (B : Type 0) : Type 0 where
  -- the byte order
  bytes_codec : Option Endianness → PlainCodec B
  -- where the padding byte stands, and which bits are kept
  packbits_codec : PackBitsSettings → PlainCodec B
  -- `vlen-utf8` or `vlen-bytes`
  vlen_v2_codec : VlenV2Codec → PlainCodec B
  -- the index chain, the data chain, whether offsets have 64 bits, whether the index stands at the end
  vlen_codec : List ArrayMapping → PlainCodec B → List B → List ArrayMapping → PlainCodec B → List B → Bool → Bool → PlainCodec B
  -- the mask chain, the data chain
  optional_codec : List ArrayMapping → PlainCodec B → List B → List ArrayMapping → PlainCodec B → List B → PlainCodec B
  -- the chain of each inner chunk, the index chain, the shape of the inner chunks, whether the index stands at the end
  sharding_codec : List ArrayMapping → PlainCodec B → List B → List ArrayMapping → PlainCodec B → List B → List ℕ → Bool → PlainCodec B

-- array-to-array codecs, one array-to-bytes codec, bytes-to-bytes codecs
pub record PlainChain (B : Type 0) : Type 0 where
  pub array_to_array : List ArrayMapping
  pub array_to_bytes : PlainCodec B
  pub bytes_to_bytes : List B

-- `vlen` with these chains inside
abbrev pub vlen_codec_of : {B : Type 0} → PlainChain B → PlainChain B → Bool → Bool → PlainCodec B
vlen_codec_of index content wide at_end =
    vlen_codec index.array_to_array index.array_to_bytes index.bytes_to_bytes content.array_to_array content.array_to_bytes content.bytes_to_bytes wide at_end

-- `vlen` with the index at the end or at the start; any other codec as it is
abbrev pub with_location : {B : Type 0} → Bool → PlainCodec B → PlainCodec B
with_location at_end (vlen_codec ia ix ib da dx db wide before) = vlen_codec ia ix ib da dx db wide at_end
with_location at_end codec = codec

-- `optional` with these chains inside
abbrev pub optional_codec_of : {B : Type 0} → PlainChain B → PlainChain B → PlainCodec B
optional_codec_of mask content =
    optional_codec mask.array_to_array mask.array_to_bytes mask.bytes_to_bytes content.array_to_array content.array_to_bytes content.bytes_to_bytes

-- `sharding_indexed` with these chains inside, of inner chunks and of the index
abbrev pub sharding_codec_of : {B : Type 0} → PlainChain B → PlainChain B → List ℕ → Bool → PlainCodec B
sharding_codec_of inner index shape at_end =
    sharding_codec inner.array_to_array inner.array_to_bytes inner.bytes_to_bytes index.array_to_array index.array_to_bytes index.bytes_to_bytes shape at_end

-- ---- by all codecs

-- what `bytes` means
abbrev pub bytes_meaning : {B : Type 0} → Option Endianness → Meaning B
bytes_meaning order =
    leaf_meaning (λ type element. element) (λ form. seen FixedSize (bytes_length order form)) (λ form chunk. Ok (spelling order form.type chunk))
    (bytes_chunk order) (BytesStands order) (BytesWritten order)

-- what `packbits` means
abbrev pub packbits_meaning : {B : Type 0} → PackBitsSettings → Meaning B
packbits_meaning settings =
    leaf_meaning (packbits.normal_element settings) (λ form. seen FixedSize (seen value_len (packed_layout settings form)))
    (λ form chunk. packed_layout settings form >>= λ l. Ok (value_with l (chunk_stream l chunk)))
    (packbits_chunk settings) (PackBitsStands settings) (PackBitsWritten settings)

-- what an array-to-bytes codec means
unfoldable pub meaning : {B : Type 0} → PlainCodec B → Meaning B
meaning (bytes_codec order) = bytes_meaning order
meaning (packbits_codec settings) = packbits_meaning settings
meaning (vlen_v2_codec codec) = vlen_v2_meaning codec
meaning (vlen_codec ia ix ib da dx db wide at_end) = vlen_meaning wide at_end (through ia (meaning ix) ib) (through da (meaning dx) db)
meaning (optional_codec ma mx mb da dx db) = optional_meaning (through ma (meaning mx) mb) (through da (meaning dx) db)
meaning (sharding_codec sa sx sb ia ix ib shape at_end) = shard_meaning shape at_end (through sa (meaning sx) sb) (through ia (meaning ix) ib)

-- what a chain means
abbrev pub chain_meaning : {B : Type 0} → PlainChain B → Meaning B
chain_meaning chain = through chain.array_to_array (meaning chain.array_to_bytes) chain.bytes_to_bytes

-- how an array-to-bytes codec is written as metadata, and when it is made again of that
abbrev pub metadata_facts : {B : Type 0} → PlainCodec B → MetadataFacts B
metadata_facts (bytes_codec order) = bytes_metadata_facts order
metadata_facts (packbits_codec settings) = packbits_metadata_facts settings
metadata_facts (vlen_v2_codec codec) = vlen_v2_metadata_facts codec
metadata_facts (vlen_codec ia ix ib da dx db wide at_end) = vlen_metadata_facts wide at_end (facts_through ia (metadata_facts ix) ib) (facts_through da (metadata_facts dx) db)
metadata_facts (optional_codec ma mx mb da dx db) = optional_metadata_facts (facts_through ma (metadata_facts mx) mb) (facts_through da (metadata_facts dx) db)
metadata_facts (sharding_codec sa sx sb ia ix ib shape at_end) = sharding_metadata_facts shape at_end (facts_through sa (metadata_facts sx) sb) (facts_through ia (metadata_facts ix) ib)

-- ---- each part by its name

-- the array-to-array codecs of all chains inside are what their types hold to
abbrev pub HasMappings : {B : Type 0} → PlainCodec B → Type 0
HasMappings codec = (meaning codec).Mapped

-- an element as the codec keeps it; of a type that the codec doesn't take, the element itself
abbrev pub codec_normal_element : {B : Type 0} → PlainCodec B → Keeping
codec_normal_element codec = (meaning codec).normal

-- The normal form of a chunk: each element as the codec keeps it.
abbrev pub normal_form : {B : Type 0} → PlainCodec B → ElementType → Chunk → Chunk
normal_form codec type chunk = map ((meaning codec).normal type) chunk

-- how many bytes an array-to-bytes codec makes of a chunk of these sizes, this type and this fill value, or the first error
abbrev pub codec_representation : {B : Type 0} → BytesCodecs B → PlainCodec B → Measure
codec_representation f codec = (meaning codec).representation f

-- how many bytes a chain makes of a chunk of these sizes, this type and this fill value, or the first error
abbrev pub chain_representation : {B : Type 0} → BytesCodecs B → PlainChain B → Measure
chain_representation f chain = (chain_meaning chain).representation f

-- the value that an array-to-bytes codec writes of a chunk, or the first error
abbrev pub codec_value : {B : Type 0} → BytesCodecs B → PlainCodec B → Encoder
codec_value f codec = (meaning codec).value f

-- the value that a chain writes of a chunk, or the first error
abbrev pub chain_value : {B : Type 0} → BytesCodecs B → PlainChain B → Encoder
chain_value f chain = (chain_meaning chain).value f

-- the chunk that a value stands for under an array-to-bytes codec, or the first error
abbrev pub codec_chunk : {B : Type 0} → BytesCodecs B → PlainCodec B → Decoder
codec_chunk f codec = (meaning codec).chunk f

-- the chunk that a value stands for under a chain, or the first error
abbrev pub chain_chunk : {B : Type 0} → BytesCodecs B → PlainChain B → Decoder
chain_chunk f chain = (chain_meaning chain).chunk f

-- Under an array-to-bytes codec the value stands for the chunk, of these sizes, this type and this fill value.
abbrev pub CodecStands : {B : Type 0} → BytesCodecs B → PlainCodec B → Standing
CodecStands f codec = (meaning codec).Stands f

-- Under a chain the value stands for the chunk, of these sizes, this type and this fill value.
abbrev pub ChainStands : {B : Type 0} → BytesCodecs B → PlainChain B → Standing
ChainStands f chain = (chain_meaning chain).Stands f

-- An array-to-bytes codec writes the value for the chunk, of these sizes, this type and this fill value.
abbrev pub CodecWritten : {B : Type 0} → BytesCodecs B → PlainCodec B → Standing
CodecWritten f codec = (meaning codec).Written f

-- A chain writes the value for the chunk, of these sizes, this type and this fill value.
abbrev pub ChainWritten : {B : Type 0} → BytesCodecs B → PlainChain B → Standing
ChainWritten f chain = (chain_meaning chain).Written f
