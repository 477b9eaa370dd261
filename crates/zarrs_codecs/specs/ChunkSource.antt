-- What a partial decoder's answers rest on, and what of it a cache keeps.
-- Source: zarrs, `CodecChain::partial_decoder`.
use Rattle.std.specs.Prelude.{◌≡◌, ℕ, suc, ◌+◌, ◌-◌, ◌*◌, ◌^◌, ◌&&◌, not, nat_le, min, Bool, true, false, if◌then◌else◌, Option, Some, None, option_map, List, [], ◌∷◌, length, map, take, drop, is_ok, is_some, Result, Ok}
use Rattle.zarrs_chunk.specs.Answer.{◌>>=◌, Answers, memory_or_fault}
use Rattle.zarrs_chunk.specs.Selection.{Selection}
use Rattle.zarrs_chunk.specs.declared.codec_error.CodecError.{CodecError}
use Rattle.zarrs_data_type.specs.Element.{Chunk, fill_element}
use Rattle.zarrs_data_type.specs.ElementType.{ElementType}
use Rattle.zarrs_array_bytes.specs.Elements.{elements, select}
use Rattle.zarrs_array_bytes.specs.Held.{Held, byte_count}
use Rattle.zarrs_array_bytes.specs.Tight.{IsTight}
use Rattle.zarrs_array_bytes.specs.Validity.{Holds, validity}
use Rattle.zarrs_codec.specs.BytesToBytesCodec.{BytesCodecs}
use Rattle.zarrs_codec.specs.Calls.{Calls, after_reads}
use Rattle.zarrs_codec.specs.declared.bytes_representation.BytesRepresentation.{BytesRepresentation}
use Rattle.zarrs_codec.specs.declared.capabilities.PartialDecoderCapability.{PartialDecoderCapability}
use Rattle.zarrs_chain_meaning.specs.BytesStages.{outer_bytes, outer_representation}
use Rattle.zarrs_codecs.specs.CachePlace.{cache_place, codecs_read}
use Rattle.zarrs_chain_meaning.specs.Chain.{taken_form, codec_reads}
use Rattle.zarrs_codecs.specs.ChunkRead.{encoded_places, outer_stored}
use Rattle.zarrs_chain_meaning.specs.ChunkForm.{ChunkForm}
use Rattle.zarrs_codecs.specs.CodecPart.{codec_read}
use Rattle.zarrs_chain_meaning.specs.CodecMeaning.{PlainChain, codec_chunk}
use Rattle.zarrs_codecs.specs.declared.partial_decoder.cache.Cache.{Cache}
use Rattle.zarrs_codecs.specs.declared.partial_decoder.cache.Cache.TheVariants as kept
use Rattle.zarrs_codecs.specs.declared.partial_decoder.cache.CacheStage.{CacheStage}
use Rattle.zarrs_codecs.specs.declared.partial_decoder.cache.CacheStage.TheVariants as stage
use Rattle.zarrs_chunk.specs.ChunkShape.{product}
use Rattle.zarrs_data_type.specs.Form.{Form, form_of}
use Rattle.zarrs_chain.specs.ChainView.{plain_chain}
use Rattle.zarrs_chain.specs.declared.codec_chain.CodecChain.{CodecChain}

-- What answers rest on: the bytes above so many of the first bytes-to-bytes codecs, or the chunk that the array-to-bytes codec reads; either only where something is stored.
pub data Source : Type 0 where
  bytes_above : ℕ → Option (List ℕ) → Source
  chunk_below : Option Chunk → Source

-- the elements at these places of the chunk that the array-to-bytes codec gets, by what answers rest on
abbrev pub source_places : {B : Type 0} → BytesCodecs B → PlainChain B → List ℕ → ElementType → List ℕ → BytesRepresentation → Source → List ℕ → Result Chunk CodecError
source_places f chain encoded type fill r (bytes_above below value) places = do
  bytes ← outer_stored f (take below chain.bytes_to_bytes) r value
  codec_read f chain.array_to_bytes encoded type fill bytes places
source_places f chain encoded type fill r (chunk_below None) places = Ok (map (λ _. fill_element type fill) places)
source_places f chain encoded type fill r (chunk_below (Some chunk)) places = Ok (select chunk places)

-- the elements that a selection selects
abbrev pub source_read : {B : Type 0} → BytesCodecs B → ChunkForm B → List ℕ → BytesRepresentation → Source → Selection → Result Chunk CodecError
source_read f form encoded r source selection = do
  places ← encoded_places form.type form.chain.array_to_array form.sizes selection
  source_places f form.chain encoded form.type form.fill r source places

-- ---- the cache's place

-- where a cache at this place stands, of a chain of so many bytes-to-bytes codecs: at the bytes above those that aren't decoded there yet, or at the chunk behind the array-to-bytes codec
abbrev pub stage_at : ℕ → Option ℕ → CacheStage
stage_at count None = stage.Nowhere
stage_at count (Some place) = if nat_le place count then stage.Bytes (count - place) else stage.Chunk

-- where the cache of a chain stands
abbrev pub cache_stage : {B : Type 0} → (B → PartialDecoderCapability) → PlainChain B → CacheStage
cache_stage reads chain = stage_at (length chain.bytes_to_bytes) (cache_place (codecs_read reads chain))

-- of what bytes-to-bytes codecs read in part, in encode order: how many of the first ones a cache leaves undecoded; none where no codec wants a cache
abbrev pub undecoded_codecs : List PartialDecoderCapability → Option ℕ
undecoded_codecs [] = None
undecoded_codecs (codec ∷ codecs) =
    if not codec.partial_decode then Some 0 else (if not codec.partial_read then Some 1 else option_map suc (undecoded_codecs codecs))

-- a cache that leaves so many bytes-to-bytes codecs; none
abbrev pub bytes_stage : Option ℕ → CacheStage
bytes_stage None = stage.Nowhere
bytes_stage (Some left) = stage.Bytes left

-- where a cache stands, by what the array-to-bytes codec reads in part and by how many bytes-to-bytes codecs it leaves
abbrev pub stage_by : PartialDecoderCapability → Option ℕ → CacheStage
stage_by codec left = if not codec.partial_decode then stage.Chunk else (if not codec.partial_read then stage.Bytes 0 else bytes_stage left)

-- a cache stands there
abbrev pub has_cache : CacheStage → Bool
has_cache stage.Nowhere = false
has_cache (stage.Bytes below) = true
has_cache stage.Chunk = true

-- the stage is one of a chain of so many bytes-to-bytes codecs: a cache of bytes, or none, only where the array-to-bytes codec decodes a part
abbrev pub stage_fits : PartialDecoderCapability → ℕ → CacheStage → Bool
stage_fits reads codecs stage.Nowhere = reads.partial_decode
stage_fits reads codecs (stage.Bytes below) = reads.partial_decode && nat_le below codecs
stage_fits reads codecs stage.Chunk = true

-- the chunk that the array-to-bytes codec reads of a value, or the first error
abbrev pub opened_chunk : {B : Type 0} → BytesCodecs B → PlainChain B → Form → BytesRepresentation → List ℕ → Result Chunk CodecError
opened_chunk f chain form r value = outer_bytes f chain.bytes_to_bytes r value >>= codec_chunk f chain.array_to_bytes form.sizes form.type form.fill

-- the bytes of a value above so many of the first bytes-to-bytes codecs, or the error of what decodes them
abbrev pub upper_bytes : {B : Type 0} → BytesCodecs B → List B → ℕ → BytesRepresentation → List ℕ → Result (List ℕ) CodecError
upper_bytes f codecs below r value = outer_bytes f (drop below codecs) (outer_representation f (take below codecs) r) value

-- what answers rest on, of what is stored when a decoder is made, where its cache stands here; or the error of what decodes it: the bytes-to-bytes codecs, the last of them first, and then the array-to-bytes codec
abbrev pub source_at : {B : Type 0} → BytesCodecs B → PlainChain B → List ℕ → ElementType → List ℕ → BytesRepresentation → CacheStage → Option (List ℕ) → Result Source CodecError
source_at f chain encoded type fill r stage.Nowhere stored = Ok (bytes_above (length chain.bytes_to_bytes) stored)
source_at f chain encoded type fill r (stage.Bytes below) None = Ok (bytes_above below None)
source_at f chain encoded type fill r (stage.Bytes below) (Some value) = do
  bytes ← upper_bytes f chain.bytes_to_bytes below r value
  Ok (bytes_above below (Some bytes))
source_at f chain encoded type fill r stage.Chunk None = Ok (chunk_below None)
source_at f chain encoded type fill r stage.Chunk (Some value) = do
  chunk ← opened_chunk f chain (form_of encoded type fill) r value
  Ok (chunk_below (Some chunk))

-- What answers rest on that is made of what is stored, where the cache stands here; or the first error: the chain's representation, and then what decodes the value up to the cache.
abbrev pub source_made_at : {B : Type 0} → BytesCodecs B → ChunkForm B → CacheStage → Option (List ℕ) → Result Source CodecError
source_made_at f form cache stored = do
  taken ← taken_form f form.chain form.sizes form.type form.fill
  source_at f form.chain taken.0 form.type form.fill taken.1 cache stored

-- What a decoder's answers rest on that is made of what is stored, or the first error: its cache stands where the chain wants it.
abbrev pub source_made : {B : Type 0} → BytesCodecs B → (B → PartialDecoderCapability) → ChunkForm B → Option (List ℕ) → Result Source CodecError
source_made f reads form stored = source_made_at f form (cache_stage reads form.chain) stored

-- What is made answers by this, as `view` sees it where this value or none is stored; or the first error.
abbrev pub MakesSource : {T B : Type 0} → (T → Option (List ℕ) → Source) → BytesCodecs B → (B → PartialDecoderCapability) → ChunkForm B → Option (List ℕ) → Result T CodecError → Type 0
MakesSource view f reads form stored result = Answers memory_or_fault (λ made. view made stored) result (source_made f reads form stored)

-- ---- what is kept

-- what answers rest on by a cache, where the handle has this value
abbrev pub source_of : ElementType → ℕ → ℕ → Option (List ℕ) → Cache → Source
source_of type count codecs stored kept.Handle = bytes_above codecs stored
source_of type count codecs stored (kept.Index index) = bytes_above codecs stored
source_of type count codecs stored (kept.Bytes below value) = bytes_above below (option_map (λ bytes. bytes.items) value)
source_of type count codecs stored (kept.Chunk held) = chunk_below (option_map (elements type count) held)

-- the cache is one of a chunk of so many elements, for a chain of so many bytes-to-bytes codecs: bytes are kept only where the array-to-bytes codec reads in part
abbrev pub cache_fits : PartialDecoderCapability → ElementType → ℕ → ℕ → Cache → Bool
cache_fits reads type count codecs kept.Handle = true
cache_fits reads type count codecs (kept.Index index) = true
cache_fits reads type count codecs (kept.Bytes below value) = reads.partial_decode && nat_le below codecs
cache_fits reads type count codecs (kept.Chunk None) = true
cache_fits reads type count codecs (kept.Chunk (Some held)) = is_ok (validity type count held)

-- where the cache stands
abbrev pub kept_stage : Cache → CacheStage
kept_stage kept.Handle = stage.Nowhere
kept_stage (kept.Index index) = stage.Nowhere
kept_stage (kept.Bytes below value) = stage.Bytes below
kept_stage (kept.Chunk held) = stage.Chunk

-- something is stored
abbrev pub is_source_stored : Source → Bool
is_source_stored (bytes_above below value) = is_some value
is_source_stored (chunk_below chunk) = is_some chunk

-- the handle is left alone
abbrev pub is_cache : Cache → Bool
is_cache (kept.Bytes below value) = true
is_cache (kept.Chunk held) = true
is_cache _ = false

-- how many bytes are kept in memory: the cache's alone, or else the handle's and those of a shard's index, 8 for each of its numbers
abbrev pub held_by : ℕ → Cache → ℕ
held_by handle kept.Handle = handle
held_by handle (kept.Index None) = handle
held_by handle (kept.Index (Some index)) = min (handle + 8 * length index.numbers.items) (2 ^ 64 - 1)
held_by handle (kept.Bytes below None) = 0
held_by handle (kept.Bytes below (Some value)) = length value.items
held_by handle (kept.Chunk None) = 0
held_by handle (kept.Chunk (Some held)) = min (byte_count held) (2 ^ 64 - 1)

-- A cache of what answers rest on has so many bytes: those that it keeps, or those of the tight container that holds the chunk; none where nothing is stored. (At most 2^64 - 1 are counted.)
abbrev pub IsSizeOf : ElementType → Source → ℕ → Type 0
IsSizeOf type (bytes_above below None) size = size ≡ 0
IsSizeOf type (bytes_above below (Some value)) size = size ≡ length value
IsSizeOf type (chunk_below None) size = size ≡ 0
IsSizeOf type (chunk_below (Some chunk)) size = (held : Held) × Holds type held chunk × IsTight type held × (size ≡ min (byte_count held) (2 ^ 64 - 1))

-- ---- what calls give

-- the stage is one of the chain
abbrev pub is_stage_of : {B : Type 0} → PlainChain B → CacheStage → Bool
is_stage_of chain stage = stage_fits (codec_reads chain.array_to_bytes) (length chain.bytes_to_bytes) stage

-- the cache is one of the chunks that the chain's array-to-bytes codec gets
abbrev pub is_cache_of : {B : Type 0} → CodecChain B → List ℕ → ElementType → Cache → Bool
is_cache_of chain encoded type cache =
    cache_fits (codec_reads (plain_chain chain).array_to_bytes) type (product encoded) (length (plain_chain chain).bytes_to_bytes) cache

-- a cache at this stage, filled from what is stored, or the error of what decodes it
abbrev pub FillsCache : {B : Type 0} → BytesCodecs B → PlainChain B → BytesRepresentation → CacheStage → Form → Option (List ℕ) → Result Cache CodecError → Type 0
FillsCache f chain r stage form stored result =
    Answers memory_or_fault (source_of form.type (product form.sizes) (length chain.bytes_to_bytes) stored) result (source_at f chain form.sizes form.type form.fill r stage stored)

-- ---- how often the handle is asked: `calls` says what the record of a handle is

-- a cache, where there is one, was filled by one reading call; where there is none, by none
abbrev pub FilledOnce : {H : Type 0} → (H → Option Calls) → Bool → (before after : H) → Type 0
FilledOnce calls cached before after = calls after ≡ after_reads (if cached then 1 else 0) (calls before)
