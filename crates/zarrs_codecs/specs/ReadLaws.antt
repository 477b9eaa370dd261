-- Laws of reads in part through a chain.
use Rattle.std.specs.Prelude.{◌≡◌, ℕ, ◌<◌, Some, List, length, slice_index, Result, Ok, IsOk, IfOk, IfSome}
use Rattle.std.specs.List.{All}
use Rattle.std.specs.List.Sorted.{IsPermutation, IsStrictlyIncreasing}
use Rattle.zarrs_chunk.specs.Answer.{◌>>=◌, seen}
use Rattle.zarrs_chunk.specs.Selection.{Selection, places_of}
use Rattle.zarrs_chunk.specs.declared.codec_error.CodecError.{CodecError}
use Rattle.zarrs_data_type.specs.Element.{Chunk}
use Rattle.zarrs_array_bytes.specs.Elements.{select}
use Rattle.zarrs_codec.specs.BytesToBytesCodec.{BytesCodecs}
use Rattle.zarrs_codec.specs.declared.capabilities.PartialDecoderCapability.{PartialDecoderCapability}
use Rattle.zarrs_chain_meaning.specs.BytesStages.{outer_bytes}
use Rattle.zarrs_chain_meaning.specs.Chain.{taken_form}
use Rattle.zarrs_chain_meaning.specs.Laws.{IsChainOfMappings}
use Rattle.zarrs_chain_meaning.specs.CodecMeaning.{ChainStands}
use Rattle.zarrs_codecs.specs.ChunkRead.{encoded_places, planned_order, planned_region, read_rests_on, stored_read}
use Rattle.zarrs_chain_meaning.specs.ChunkForm.{ChunkForm}
use Rattle.zarrs_codecs.specs.ChunkSource.{source_made}
use Rattle.zarrs_codecs.specs.CodecPart.{codec_rests_on}

-- Of a stored value that stands for a chunk, a read in part answers the chunk's elements that the selection selects, or the selection's error.
abbrev pub StoredSelects : {B : Type 0} → BytesCodecs B → Type 0
StoredSelects {B} f =
    (form : ChunkForm B) (value : List ℕ) (chunk : Chunk) (selection : Selection)
    → IsChainOfMappings form.chain → All (λ size. 0 < size) form.sizes → ChainStands f form.chain form.sizes form.type form.fill value chunk
    → stored_read f form (Some value) selection ≡ seen (select chunk) (places_of selection form.sizes)

-- Of a stored value that stands for a chunk, a decoder is made, wherever its cache stands.
abbrev pub StandingIsOpened : {B : Type 0} → BytesCodecs B → Type 0
StandingIsOpened {B} f =
    (reads : B → PartialDecoderCapability) (form : ChunkForm B) (value : List ℕ) (chunk : Chunk)
    → IsChainOfMappings form.chain → All (λ size. 0 < size) form.sizes → ChainStands f form.chain form.sizes form.type form.fill value chunk
    → IsOk (source_made f reads form (Some value))

-- the bytes that the array-to-bytes codec reads of a value, or the first error: the chain's representation; the bytes-to-bytes codecs, the last of them first
abbrev pub bytes_below : {B : Type 0} → BytesCodecs B → ChunkForm B → List ℕ → Result (List ℕ) CodecError
bytes_below f form value = do
  taken ← taken_form f form.chain form.sizes form.type form.fill
  outer_bytes f form.chain.bytes_to_bytes taken.1 value

-- the numbers of the bytes, of those below the bytes-to-bytes codecs, that the elements which a selection selects rest on; or the first error
abbrev pub selection_rests_on : {B : Type 0} → BytesCodecs B → ChunkForm B → List ℕ → Selection → Result (List ℕ) CodecError
selection_rests_on f form below selection = do
  places ← encoded_places form.type form.chain.array_to_array form.sizes selection
  taken ← taken_form f form.chain form.sizes form.type form.fill
  codec_rests_on f form.chain.array_to_bytes taken.0 form.type form.fill (Some below) places

-- Two values whose bytes below the bytes-to-bytes codecs are as many, and the same where a read rests, are read alike, or rejected for the same cause.
abbrev pub StoredReadsAlike : {B : Type 0} → BytesCodecs B → Type 0
StoredReadsAlike {B} f =
    (form : ChunkForm B) (value other below beside : List ℕ) (selection : Selection)
    → bytes_below f form value ≡ Ok below → bytes_below f form other ≡ Ok beside
    → length below ≡ length beside → IfOk (selection_rests_on f form below selection) (All (λ number. slice_index below number ≡ slice_index beside number))
    → stored_read f form (Some value) selection ≡ stored_read f form (Some other) selection

-- Locality: where a read asks for a part of the value alone, two values of one length that are the same at the bytes which it rests on are read alike, or rejected for the same cause.
abbrev pub AskedReadsAlike : {B : Type 0} → BytesCodecs B → Type 0
AskedReadsAlike {B} f =
    (form : ChunkForm B) (value other : List ℕ) (selection : Selection) (numbers : List ℕ)
    → read_rests_on f form (Some value) selection ≡ Ok (Some numbers) → length value ≡ length other → All (λ number. slice_index value number ≡ slice_index other number) numbers
    → stored_read f form (Some value) selection ≡ stored_read f form (Some other) selection

-- The places whose bytes a read plans are those that are selected, each as often; over `bytes` those of a region that array-to-array codecs keep rise.
abbrev pub PlannedPlacesAreMeant : Type 0 → Type 0
PlannedPlacesAreMeant B =
    (form : ChunkForm B) (selection : Selection) (meant ordered : List ℕ)
    → IsChainOfMappings form.chain → All (λ size. 0 < size) form.sizes → encoded_places form.type form.chain.array_to_array form.sizes selection ≡ Ok meant → planned_order form selection ≡ Ok ordered
    → IsPermutation meant ordered × IfSome (planned_region form selection) (λ _. IsStrictlyIncreasing ordered)
