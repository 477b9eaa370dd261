-- What a coder of chunks is made of, and what its calls read.
use Rattle.std.specs.Prelude.{◌≡◌, ◌<◌, ◌&&◌, ℕ, Bool, Option, List, length, Ok, true, IfOk, IfErr, Err, Some, Result, false}
use Rattle.zarrs_chunk.specs.ChunkShape.{product}
use Rattle.zarrs_array_regions.specs.KeptRegions.{IsKept, keeps_regions}
use Rattle.zarrs_chunk.specs.Indexer.{selection_of}
use Rattle.zarrs_chunk.specs.Region.{Region}
use Rattle.zarrs_chunk.specs.declared.indexer.Indexer.{Indexer}
use Rattle.zarrs_chain.specs.ChainView.{plain_chain}
use Rattle.zarrs_codec.specs.BytesToBytesCodec.{BytesCodecs}
use Rattle.zarrs_codecs.specs.CodecPart.{rests_where}
use Rattle.zarrs_codecs.specs.ChunkRead.{asks_in_part, form_in_place, form_places, planned_order, standing_places, WhereSureBy}
use Rattle.zarrs_chain_meaning.specs.ChunkForm.{ChunkForm}
use Rattle.zarrs_codecs.specs.KeptIndex.{IsIndexOf, asks_index, knows_index, keeps_nothing}
use Rattle.zarrs_codecs.specs.ChunkSource.{Source, is_cache, kept_stage, source_made_at, source_of, bytes_above, opened_chunk, source_places, source_read}
use Rattle.zarrs_codecs.specs.declared.chunk_coder.ChunkCoder.{ChunkCoder}
use Rattle.zarrs_chunk.specs.Answer.{AnswersBy, GivesBy, memory, memory_or_fault, seen, is_fault}
use Rattle.zarrs_chunk.specs.Runs.{EndWithin, joined_runs}
use Rattle.zarrs_chunk.specs.Selection.{Selection, bounds_of}
use Rattle.zarrs_chunk.specs.Tuples.{is_box_inside}
use Rattle.zarrs_array_regions.specs.WindowLaws.{region_places}
use Rattle.zarrs_chunk.specs.declared.codec_error.CodecError.{CodecError}
use Rattle.zarrs_data_type.specs.Element.{Chunk}
use Rattle.zarrs_data_type.specs.Form.{form_of}
use Rattle.zarrs_data_type.specs.declared.endianness.Endianness.{Endianness}
use Rattle.zarrs_array_bytes.specs.Elements.{select}
use Rattle.zarrs_array_bytes.specs.Held.{Held}
use Rattle.zarrs_array_bytes.specs.Validity.{Holds}
use Rattle.zarrs_codec.specs.Calls.{Calls}
use Rattle.zarrs_codec.specs.StorageState.{are_sure, StorageState}
use Rattle.zarrs_chain_meaning.specs.Chain.{codec_reads}
use Rattle.zarrs_codecs.specs.ChunkCalls.{WholeOnce}

-- the chunk that a coder reads and writes
abbrev pub coder_form : {B : Type 0} {b : _} → ChunkCoder B b → ChunkForm B
coder_form coder =
    record { chain = plain_chain coder.chain.now; sizes = coder.shape; type = coder.data_type; fill = coder.fill_value }

-- what its answers rest on, where the handle has this value
abbrev pub reader_source : {B : Type 0} {b : _} → ChunkCoder B b → Option (List ℕ) → Source
reader_source coder stored =
    source_of coder.data_type (product coder.encoded) (length (plain_chain coder.chain.now).bytes_to_bytes) stored coder.cache

-- it has a cache
abbrev pub coder_is_cached : {B : Type 0} {b : _} → ChunkCoder B b → Bool
coder_is_cached coder = is_cache coder.cache

-- its cache, if it has one, was filled from this value or from none
abbrev pub IsFilledFrom : {B : Type 0} {b : _} → BytesCodecs B → ChunkCoder B b → Option (List ℕ) → Type 0
IsFilledFrom f coder stored =
    source_made_at f (coder_form coder) (kept_stage coder.cache) stored ≡ Ok (reader_source coder stored)

-- it keeps a shard's index
abbrev pub coder_knows_index : {B : Type 0} {b : _} → ChunkCoder B b → Bool
coder_knows_index coder = knows_index coder.cache

-- it keeps nothing
abbrev pub coder_keeps_nothing : {B : Type 0} {b : _} → ChunkCoder B b → Bool
coder_keeps_nothing coder = keeps_nothing coder.cache

-- it reads a shard by its index, and keeps nothing yet
abbrev pub coder_wants_index : {B : Type 0} {b : _} → ChunkCoder B b → Bool
coder_wants_index coder =
    coder_keeps_nothing coder && asks_index (plain_chain coder.chain.now).bytes_to_bytes (plain_chain coder.chain.now).array_to_bytes

-- the index that it keeps, if it keeps one, is that of this value, or of none
abbrev pub IsIndexFrom : {B : Type 0} {b : _} → BytesCodecs B → ChunkCoder B b → Option (List ℕ) → Type 0
IsIndexFrom f coder stored = IsIndexOf f (plain_chain coder.chain.now) coder.encoded stored coder.cache

-- the array-to-array codecs of its chain keep regions
abbrev pub coder_keeps_regions : {B : Type 0} {b : _} → ChunkCoder B b → Bool
coder_keeps_regions coder = keeps_regions (plain_chain coder.chain.now).array_to_array

-- each run ends within the moved chunk
abbrev pub AreInside : {B : Type 0} {b : _} → ChunkCoder B b → List (ℕ × ℕ) → Type 0
AreInside coder runs = EndWithin (product coder.encoded) runs

-- it writes in place, with this byte order
abbrev pub IsInPlace : {B : Type 0} {b : _} → ChunkCoder B b → Option Endianness → Type 0
IsInPlace coder order = form_in_place (coder_form coder) ≡ Some order

-- ---- what its calls give, of runs of places of the moved chunk

-- its array-to-bytes codec reads in part
abbrev pub reader_reads_parts : {B : Type 0} {b : _} → ChunkCoder B b → Bool
reader_reads_parts coder = (codec_reads (plain_chain coder.chain.now).array_to_bytes).partial_decode

-- what its answers rest on where it has no cache
abbrev pub stored_source : {B : Type 0} {b : _} → ChunkCoder B b → Option (List ℕ) → Source
stored_source coder stored = bytes_above (length (plain_chain coder.chain.now).bytes_to_bytes) stored

-- the elements at the places of these runs, by what answers rest on
abbrev pub source_runs : {B : Type 0} {b : _} → BytesCodecs B → ChunkCoder B b → Source → List (ℕ × ℕ) → Result Chunk CodecError
source_runs f coder source runs =
    source_places f (plain_chain coder.chain.now) coder.encoded coder.data_type coder.fill_value coder.representation source (joined_runs runs)

-- a container of the elements at places of the moved chunk is given, by what answers rest on, or the first error; lack of memory or a failure of the handle may come in its place
abbrev pub ReadsSourcePlaces : {B : Type 0} {b : _} → BytesCodecs B → ChunkCoder B b → Source → List ℕ → Result Held CodecError → Type 0
ReadsSourcePlaces f coder source places result =
    AnswersBy memory_or_fault (Holds coder.data_type) result (source_places f (plain_chain coder.chain.now) coder.encoded coder.data_type coder.fill_value coder.representation source places)

-- a container of them is given, or the first error
abbrev pub GivesSource : {B : Type 0} {b : _} → BytesCodecs B → ChunkCoder B b → Source → List (ℕ × ℕ) → Result Held CodecError → Type 0
GivesSource f coder source runs result = GivesBy (Holds coder.data_type) result (source_runs f coder source runs)

-- the same through a handle, which may fail
abbrev pub ReadsSource : {B : Type 0} {b : _} → BytesCodecs B → ChunkCoder B b → Source → List (ℕ × ℕ) → Result Held CodecError → Type 0
ReadsSource f coder source runs result = ReadsSourcePlaces f coder source (joined_runs runs) result

-- by what the handle keeps
abbrev pub ReadsStored : {B : Type 0} {b : _} → BytesCodecs B → ChunkCoder B b → StorageState → List (ℕ × ℕ) → Result Held CodecError → Type 0
ReadsStored f coder before runs result = ReadsSource f coder (stored_source coder before.value) runs result

-- a container of the elements at the places of these runs, of the chunk that a value stands for; or the first error
abbrev pub GivesOpened : {B : Type 0} {b : _} → BytesCodecs B → ChunkCoder B b → List ℕ → List (ℕ × ℕ) → Result Held CodecError → Type 0
GivesOpened f coder value runs result =
    GivesBy (Holds coder.data_type) result (seen (λ chunk. select chunk (joined_runs runs)) (opened_chunk f (plain_chain coder.chain.now) (form_of coder.encoded coder.data_type coder.fill_value) coder.representation value))

-- no failure of the handle comes where a read of places asks for a part of the value alone and the bytes are sure that it rests on, with a shard's index at hand or without
abbrev pub SurePlacesBy : {B T : Type 0} {b : _} → Bool → ChunkCoder B b → StorageState → List ℕ → Result T CodecError → Type 0
SurePlacesBy {b = b} known coder before places result =
    asks_in_part (plain_chain coder.chain.now).bytes_to_bytes (plain_chain coder.chain.now).array_to_bytes ≡ true
    → IfOk (rests_where known b.functions (plain_chain coder.chain.now).array_to_bytes coder.encoded coder.data_type coder.fill_value before.value places) (λ numbers. are_sure before.sure numbers ≡ true → is_fault result ≡ false)

-- the same, by what it keeps
abbrev pub SurePlacesOf : {B T : Type 0} {b : _} → ChunkCoder B b → StorageState → List ℕ → Result T CodecError → Type 0
SurePlacesOf coder before places result = SurePlacesBy (coder_knows_index coder) coder before places result

-- the same, of runs of places
abbrev pub SureSourceBy : {B T : Type 0} {b : _} → Bool → ChunkCoder B b → StorageState → List (ℕ × ℕ) → Result T CodecError → Type 0
SureSourceBy known coder before runs result = SurePlacesBy known coder before (joined_runs runs) result

-- the same, by what it keeps
abbrev pub SureSource : {B T : Type 0} {b : _} → ChunkCoder B b → StorageState → List (ℕ × ℕ) → Result T CodecError → Type 0
SureSource coder before runs result = SureSourceBy (coder_knows_index coder) coder before runs result

-- with a cache the handle is left alone: it is the one that it was
abbrev pub LeavesAlone : {H B : Type 0} {b : _} → ChunkCoder B b → (before after : H) → Type 0
LeavesAlone coder before after = coder_is_cached coder ≡ true → after ≡ before

-- a read without a cache that asks for the whole value asks once (`calls` says what the record of a handle is)
abbrev pub CoderAsksOnce : {H T B : Type 0} {b : _} → (H → Option Calls) → ChunkCoder B b → (before after : H) → Result T CodecError → Type 0
CoderAsksOnce calls coder before after result =
    coder_is_cached coder ≡ false → WholeOnce calls (plain_chain coder.chain.now) before after result

-- ---- what its calls give, of a selection

-- the elements that a selection selects, where the handle has this value
abbrev pub reader_read : {B : Type 0} {b : _} → BytesCodecs B → ChunkCoder B b → Option (List ℕ) → Selection → Result Chunk CodecError
reader_read f coder stored selection =
    source_read f (coder_form coder) coder.encoded coder.representation (reader_source coder stored) selection

-- a container of them is read, or the first error
abbrev pub ReadsSelected : {B : Type 0} {b : _} → ChunkCoder B b → StorageState → Selection → Result Held CodecError → Type 0
ReadsSelected {b = b} coder before selection result =
    AnswersBy memory_or_fault (Holds coder.data_type) result (reader_read b.functions coder before.value selection)

-- no failure of the handle comes where a read of the selection asks for a part of the value alone and the bytes are sure that it rests on
abbrev pub SureSelected : {B T : Type 0} {b : _} → ChunkCoder B b → StorageState → Selection → Result T CodecError → Type 0
SureSelected {b = b} coder before selection result =
    WhereSureBy (coder_knows_index coder) b.functions (coder_form coder) before selection (is_fault result ≡ false)

-- where the indexer is rejected, this is what is answered, or a lack of memory: no failure of the handle comes in its place
abbrev pub RefusedAtIndexer : {B : Type 0} {b : _} → ChunkCoder B b → Indexer → Result Held CodecError → Type 0
RefusedAtIndexer coder indexer result =
    IfErr (bounds_of (selection_of indexer) coder.shape) (λ cause. AnswersBy memory (Holds coder.data_type) result (Err cause))

-- ---- where an indexer's places go

-- the places that it means, as they go through the array-to-array codecs; or the first error
abbrev pub reader_places : {B : Type 0} {b : _} → ChunkCoder B b → Indexer → Result (List ℕ) CodecError
reader_places coder indexer = form_places (coder_form coder) (selection_of indexer)

-- the indexer selects this region, which goes through the array-to-array codecs of the coder's chain as a region
abbrev pub IsKeptRegion : {B : Type 0} {b : _} → ChunkCoder B b → Indexer → Region → Type 0
IsKeptRegion coder indexer region = IsKept (plain_chain coder.chain.now).array_to_array coder.shape (selection_of indexer) region

-- where a region of the chunk stands in the moved chunk
abbrev pub coder_standing : {B : Type 0} {b : _} → ChunkCoder B b → Region → List ℕ
coder_standing coder region = standing_places (plain_chain coder.chain.now).array_to_array coder.shape region

-- the indexer selects this region, which goes through the array-to-array codecs as a region; and where the coder writes in place, the selected places are planned in the order in which it stands
pub record IsWrittenRegion {B : Type 0} {b : _} (coder : ChunkCoder B b) (indexer : Indexer) (region : Region) : Type 0 where
  pub kept : IsKeptRegion coder indexer region
  pub places : (order : Option Endianness) → IsInPlace coder order → planned_order (coder_form coder) (selection_of indexer) ≡ Ok (coder_standing coder region)

-- A region goes to this box of the chunk that the array-to-bytes codec gets, inside it, and as large.
pub record StandsAsBox {B : Type 0} {b : _} (coder : ChunkCoder B b) (region box : Region) : Type 0 where
  pub places : coder_standing coder region ≡ region_places coder.encoded box
  pub inside : is_box_inside coder.encoded box.starts box.lengths ≡ true
  pub filled : 0 < product box.lengths
