-- What a read in part answers through a chain.
-- Source: zarrs, `ArrayPartialDecoderTraits`.
use Rattle.zarrs_chain_meaning.specs.CodecMeaning.{PlainCodec, PlainChain, chain_meaning, codec_representation, codec_chunk}
use Rattle.zarrs_array_bytes.specs.Validity.{Holds}
use Rattle.zarrs_array_bytes.specs.Held.{Held}
use Rattle.zarrs_data_type.specs.Form.{form_of, Form}
use Rattle.std.specs.Prelude.{◌≡◌, ℕ, ◌&&◌, ◌||◌, Bool, true, false, if◌then◌else◌, Option, Some, None, IfSome, IfOk, IsOkAnd, List, [], map, slice_get, Result, Ok, Err, IfErr, is_ok, is_none, is_some, option_map, Vec}
use Rattle.zarrs_chunk.specs.Answer.{◌>>=◌, seen, AnswersBy, memory, memory_or_fault, is_fault, GivesBy}
use Rattle.zarrs_chunk.specs.Region.{Region}
use Rattle.zarrs_chunk.specs.Selection.{Selection, places_of, bounds_of}
use Rattle.zarrs_chunk.specs.declared.codec_error.CodecError.{CodecError}
use Rattle.zarrs_data_type.specs.Element.{Chunk, fill_element}
use Rattle.zarrs_data_type.specs.ElementType.{ElementType}
use Rattle.zarrs_data_type.specs.declared.endianness.Endianness.{Endianness}
use Rattle.zarrs_array_bytes.specs.Elements.{select}
use Rattle.zarrs_codec.specs.ByteSpan.{ByteSpan}
use Rattle.zarrs_codec.specs.BytesToBytesCodec.{BytesCodecs}
use Rattle.zarrs_codec.specs.StorageState.{are_sure, StorageState}
use Rattle.zarrs_codec.specs.declared.bytes_representation.BytesRepresentation.{BytesRepresentation}
use Rattle.zarrs_array_to_array.specs.ArrayToArrayCodec.{ArrayMapping}
use Rattle.zarrs_array_regions.specs.KeptRegions.{kept_region}
use Rattle.zarrs_array_regions.specs.Windows.{window_of, window_places, last_window}
use Rattle.zarrs_chain_meaning.specs.ArrayStages.{arrays_map}
use Rattle.zarrs_chain_meaning.specs.BytesStages.{outer_bytes}
use Rattle.zarrs_chain_meaning.specs.Chain.{taken_form, chain_reads}
use Rattle.zarrs_chain_meaning.specs.CodecFacts.{facts, if_alone}
use Rattle.std.proofs.Common.{Global}
use Rattle.zarrs_chunk.specs.Runs.{joined_runs}
use Rattle.zarrs_codec.specs.declared.capabilities.PartialDecoderCapability.{PartialDecoderCapability}
use Rattle.zarrs_chain.specs.ChainView.{plain_chain}
use Rattle.zarrs_chain.specs.declared.codec_chain.CodecChain.{CodecChain}
use Rattle.zarrs_codecs.specs.CodecPart.{part_of, codec_read, codec_rests_on, rests_where}
use Rattle.zarrs_chain_meaning.specs.ChunkForm.{ChunkForm}
use Rattle.std.specs.Option.{option_map_or}

-- ---- chains

-- where the places that a selection selects go through array-to-array codecs, in order, or the first error
abbrev pub encoded_places : ElementType → List ArrayMapping → List ℕ → Selection → Result (List ℕ) CodecError
encoded_places type arrays sizes selection = do
  places ← places_of selection sizes
  m ← arrays_map type arrays sizes
  Ok (map m.to places)

-- the bytes that stand below bytes-to-bytes codecs, where something is stored; or the error of the last of them, or of one below
abbrev pub outer_stored : {B : Type 0} → BytesCodecs B → List B → BytesRepresentation → Option (List ℕ) → Result (Option (List ℕ)) CodecError
outer_stored f codecs r None = Ok None
outer_stored f codecs r (Some value) = seen (λ bytes. Some bytes) (outer_bytes f codecs r value)

-- The elements that a selection selects, in its order, of what is stored, or the first error: the selection's; of the bytes-to-bytes codecs, the last of them first; of the array-to-bytes codec. Where nothing is stored, the fill element at each place.
abbrev pub stored_read : {B : Type 0} → BytesCodecs B → ChunkForm B → Option (List ℕ) → Selection → Result Chunk CodecError
stored_read f form stored selection = do
  places ← encoded_places form.type form.chain.array_to_array form.sizes selection
  taken ← taken_form f form.chain form.sizes form.type form.fill
  below ← outer_stored f form.chain.bytes_to_bytes taken.1 stored
  (part_of form.chain.array_to_bytes).read f taken.0 form.type form.fill below places

-- ---- plans

-- whether a read asks for the bytes of its places alone: it does over `bytes` and `packbits` where there are no bytes-to-bytes codecs
abbrev pub reads_places : {B : Type 0} → List B → PlainCodec B → Bool
reads_places outer codec = is_none (slice_get outer 0) && (part_of codec).plans

-- the byte order of a chain that writes in place, where it does: over `bytes` without bytes-to-bytes codecs the bytes of places are those of their elements, and a write over a stored value replaces them alone
abbrev pub form_in_place : {B : Type 0} → ChunkForm B → Option (Option Endianness)
form_in_place form = if_alone [] (facts form.chain.array_to_bytes).order form.chain.bytes_to_bytes

-- the region that a selection selects, where its bytes are planned in the order in which they stand: over `bytes` without bytes-to-bytes codecs, of one that goes through array-to-array codecs, at least one, as a region
abbrev pub planned_region : {B : Type 0} → ChunkForm B → Selection → Option Region
planned_region form selection =
    if is_some (form_in_place form) then kept_region form.chain.array_to_array form.sizes selection else None

-- where a region stands in the moved chunk: the places of its last window, which rise
abbrev pub standing_places : List ArrayMapping → List ℕ → Region → List ℕ
standing_places arrays sizes region = window_places (last_window arrays (window_of sizes region))

-- where the places that a selection selects go, in the order in which their bytes are planned, or the first error
abbrev pub planned_order : {B : Type 0} → ChunkForm B → Selection → Result (List ℕ) CodecError
planned_order form selection =
    seen (option_map_or (standing_places form.chain.array_to_array form.sizes) (planned_region form selection)) (encoded_places form.type form.chain.array_to_array form.sizes selection)

-- the places whose bytes a read asks for, of the chunk that the array-to-bytes codec gets, in the order in which they are planned, where it asks for these alone; or the first error
abbrev pub planned_places : {B : Type 0} → ChunkForm B → Selection → Result (Option (List ℕ)) CodecError
planned_places form selection =
    seen (λ places. if reads_places form.chain.bytes_to_bytes form.chain.array_to_bytes then Some places else None) (planned_order form selection)

-- what a plan is of a read of these places: ranges where it asks for the places' bytes alone, and else none
abbrev pub IsReadPlan : {B : Type 0} → BytesCodecs B → ChunkForm B → Option (List ByteSpan) → Option (List ℕ) → Type 0
IsReadPlan f form None None = Unit {0}
IsReadPlan f form (Some ranges) (Some places) =
    IsOkAnd (taken_form f form.chain form.sizes form.type form.fill) (λ taken. (part_of form.chain.array_to_bytes).IsPlanned taken.0 form.type form.fill places ranges)
IsReadPlan f form _ _ = ⊥

-- ---- what a read rests on

-- whether a read asks for a part of the value alone: it does over `bytes`, `packbits`, a plain `vlen` and `sharding_indexed` where there are no bytes-to-bytes codecs
abbrev pub asks_in_part : {B : Type 0} → List B → PlainCodec B → Bool
asks_in_part outer codec = is_none (slice_get outer 0) && (facts codec).reads

-- the numbers of the bytes that a read asks for, of what is stored, where it asks for a part alone and a shard's index is known, or isn't; or the first error
abbrev pub read_rests_where : {B : Type 0} → Bool → BytesCodecs B → ChunkForm B → Option (List ℕ) → Selection → Result (Option (List ℕ)) CodecError
read_rests_where known f form stored selection = do
  places ← encoded_places form.type form.chain.array_to_array form.sizes selection
  taken ← taken_form f form.chain form.sizes form.type form.fill
  numbers ← rests_where known f form.chain.array_to_bytes taken.0 form.type form.fill stored places
  Ok (if asks_in_part form.chain.bytes_to_bytes form.chain.array_to_bytes then Some numbers else None)

-- P, where a read asks for a part of the value alone and these bytes are sure
abbrev pub WhereSureBy : {B : Type 0} → Bool → BytesCodecs B → ChunkForm B → StorageState → Selection → Type 0 → Type 0
WhereSureBy known f form before selection P =
    IfOk (read_rests_where known f form before.value selection) (λ asked. IfSome asked (λ numbers. are_sure before.sure numbers ≡ true → P))

-- the numbers of the bytes where no index is known
abbrev pub read_rests_on : {B : Type 0} → BytesCodecs B → ChunkForm B → Option (List ℕ) → Selection → Result (Option (List ℕ)) CodecError
read_rests_on f form stored selection = read_rests_where false f form stored selection

-- the bytes are sure that a read rests on, where it asks for a part of the value alone
abbrev pub are_asked_sure : Option (ℕ → Bool) → Result (Option (List ℕ)) CodecError → Bool
are_asked_sure sure (Ok (Some numbers)) = are_sure sure numbers
are_asked_sure sure (Ok None) = false
are_asked_sure sure (Err error) = false

-- these bytes are sure
abbrev pub are_given_sure : Option (ℕ → Bool) → Result (List ℕ) CodecError → Bool
are_given_sure sure (Ok numbers) = are_sure sure numbers
are_given_sure sure (Err error) = false

-- a read of the selection never meets a failure of the handle that has this value and these sure bytes: it comes from a cache, or the bytes are sure that it rests on
abbrev pub reads_surely : {B : Type 0} → Bool → BytesCodecs B → ChunkForm B → Option (List ℕ) → Option (ℕ → Bool) → Selection → Bool
reads_surely cached f form stored sure selection = cached || are_asked_sure sure (read_rests_on f form stored selection)

-- ---- what a read gives

-- The answer is a container of the elements at the selected places, of the chunk that the stored value stands for, or of fill elements where nothing is stored; or the first error. Only a lack of memory or a failure of the handle may come in its place, a failure behind the errors of the selection, and never where the read asks for a part of the value alone and the bytes that it rests on are sure.
pub record ReadsStoredChunk {B : Type 0} (f : BytesCodecs B) (form : ChunkForm B) (before : StorageState) (selection : Selection) (result : Result Held CodecError) : Type 0 where
  pub selected : (value : List ℕ) (chunk : Chunk) → before.value ≡ Some value → (chain_meaning form.chain).Stands f form.sizes form.type form.fill value chunk
      → AnswersBy memory_or_fault (Holds form.type) result (seen (select chunk) (places_of selection form.sizes))
  pub unstored : before.value ≡ None
      → AnswersBy memory_or_fault (Holds form.type) result (seen (map (λ _. fill_element form.type form.fill)) (places_of selection form.sizes))
  pub exact : AnswersBy memory_or_fault (Holds form.type) result (stored_read f form before.value selection)
  pub indexer_first : IfErr (bounds_of selection form.sizes) (λ cause. AnswersBy memory (Holds form.type) result (Err cause))
  pub sure : WhereSureBy false f form before selection (is_fault result ≡ false)

-- ---- what calls give

-- the chunk of these sizes, this type and this fill value, through the chain
abbrev pub chunk_form : {B : Type 0} → PlainChain B → Form → ChunkForm B
chunk_form chain form = record { chain = chain; sizes = form.sizes; type = form.type; fill = form.fill }

-- the chunk of these sizes, this type and this fill value, through the chain as plain data
abbrev pub chunk_of : {B : Type 0} → CodecChain B → List ℕ → ElementType → List ℕ → ChunkForm B
chunk_of chain sizes type fill = chunk_form (plain_chain chain) (form_of sizes type fill)

-- what was made has the form of the chunk of these sizes, this type and this fill value, through the chain
abbrev pub HasChunkForm : {T E B : Type 0} → (T → ChunkForm B) → CodecChain B → List ℕ → ElementType → List ℕ → Result T E → Type 0
HasChunkForm view chain sizes type fill result = IfOk result (λ it. view it ≡ chunk_of chain sizes type fill)

-- the codec takes such chunks
abbrev pub TakenBy : {B : Type 0} → BytesCodecs B → PlainCodec B → Form → Type 0
TakenBy f codec form = is_ok (codec_representation f codec form.sizes form.type form.fill) ≡ true

-- the shape of the chunk that the chain's array-to-bytes codec gets, and how many bytes its values have; or the first error
abbrev pub form_taken : {B : Type 0} → BytesCodecs B → CodecChain B → Form → Result (List ℕ × BytesRepresentation) CodecError
form_taken f chain form = taken_form f (plain_chain chain) form.sizes form.type form.fill

-- a container of the elements at the places of these runs is given, by these bytes, or by none; or the first error
abbrev pub GivesRuns : {B : Type 0} → BytesCodecs B → PlainCodec B → Form → Option (List ℕ) → List (ℕ × ℕ) → Result Held CodecError → Type 0
GivesRuns f codec form stored runs result =
    GivesBy (Holds form.type) result (codec_read f codec form.sizes form.type form.fill stored (joined_runs runs))

-- the same, of the chunk that a value stands for
abbrev pub GivesRunsOf : {B : Type 0} → BytesCodecs B → PlainCodec B → Form → List ℕ → List (ℕ × ℕ) → Result Held CodecError → Type 0
GivesRunsOf f codec form value runs result =
    GivesBy (Holds form.type) result (seen (λ chunk. select chunk (joined_runs runs)) (codec_chunk f codec form.sizes form.type form.fill value))

-- a container is given of what a read of places answers, or the first error; lack of memory or a failure of the handle may come in its place
abbrev pub AnswersRuns : ElementType → Result Chunk CodecError → Result Held CodecError → Type 0
AnswersRuns type expected result = AnswersBy memory_or_fault (Holds type) result expected

-- such a container of the elements at the places of these runs, of what a handle keeps
abbrev pub ChunkReadsRuns : {B : Type 0} → BytesCodecs B → PlainCodec B → Form → StorageState → List (ℕ × ℕ) → Result Held CodecError → Type 0
ChunkReadsRuns f codec form before runs result =
    AnswersRuns form.type (codec_read f codec form.sizes form.type form.fill before.value (joined_runs runs)) result

-- no failure of the handle comes where the bytes are sure that a read of these runs rests on
abbrev pub SureRuns : {B T : Type 0} → BytesCodecs B → PlainCodec B → Form → StorageState → List (ℕ × ℕ) → Result T CodecError → Type 0
SureRuns f codec form before runs result =
    IfOk (codec_rests_on f codec form.sizes form.type form.fill before.value (joined_runs runs)) (λ numbers. are_sure before.sure numbers ≡ true → is_fault result ≡ false)

-- the plan of a read of the selected places is given, or the first error: the ranges are the bytes of these places and no others; none, where the read asks for more
abbrev pub PlansRead : {B : Type 0} → BytesCodecs B → ChunkForm B → Selection → Result (Option (Vec ByteSpan Global)) CodecError → Type 0
PlansRead f form selection result =
    GivesBy (λ ranges. IsReadPlan f form (option_map (λ (v : Vec ByteSpan Global). v.items) ranges)) result (planned_places form selection)

-- the places that a selection selects, as they go through the array-to-array codecs
abbrev pub form_places : {B : Type 0} → ChunkForm B → Selection → Result (List ℕ) CodecError
form_places form selection = encoded_places form.type form.chain.array_to_array form.sizes selection

-- all codecs of the chain decode a part
abbrev pub decodes_parts : {B : Type 0} → (B → PartialDecoderCapability) → ChunkForm B → Bool
decodes_parts reads form = (chain_reads reads form.chain).partial_decode
