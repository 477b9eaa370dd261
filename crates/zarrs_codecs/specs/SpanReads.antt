-- What reads give of a value that stands in a span: of what a handle keeps, or of bytes in memory.
use Rattle.std.specs.Prelude.{◌≡◌, ℕ, ◌+◌, ◌-◌, ◌<◌, ◌^◌, if◌then◌else◌, nat_le, Bool, true, false, Option, Some, None, IfOk, List, [], ◌∷◌, length, Vec, Result, Ok, map, option_map}
use Rattle.std.specs.List.{All, flat_map}
use Rattle.std.specs.declared.alloc.Global.{Global}
use Rattle.zarrs_chunk.specs.Answer.{◌>>=◌, Answers, GivesBy, demand, is_fault, memory_or_fault}
use Rattle.zarrs_chunk.specs.ChunkShape.{product}
use Rattle.zarrs_chunk.specs.Region.{Region}
use Rattle.zarrs_chunk.specs.Runs.{AreFilled, EndWithin, joined_runs}
use Rattle.zarrs_chunk.specs.Selection.{Selection, places_of}
use Rattle.zarrs_chunk.specs.declared.codec_error.CodecError.TheVariants.{InvalidBytesLength, InvalidByteRange}
use Rattle.zarrs_chunk.specs.declared.codec_error.CodecError.{CodecError}
use Rattle.zarrs_array_bytes.specs.Elements.{select}
use Rattle.zarrs_array_bytes.specs.Held.{Held}
use Rattle.zarrs_array_bytes.specs.Validity.{Holds}
use Rattle.zarrs_array_regions.specs.WindowLaws.{region_places}
use Rattle.zarrs_chain.specs.ChainView.{plain_chain}
use Rattle.zarrs_chain.specs.declared.codec_chain.CodecChain.{CodecChain}
use Rattle.zarrs_chain.specs.sharding.ShardingCalls.{index_size_of}
use Rattle.zarrs_chain_meaning.specs.CodecMeaning.{PlainCodec, PlainChain, meaning, chain_representation, chain_chunk}
use Rattle.zarrs_chain_meaning.specs.sharding.InnerChunks.{grid}
use Rattle.zarrs_chain_meaning.specs.sharding.Sharding.{Span, is_stored, spans_of, spans_in}
use Rattle.zarrs_codec.specs.BytesToBytesCodec.{BytesCodecs}
use Rattle.zarrs_codec.specs.StorageState.{StorageState, are_sure, value_indices}
use Rattle.zarrs_codec.specs.declared.bytes_representation.BytesRepresentation.{BytesRepresentation}
use Rattle.zarrs_codecs.specs.ChunkRead.{AnswersRuns, are_given_sure}
use Rattle.zarrs_codecs.specs.ChunkSource.{bytes_above, source_places}
use Rattle.zarrs_codecs.specs.CodecPart.{codec_read, codec_rests_on, rests_where}
use Rattle.zarrs_codecs.specs.PartRead.{PlaceReader}
use Rattle.zarrs_codecs.specs.PlaceLaws.{Resting, read_through, rests_through}
use Rattle.zarrs_codecs.specs.ShardRead.{span_read, groups_read, index_bytes_at, span_rests, groups_rest}
use Rattle.zarrs_codecs.specs.TakenChain.{inner_form, moved_sizes, moved_taken}
use Rattle.zarrs_codecs.specs.declared.sharding.taken_chain.TakenChain.{TakenChain}
use Rattle.zarrs_codecs.specs.declared.sharding.value_span.ValueSpan.{ValueSpan}
use Rattle.zarrs_data_type.specs.Element.{Chunk}
use Rattle.zarrs_data_type.specs.ElementType.{ElementType}
use Rattle.zarrs_data_type.specs.Form.{Form}
use Rattle.zarrs_lent_handles.specs.SpanHandle.{is_span_of, span_state}
use Rattle.zarrs_shard_runs.specs.GroupedRuns.{group, order_places}
use Rattle.zarrs_shard_runs.specs.declared.grouped_runs.InnerRuns.{InnerRuns}

-- ---- spans

-- the bytes in memory that a span is one of, where it is
abbrev pub span_held : ValueSpan → Option (List ℕ)
span_held span = option_map (λ bytes. bytes.now) span.held

-- the state of bytes in memory, which are all sure; where there are none, that of the handle
abbrev pub held_state : Option (List ℕ) → StorageState → StorageState
held_state None state = state
held_state (Some bytes) state = record state { value = Some bytes; sure = Some (λ _. true) }

-- the state of a handle, where the value in a span is what is seen of it
abbrev pub seen_state : ValueSpan → StorageState → StorageState
seen_state span state = span_state span.at span.len (held_state (span_held span) state)

-- the span ends inside the bytes that it is one of
abbrev pub StandsIn : ValueSpan → StorageState → Type 0
StandsIn span state = is_span_of span.at span.len (held_state (span_held span) state).value ≡ true

-- the bytes that a span is one of, where it begins there, and how many bytes it has
abbrev pub span_parts : ValueSpan → Option (List ℕ) × ℕ × ℕ
span_parts span = (span_held span, span.at, span.len)

-- the span of a span at an offset, or the error where it ends behind that
abbrev pub inner_span : ValueSpan → ℕ → ℕ → Result (Option (List ℕ) × ℕ × ℕ) CodecError
inner_span span offset len = do
  _ ← demand (nat_le (offset + len) span.len) InvalidByteRange
  Ok (span_held span, span.at + offset, len)

-- where in a span an index of so many bytes stands, or the error where the span has fewer
abbrev pub index_span : ValueSpan → ℕ → Bool → Result (Option (List ℕ) × ℕ × ℕ) CodecError
index_span span size at_end = do
  _ ← demand (nat_le size span.len) (InvalidBytesLength span.len size)
  inner_span span (if at_end then span.len - size else 0) size

-- ---- the index

-- where the inner chunks stand, by the index of what is stored
abbrev pub stored_spans : {B : Type 0} → BytesCodecs B → PlainChain B → List ℕ → Bool → List ℕ → Option (List ℕ) → Result (List Span) CodecError
stored_spans f index shape at_end sizes None = Ok []
stored_spans f index shape at_end sizes (Some value) = spans_in shape at_end (chain_representation f index) (chain_chunk f index) sizes value

-- the numbers of the index's bytes
abbrev pub stored_index_bytes : Bool → ℕ → Option (List ℕ) → List ℕ
stored_index_bytes at_end size None = []
stored_index_bytes at_end size (Some value) = index_bytes_at at_end size value

-- the numbers that are given are those of where the inner chunks stand, or the first error
abbrev pub GivesSpans : {B : Type 0} → BytesCodecs B → CodecChain B → List ℕ → Bool → List ℕ → StorageState → Result (Vec ℕ Global) CodecError → Type 0
GivesSpans f index shape at_end sizes before result =
    Answers memory_or_fault (λ numbers. spans_of numbers.items) result (stored_spans f (plain_chain index) shape at_end sizes before.value)

-- no failure of the handle comes where the index's bytes are sure
abbrev pub SureIndex : {B T : Type 0} → BytesCodecs B → CodecChain B → List ℕ → Bool → List ℕ → StorageState → Result T CodecError → Type 0
SureIndex f index shape at_end sizes before result =
    IfOk (index_size_of f index (grid shape sizes)) (λ size. are_sure before.sure (stored_index_bytes at_end size before.value) ≡ true → is_fault result ≡ false)

-- ---- the inner chunks

-- the elements at places of the inner chunk at a span of what is stored, whose chain reads so
abbrev pub stored_span_read : PlaceReader → List ℕ → ElementType → List ℕ → Option (List ℕ) → Span → List ℕ → Result Chunk CodecError
stored_span_read read shape type fill None span places = Ok []
stored_span_read read shape type fill (Some value) span places = span_read (is_stored span) read shape type fill value span places

-- and what that rests on
abbrev pub stored_span_rests : Resting → List ℕ → ElementType → List ℕ → Option (List ℕ) → Span → List ℕ → Result (List ℕ) CodecError
stored_span_rests rests shape type fill None span places = Ok []
stored_span_rests rests shape type fill (Some value) span places = span_rests (is_stored span) rests shape type fill value span places

-- the elements at the places of groups, each of them an inner chunk's
abbrev pub stored_groups_read : PlaceReader → List ℕ → ElementType → List ℕ → Option (List ℕ) → List Span → List (ℕ × List ℕ) → Result Chunk CodecError
stored_groups_read read shape type fill None spans groups = Ok []
stored_groups_read read shape type fill (Some value) spans groups = groups_read read shape type fill value spans groups

-- and what that rests on
abbrev pub stored_groups_rest : Resting → List ℕ → ElementType → List ℕ → Option (List ℕ) → List Span → List (ℕ × List ℕ) → Result (List ℕ) CodecError
stored_groups_rest rests shape type fill None spans groups = Ok []
stored_groups_rest rests shape type fill (Some value) spans groups = groups_rest rests shape type fill value spans groups

-- the number of each group is that of an inner chunk; 64 bits count the groups' places; none of their runs is empty, and each ends within an inner chunk
pub record AreInnerRuns (shape : List ℕ) (count : ℕ) (groups : List InnerRuns) : Type 0 where
  pub there : All (λ it. it.number < count) groups
  pub counted : length (flat_map (λ it. joined_runs it.runs.items) groups) < 2 ^ 64
  pub filled : All (λ it. AreFilled it.runs.items) groups
  pub inside : All (λ it. EndWithin (product shape) it.runs.items) groups

-- ---- chains

-- what a chain reads of places
abbrev pub chain_read : {B : Type 0} → BytesCodecs B → PlainChain B → PlaceReader
chain_read f chain = read_through f chain.array_to_array ((meaning chain.array_to_bytes).representation f) (codec_read f chain.array_to_bytes) chain.bytes_to_bytes

-- and what that rests on
abbrev pub chain_rests : {B : Type 0} → BytesCodecs B → PlainChain B → Resting
chain_rests f chain = rests_through chain.array_to_array (codec_rests_on f chain.array_to_bytes) chain.bytes_to_bytes

-- what its array-to-bytes codec reads of places of the chunk that it gets, by what stands below the bytes-to-bytes codecs
abbrev pub moved_read : {B : Type 0} → BytesCodecs B → PlainChain B → List ℕ → ElementType → List ℕ → BytesRepresentation → Option (List ℕ) → List ℕ → Result Chunk CodecError
moved_read f chain encoded type fill r stored places = source_places f chain encoded type fill r (bytes_above (length chain.bytes_to_bytes) stored) places

-- what a read rests on below bytes-to-bytes codecs: with any of them all bytes
abbrev pub outer_rests : {B : Type 0} → List B → Resting → Resting
outer_rests [] rests = rests
outer_rests (codec ∷ codecs) rests = λ sizes type fill stored places. Ok (value_indices stored)

-- and what that rests on
abbrev pub moved_rests : {B : Type 0} → BytesCodecs B → PlainChain B → Resting
moved_rests f chain = outer_rests chain.bytes_to_bytes (codec_rests_on f chain.array_to_bytes)

-- what the chain that was taken reads of places
abbrev pub taken_read : {B : Type 0} {b : _} → TakenChain B b → PlaceReader
taken_read {b = b} taken = chain_read b.functions (inner_form taken).chain

-- and what that rests on
abbrev pub taken_rests : {B : Type 0} {b : _} → TakenChain B b → Resting
taken_rests {b = b} taken = chain_rests b.functions (inner_form taken).chain

-- ---- what calls give, of the chunks that a chain was taken for

-- the elements at places, through the chain
abbrev pub ReadsChain : {B : Type 0} {b : _} → TakenChain B b → StorageState → List ℕ → Result Held CodecError → Type 0
ReadsChain taken before places result =
    AnswersRuns (inner_form taken).type (taken_read taken (inner_form taken).sizes (inner_form taken).type (inner_form taken).fill before.value places) result

-- the elements at places of the chunk that the chain's array-to-bytes codec gets
abbrev pub ReadsMoved : {B : Type 0} {b : _} → TakenChain B b → StorageState → List ℕ → Result Held CodecError → Type 0
ReadsMoved {b = b} taken before places result =
    AnswersRuns (inner_form taken).type (moved_read b.functions (inner_form taken).chain (moved_sizes taken) (inner_form taken).type (inner_form taken).fill (moved_taken taken).1 before.value places) result

-- the elements at places of the inner chunk at a span of what is stored
abbrev pub ReadsSpan : {B : Type 0} {b : _} → TakenChain B b → StorageState → Span → List ℕ → Result Held CodecError → Type 0
ReadsSpan taken before span places result =
    AnswersRuns (inner_form taken).type (stored_span_read (taken_read taken) (inner_form taken).sizes (inner_form taken).type (inner_form taken).fill before.value span places) result

-- the elements at the places of groups of inner chunks, by the numbers of the index
abbrev pub ReadsGroups : {B : Type 0} {b : _} → TakenChain B b → StorageState → List ℕ → List InnerRuns → Result Held CodecError → Type 0
ReadsGroups taken before numbers groups result =
    AnswersRuns (inner_form taken).type (stored_groups_read (taken_read taken) (inner_form taken).sizes (inner_form taken).type (inner_form taken).fill before.value (spans_of numbers) (map group groups)) result

-- no failure of the handle comes where these bytes are sure
abbrev pub SureWhere : {T : Type 0} → StorageState → Result (List ℕ) CodecError → Result T CodecError → Type 0
SureWhere before rests result = are_given_sure before.sure rests ≡ true → is_fault result ≡ false

-- the same of the bytes that a read of these places rests on
abbrev pub SurePlaces : {T : Type 0} → Resting → Form → StorageState → List ℕ → Result T CodecError → Type 0
SurePlaces rests form before places result = SureWhere before (rests form.sizes form.type form.fill before.value places) result

-- through the chain
abbrev pub SureChain : {B T : Type 0} {b : _} → TakenChain B b → StorageState → List ℕ → Result T CodecError → Type 0
SureChain taken before places result =
    SureWhere before (taken_rests taken (inner_form taken).sizes (inner_form taken).type (inner_form taken).fill before.value places) result

-- of the chunk that the chain's array-to-bytes codec gets
abbrev pub SureMoved : {B T : Type 0} {b : _} → TakenChain B b → StorageState → List ℕ → Result T CodecError → Type 0
SureMoved {b = b} taken before places result =
    SureWhere before (moved_rests b.functions (inner_form taken).chain (moved_sizes taken) (inner_form taken).type (inner_form taken).fill before.value places) result

-- the elements that a selection selects, through the chain, and no failure where the bytes are sure that this rests on
abbrev pub ReadsIndexed : {B : Type 0} {b : _} → TakenChain B b → StorageState → Selection → Result Held CodecError → Type 0
ReadsIndexed taken before selection result =
    (places : List ℕ) → places_of selection (inner_form taken).sizes ≡ Ok places → ReadsChain taken before places result × SureChain taken before places result

-- the elements of a box of a chunk that a codec takes
abbrev pub ReadsBox : {B : Type 0} → BytesCodecs B → PlainCodec B → Form → StorageState → Region → Result Held CodecError → Type 0
ReadsBox f codec form before region result =
    AnswersRuns form.type (codec_read f codec form.sizes form.type form.fill before.value (region_places form.sizes region)) result

-- no failure of the handle comes where the bytes behind the index are sure that this rests on
abbrev pub SureBox : {B T : Type 0} → BytesCodecs B → PlainCodec B → Form → StorageState → Region → Result T CodecError → Type 0
SureBox f codec form before region result = SurePlaces (rests_where true f codec) form before (region_places form.sizes region) result

-- of the inner chunk at a span
abbrev pub SureSpan : {B T : Type 0} {b : _} → TakenChain B b → StorageState → Span → List ℕ → Result T CodecError → Type 0
SureSpan taken before span places result =
    SureWhere before (stored_span_rests (taken_rests taken) (inner_form taken).sizes (inner_form taken).type (inner_form taken).fill before.value span places) result

-- of groups of inner chunks
abbrev pub SureGroups : {B T : Type 0} {b : _} → TakenChain B b → StorageState → List ℕ → List InnerRuns → Result T CodecError → Type 0
SureGroups taken before numbers groups result =
    SureWhere before (stored_groups_rest (taken_rests taken) (inner_form taken).sizes (inner_form taken).type (inner_form taken).fill before.value (spans_of numbers) (map group groups)) result

-- of so many elements those in this order are given, or all as they are
abbrev pub PutsInOrder : ElementType → ℕ → Held → Option (Vec (ℕ × ℕ) Global) → Result Held CodecError → Type 0
PutsInOrder type count held order result =
    (chunk : Chunk) → Holds type held chunk → length chunk ≡ count → GivesBy (Holds type) result (Ok (select chunk (order_places count order)))
