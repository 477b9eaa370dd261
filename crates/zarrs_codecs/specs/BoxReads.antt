-- What reads of a box of a shard give part by part, each part a box of one inner chunk.
use Rattle.std.specs.Prelude.{◌≡◌, ℕ, ◌<◌, ◌^◌, true, Option, List, [], ◌∷◌, length, map, get_or, Result, Ok}
use Rattle.std.specs.List.{All, flat_map, range_with_len}
use Rattle.zarrs_array_bytes.specs.Elements.{elements}
use Rattle.zarrs_array_bytes.specs.Held.{Held}
use Rattle.zarrs_array_bytes.specs.Update.{update}
use Rattle.zarrs_array_bytes.specs.Validity.{Holds}
use Rattle.zarrs_array_regions.specs.WindowLaws.{region_places}
use Rattle.zarrs_chain_meaning.specs.sharding.Sharding.{Span, spans_of}
use Rattle.zarrs_chunk.specs.Answer.{◌>>=◌, GivesBy}
use Rattle.zarrs_chunk.specs.ChunkShape.{product}
use Rattle.zarrs_chunk.specs.Region.{Region}
use Rattle.zarrs_chunk.specs.Tuples.{is_box_inside, is_tuple_inside, row_major}
use Rattle.zarrs_chunk.specs.declared.codec_error.CodecError.{CodecError}
use Rattle.zarrs_codec.specs.StorageState.{StorageState}
use Rattle.zarrs_codecs.specs.ChunkRead.{AnswersRuns}
use Rattle.zarrs_codecs.specs.PartRead.{PlaceReader}
use Rattle.zarrs_codecs.specs.SpanReads.{SureWhere, stored_groups_rest, stored_span_read, taken_read, taken_rests}
use Rattle.zarrs_codecs.specs.TakenChain.{inner_form}
use Rattle.zarrs_codecs.specs.declared.sharding.taken_chain.TakenChain.{TakenChain}
use Rattle.zarrs_data_type.specs.Element.{Chunk, fill_element}
use Rattle.zarrs_data_type.specs.ElementType.{ElementType}
use Rattle.zarrs_grid.specs.declared.chunk_part.ChunkPart.{ChunkPart}

-- ---- parts

-- the number of a part's inner chunk, in a grid of these sizes, and the part's places in it
abbrev pub part_group : List ℕ → List ℕ → ChunkPart → ℕ × List ℕ
part_group shape grid part = (row_major grid part.chunk.items, region_places shape part.in_chunk)

-- A part of a box of these lengths: a box of an inner chunk of this shape, which is one of the grid's, and as long a box of the box. It has elements.
pub record IsShardPart (shape grid lengths : List ℕ) (part : ChunkPart) : Type 0 where
  pub chunk : is_tuple_inside grid part.chunk.items ≡ true
  pub inside : is_box_inside shape part.in_chunk.starts part.in_chunk.lengths ≡ true
  pub filled : 0 < product part.in_chunk.lengths
  pub in_region : is_box_inside lengths part.in_region.starts part.in_region.lengths ≡ true
  pub alike : part.in_region.lengths ≡ part.in_chunk.lengths

-- each of them is one, and 64 bits count their places
pub record AreShardParts (shape grid lengths : List ℕ) (parts : List ChunkPart) : Type 0 where
  pub each : All (IsShardPart shape grid lengths) parts
  pub counted : length (flat_map (λ part. region_places shape part.in_chunk) parts) < 2 ^ 64

-- ---- reads

-- What is read of a part: the elements at its places, of the inner chunk that stands where the index says, and whose chain reads so.
abbrev pub inner_part_read : PlaceReader → List ℕ → ElementType → List ℕ → Option (List ℕ) → List Span → List ℕ → ChunkPart → Result Chunk CodecError
inner_part_read read shape type fill stored spans grid part =
    stored_span_read read shape type fill stored (get_or spans (row_major grid part.chunk.items) (0, 0)) (region_places shape part.in_chunk)

-- The elements of a box of these lengths, with those of parts put in their places, one part after another; or the first error.
abbrev pub parts_read : PlaceReader → List ℕ → ElementType → List ℕ → Option (List ℕ) → List Span → List ℕ → List ℕ → List ChunkPart → Chunk → Result Chunk CodecError
parts_read read shape type fill stored spans grid lengths [] chunk = Ok chunk
parts_read read shape type fill stored spans grid lengths (part ∷ parts) chunk = do
  content ← inner_part_read read shape type fill stored spans grid part
  parts_read read shape type fill stored spans grid lengths parts (update chunk (region_places lengths part.in_region) content)

-- as many fill elements as a box of these lengths has elements
abbrev pub blank_box : ElementType → List ℕ → List ℕ → Chunk
blank_box type fill lengths = map (λ _. fill_element type fill) (range_with_len 0 (product lengths))

-- ---- what calls give

-- a container of the elements of a box of these lengths is given, with those of a part replaced
abbrev pub PutsPart : ElementType → List ℕ → Region → Held → Held → Result Held CodecError → Type 0
PutsPart type lengths part held content result =
    GivesBy (Holds type) result (Ok (update (elements type (product lengths) held) (region_places lengths part) (elements type (product part.lengths) content)))

-- a container of the elements of a box of these lengths is given, read part by part by the numbers of the index; or the first error
abbrev pub ReadsParts : {B : Type 0} {b : _} → TakenChain B b → StorageState → List ℕ → List ℕ → List ℕ → List ChunkPart → Result Held CodecError → Type 0
ReadsParts taken before numbers grid lengths parts result =
    AnswersRuns (inner_form taken).type
    (parts_read (taken_read taken) (inner_form taken).sizes (inner_form taken).type (inner_form taken).fill before.value (spans_of numbers) grid lengths parts (blank_box (inner_form taken).type (inner_form taken).fill lengths)) result

-- no failure of the handle comes where the bytes are sure that the parts rest on
abbrev pub SureParts : {B T : Type 0} {b : _} → TakenChain B b → StorageState → List ℕ → List ℕ → List ChunkPart → Result T CodecError → Type 0
SureParts taken before numbers grid parts result =
    SureWhere before (stored_groups_rest (taken_rests taken) (inner_form taken).sizes (inner_form taken).type (inner_form taken).fill before.value (spans_of numbers) (map (part_group (inner_form taken).sizes grid) parts)) result
