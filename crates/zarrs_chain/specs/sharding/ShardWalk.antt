-- What is read and written of a shard, inner chunk by inner chunk.
use Rattle.std.specs.Prelude.{ℕ, suc, ◌<◌, nat_eq, if◌then◌else◌, Bool, true, false, Option, Some, None, List, [], ◌∷◌, length, Result, Ok, IsOk}
use Rattle.std.specs.Cmp.Lexicographic.{pointwise}
use Rattle.std.specs.List.{list_all}
use Rattle.zarrs_array_bytes.specs.Elements.{elements, piece, select}
use Rattle.zarrs_array_bytes.specs.Held.{Held}
use Rattle.zarrs_array_bytes.specs.Pieces.{pieces_at}
use Rattle.zarrs_array_bytes.specs.Update.{update}
use Rattle.zarrs_array_bytes.specs.Validity.{Holds}
use Rattle.zarrs_chunk.specs.Answer.{◌>>=◌, Gives, GivesBy, seen}
use Rattle.zarrs_chunk.specs.ChunkShape.{product}
use Rattle.zarrs_chunk.specs.declared.codec_error.CodecError.{CodecError}
use Rattle.zarrs_codec.specs.BytesToBytesCodec.{BytesCodecs}
use Rattle.zarrs_data_type.specs.Element.{Chunk}
use Rattle.zarrs_data_type.specs.ElementType.{ElementType}
use Rattle.zarrs_data_type.specs.Form.{Form}
use Rattle.zarrs_chain_meaning.specs.CodecMeaning.{chain_chunk, chain_value, codec_normal_element}
use Rattle.zarrs_chain_meaning.specs.ArrayStages.{IsMapWhere}
use Rattle.zarrs_chain_meaning.specs.Chain.{taken_form}
use Rattle.zarrs_chain_meaning.specs.KeptBytes.{KeepsBytes}
use Rattle.zarrs_chain_meaning.specs.Meaning.{Decoder}
use Rattle.zarrs_chain_meaning.specs.sharding.InnerChunks.{inner_chunk_places, inner_chunks_of, joined_inner_chunks}
use Rattle.zarrs_chain_meaning.specs.sharding.ShardSteps.{inner_value, inner_chunks_at}
use Rattle.zarrs_chain_meaning.specs.sharding.Sharding.{Span, is_stored, is_left_out, inner_chunk_at, spans_of}
use Rattle.zarrs_chain.specs.ChainView.{plain_chain}
use Rattle.zarrs_chain.specs.declared.codec_chain.CodecChain.{CodecChain}
use Rattle.zarrs_shard_bytes.specs.declared.written_shard.WrittenShard.{WrittenShard}
use Rattle.zarrs_shard_bytes.specs.WrittenShard.{written_seen, written_with}

-- ---- writing

-- each element at these places, of as many bytes as the item has, is the item
abbrev pub are_item : List ℕ → List ℕ → List ℕ → Bool
are_item item bytes places = list_all (λ place. pointwise nat_eq (piece (length item) bytes place) item) places

-- the bytes of the elements at these places, or none where each of them is the item
abbrev pub kept_part : List ℕ → List ℕ → List ℕ → Option (List ℕ)
kept_part item bytes places = if are_item item bytes places then None else Some (pieces_at (length item) bytes places)

-- The chain takes such chunks, and hands on the bytes of their elements as they are; and an element has bytes.
pub record KeepsInner {B : Type 0} (f : BytesCodecs B) (chain : CodecChain B) (sizes : List ℕ) (type : ElementType) (fill : List ℕ) : Type 0 where
  pub keeps : KeepsBytes (plain_chain chain) type
  pub taken : IsOk (taken_form f (plain_chain chain) sizes type fill)
  pub maps : IsMapWhere type (plain_chain chain).array_to_array sizes
  pub sized : 0 < length fill

-- the value of an inner chunk, or none where it is left out; or the first error
abbrev pub inner_part : {B : Type 0} → BytesCodecs B → CodecChain B → List ℕ → ElementType → List ℕ → Chunk → Result (Option (List ℕ)) CodecError
inner_part f chain shape type fill inner_chunk =
    inner_value (is_left_out (codec_normal_element (plain_chain chain).array_to_bytes) type fill inner_chunk) (chain_value f (plain_chain chain) shape type fill inner_chunk)

-- with these inner chunks more, or the first error
abbrev pub written_behind : {B : Type 0} → BytesCodecs B → CodecChain B → List ℕ → ElementType → List ℕ → List Chunk → (List ℕ × List ℕ) → Result (List ℕ × List ℕ) CodecError
written_behind f chain shape type fill [] so_far = Ok so_far
written_behind f chain shape type fill (inner_chunk ∷ inner_chunks) so_far = do
  part ← inner_part f chain shape type fill inner_chunk
  written_behind f chain shape type fill inner_chunks (written_with so_far part)

-- an inner chunk is written that a container holds
abbrev pub WritesInner : {B : Type 0} → BytesCodecs B → CodecChain B → Form → Held → WrittenShard → WrittenShard → Result (Unit {0}) CodecError → Type 0
WritesInner f chain form held old new result =
    Gives (λ _. written_seen new) result (seen (written_with (written_seen old)) (inner_part f chain form.sizes form.type form.fill (elements form.type (product form.sizes) held)))

-- the inner chunk at these places is written of the chunk that a container holds
abbrev pub WritesInnerAt : {B : Type 0} → BytesCodecs B → CodecChain B → List ℕ → Form → List ℕ → Held → WrittenShard → WrittenShard → Result (Unit {0}) CodecError → Type 0
WritesInnerAt f chain shape form places held old new result =
    Gives (λ _. written_seen new) result (seen (written_with (written_seen old)) (inner_part f chain shape form.type form.fill (select (elements form.type (product form.sizes) held) places)))

-- all inner chunks are written of the chunk that a container holds
abbrev pub WritesAll : {B : Type 0} → BytesCodecs B → CodecChain B → List ℕ → Form → Held → WrittenShard → WrittenShard → Result (Unit {0}) CodecError → Type 0
WritesAll f chain shape form held old new result =
    Gives (λ _. written_seen new) result (written_behind f chain shape form.type form.fill (inner_chunks_of shape form.sizes (elements form.type (product form.sizes) held)) (written_seen old))

-- ---- reading

-- the chunk with an inner chunk replaced, where it is stored; or the error
abbrev pub chunk_with : Decoder → List ℕ → List ℕ → ElementType → List ℕ → List ℕ → ℕ → Bool → Span → Chunk → Result Chunk CodecError
chunk_with decode shape sizes type fill value number false span chunk = Ok chunk
chunk_with decode shape sizes type fill value number true span chunk = do
  inner_chunk ← inner_chunk_at true decode shape type fill value span
  Ok (update chunk (inner_chunk_places shape sizes number) inner_chunk)

-- the chunk with all inner chunks replaced, from that of a number on, that are stored; or the first error
abbrev pub chunk_behind : Decoder → List ℕ → List ℕ → ElementType → List ℕ → List ℕ → ℕ → List Span → Chunk → Result Chunk CodecError
chunk_behind decode shape sizes type fill value number [] chunk = Ok chunk
chunk_behind decode shape sizes type fill value number (span ∷ spans) chunk = do
  more ← chunk_with decode shape sizes type fill value number (is_stored span) span chunk
  chunk_behind decode shape sizes type fill value (suc number) spans more

-- a container is given of the chunk with the inner chunk of a number replaced
abbrev pub ReplacesInner : List ℕ → List ℕ → ElementType → ℕ → Held → Held → Result Held CodecError → Type 0
ReplacesInner shape sizes type number held content result =
    GivesBy (Holds type) result (Ok (update (elements type (product sizes) held) (inner_chunk_places shape sizes number) (elements type (product shape) content)))

-- a container is given of the chunk with an inner chunk as the value has it
abbrev pub ReadsInner : {B : Type 0} → BytesCodecs B → CodecChain B → List ℕ → Form → List ℕ → ℕ → Span → Held → Result Held CodecError → Type 0
ReadsInner f chain shape form value number span held result =
    GivesBy (Holds form.type) result (chunk_with (chain_chunk f (plain_chain chain)) shape form.sizes form.type form.fill value number true span (elements form.type (product form.sizes) held))

-- the same of an inner chunk that may not be stored
abbrev pub ReadsNextInner : {B : Type 0} → BytesCodecs B → CodecChain B → List ℕ → Form → List ℕ → ℕ → Span → Held → Result Held CodecError → Type 0
ReadsNextInner f chain shape form value number span held result =
    GivesBy (Holds form.type) result (chunk_with (chain_chunk f (plain_chain chain)) shape form.sizes form.type form.fill value number (is_stored span) span (elements form.type (product form.sizes) held))

-- a container of the chunk is given that these numbers of an index say
abbrev pub ReadsAll : {B : Type 0} → BytesCodecs B → CodecChain B → List ℕ → Form → List ℕ → List ℕ → Result Held CodecError → Type 0
ReadsAll f chain shape form value numbers result =
    GivesBy (Holds form.type) result (inner_chunks_at (chain_chunk f (plain_chain chain)) shape form.type form.fill value (spans_of numbers) >>= λ inner_chunks. Ok (joined_inner_chunks shape form.sizes inner_chunks))
