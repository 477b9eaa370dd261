-- Reads in part of `sharding_indexed`: the index, and then of each inner chunk with selected places what is read of its own bytes, in the order of their numbers.
use Rattle.std.specs.List.{range_with_len}
use Rattle.std.specs.Result.{result_unwrap_or}
use Rattle.std.specs.Prelude.{◌≡◌, ℕ, zero, suc, ◌+◌, ◌-◌, nat_le, if◌then◌else◌, Bool, true, false, Some, None, List, [], ◌∷◌, ◌++◌, length, drop, map, get_or, Result, Ok, refl}
use Rattle.std.proofs.Common.{◌∙◌, ap, sym}
use Rattle.zarrs_chain_meaning.specs.Meaning.{Measure, Decoder}
use Rattle.zarrs_chain_meaning.specs.sharding.InnerChunks.{inner_chunk_of}
use Rattle.zarrs_chain_meaning.specs.sharding.Sharding.{index_size, Span, is_stored, spans_in, spanned_bytes}
use Rattle.zarrs_chunk.specs.Answer.{◌>>=◌, demand, seen}
use Rattle.zarrs_chunk.specs.declared.codec_error.CodecError.TheVariants.{InvalidByteRange}
use Rattle.zarrs_chunk.specs.declared.codec_error.CodecError.{CodecError}
use Rattle.zarrs_codec.specs.CountLaws.{passed, same_value}
use Rattle.zarrs_codecs.specs.PartRead.{PlaceReader, AnswersEach, each_count}
use Rattle.zarrs_codecs.specs.PlaceLaws.{Resting}
use Rattle.zarrs_data_type.specs.Element.{absent, Chunk, fill_element}
use Rattle.zarrs_data_type.specs.ElementType.{ElementType}
use Rattle.zarrs_shard_runs.specs.PlacesInside.{places_of_inner}

-- ---- the answer

-- the elements at places of the inner chunk at a span: by its own bytes; fill elements where it isn't stored
abbrev pub span_read : Bool → PlaceReader → List ℕ → ElementType → List ℕ → List ℕ → Span → List ℕ → Result Chunk CodecError
span_read false read shape type fill value span places = read shape type fill None places
span_read true read shape type fill value span places = do
  _ ← demand (nat_le (span.0 + span.1) (length value)) InvalidByteRange
  read shape type fill (Some (spanned_bytes value span)) places

-- of a list without members nothing is asked
abbrev pub of_any : {A : Type 0} → (List ℕ → Result (List A) CodecError) → List ℕ → Result (List A) CodecError
of_any asked [] = Ok []
of_any asked (place ∷ places) = asked (place ∷ places)

-- of each inner chunk from a number on, what is asked of its span and of its places, where it has any, joined to what the rest gives; or the first error
abbrev pub each_inner : {A R : Type 0} → (List A → List R → List R) → (Span → List ℕ → Result (List A) CodecError) → List ℕ → List ℕ → List ℕ → ℕ → List Span → Result (List R) CodecError
each_inner join asked shape sizes places number [] = Ok []
each_inner join asked shape sizes places number (span ∷ spans) = do
  here ← of_any (asked span) (places_of_inner shape sizes number places)
  behind ← each_inner join asked shape sizes places (suc number) spans
  Ok (join here behind)

-- the parts, that of this number without its first element
abbrev pub without_first : ℕ → List Chunk → List Chunk
without_first number [] = []
without_first zero (part ∷ parts) = drop 1 part ∷ parts
without_first (suc number) (part ∷ parts) = part ∷ without_first number parts

-- place by place the next element of its inner chunk's part
abbrev pub in_turn : List ℕ → List ℕ → List Chunk → List ℕ → Chunk
in_turn shape sizes parts [] = []
in_turn shape sizes parts (place ∷ places) =
    get_or (get_or parts (inner_chunk_of shape sizes place) []) 0 absent ∷ in_turn shape sizes (without_first (inner_chunk_of shape sizes place) parts) places

-- the elements at places, by where the inner chunks stand
abbrev pub spans_read : PlaceReader → List ℕ → List ℕ → ElementType → List ℕ → List ℕ → List ℕ → List Span → Result Chunk CodecError
spans_read read shape sizes type fill value places spans = do
  parts ← each_inner ◌∷◌ (λ span. span_read (is_stored span) read shape type fill value span) shape sizes places 0 spans
  Ok (in_turn shape sizes parts places)

-- what `sharding_indexed` reads, whose inner chain reads so
abbrev pub shard_read : List ℕ → Bool → Measure → Decoder → PlaceReader → PlaceReader
shard_read shape at_end measure index read sizes type fill None places = Ok (map (λ _. fill_element type fill) places)
shard_read shape at_end measure index read sizes type fill (Some value) places = do
  spans ← spans_in shape at_end measure index sizes value
  spans_read read shape sizes type fill value places spans

-- in turn there is an element for each place
in_turn_count : (shape sizes : List ℕ) (parts : List Chunk) (places : List ℕ) → length (in_turn shape sizes parts places) ≡ length places
in_turn_count shape sizes parts [] = refl
in_turn_count shape sizes parts (place ∷ places) = ap suc (in_turn_count shape sizes (without_first (inner_chunk_of shape sizes place) parts) places)

-- so a shard's read answers one for each place
pub shard_count : (shape : List ℕ) (at_end : Bool) (measure : Measure) (index : Decoder) (read : PlaceReader) → AnswersEach (shard_read shape at_end measure index read)
shard_count shape at_end measure index read sizes type fill None places chunk e = each_count (λ _. fill_element type fill) places chunk e
shard_count shape at_end measure index read sizes type fill (Some value) places chunk e =
    let spans = passed (spans_in shape at_end measure index sizes value) (spans_read read shape sizes type fill value places) chunk e in
    let parts = passed (each_inner ◌∷◌ (λ span. span_read (is_stored span) read shape type fill value span) shape sizes places 0 spans.given) (λ parts. Ok (in_turn shape sizes parts places)) chunk spans.second_is in
    ap length (sym (same_value (in_turn shape sizes parts.given places) chunk parts.second_is)) ∙ in_turn_count shape sizes parts.given places

-- ---- the answer by groups

-- the elements at the places of groups, each an inner chunk's number and places of it, group by group; or the first error
abbrev pub groups_read : PlaceReader → List ℕ → ElementType → List ℕ → List ℕ → List Span → List (ℕ × List ℕ) → Result Chunk CodecError
groups_read read shape type fill value spans [] = Ok []
groups_read read shape type fill value spans (group ∷ groups) = do
  part ← span_read (is_stored (get_or spans group.0 (0, 0))) read shape type fill value (get_or spans group.0 (0, 0)) group.1
  rest ← groups_read read shape type fill value spans groups
  Ok (part ++ rest)

-- ---- what it rests on

-- the numbers of the index's bytes
abbrev pub index_bytes_at : Bool → ℕ → List ℕ → List ℕ
index_bytes_at at_end size value = range_with_len (if at_end then length value - size else 0) size

-- the same, by how many bytes the index chain makes of an index
abbrev pub index_bytes_in : List ℕ → Bool → Measure → List ℕ → List ℕ → Result (List ℕ) CodecError
index_bytes_in shape at_end measure sizes value = do
  size ← index_size measure shape sizes
  Ok (index_bytes_at at_end size value)

-- those of the inner chunk at a span, which its own read rests on; none where it isn't stored, or ends behind the value
abbrev pub span_rests : Bool → Resting → List ℕ → ElementType → List ℕ → List ℕ → Span → List ℕ → Result (List ℕ) CodecError
span_rests false rests shape type fill value span places = Ok []
span_rests true rests shape type fill value span places =
    if nat_le (span.0 + span.1) (length value) then seen (map (λ number. span.0 + number)) (rests shape type fill (Some (spanned_bytes value span)) places) else Ok []

-- of each group
abbrev pub groups_rest : Resting → List ℕ → ElementType → List ℕ → List ℕ → List Span → List (ℕ × List ℕ) → Result (List ℕ) CodecError
groups_rest rests shape type fill value spans [] = Ok []
groups_rest rests shape type fill value spans (group ∷ groups) = do
  here ← span_rests (is_stored (get_or spans group.0 (0, 0))) rests shape type fill value (get_or spans group.0 (0, 0)) group.1
  behind ← groups_rest rests shape type fill value spans groups
  Ok (here ++ behind)

-- what a read of `sharding_indexed` rests on behind its index, by what one of its inner chain rests on; nothing, where the index can't be read
abbrev pub shard_rests_behind : List ℕ → Bool → Measure → Decoder → Resting → Resting
shard_rests_behind shape at_end measure index rests sizes type fill None places = Ok []
shard_rests_behind shape at_end measure index rests sizes type fill (Some value) places =
    each_inner ◌++◌ (λ span. span_rests (is_stored span) rests shape type fill value span) shape sizes places 0 (result_unwrap_or (spans_in shape at_end measure index sizes value) [])

-- what a read of `sharding_indexed` rests on, by what one of its inner chain rests on: the index, and what the inner reads rest on
abbrev pub shard_rests : List ℕ → Bool → Measure → Decoder → Resting → Resting
shard_rests shape at_end measure index rests sizes type fill None places = Ok []
shard_rests shape at_end measure index rests sizes type fill (Some value) places = do
  size ← index_size measure shape sizes
  behind ← shard_rests_behind shape at_end measure index rests sizes type fill (Some value) places
  Ok (index_bytes_at at_end size value ++ behind)
