-- What is read of the inner chunks of groups before they are decoded, by one reading call: at most the bytes that their reads rest on.
use Rattle.std.specs.Prelude.{◌≡◌, ℕ, ◌+◌, ◌≤◌, nat_le, Bool, true, Option, Some, List, length, map}
use Rattle.std.specs.List.{list_all}
use Rattle.zarrs_chain_meaning.specs.CodecMeaning.{PlainCodec}
use Rattle.zarrs_chain_meaning.specs.sharding.Sharding.{Span, is_stored, spans_of}
use Rattle.zarrs_chunk.specs.Runs.{joined_runs}
use Rattle.zarrs_codec.specs.ByteRanges.{range_indices}
use Rattle.zarrs_codec.specs.ByteSpan.{ByteSpan}
use Rattle.zarrs_codec.specs.BytesToBytesCodec.{BytesCodecs}
use Rattle.zarrs_codecs.specs.ChunkRead.{are_given_sure}
use Rattle.zarrs_codecs.specs.CodecPart.{codec_rests_on}
use Rattle.zarrs_codecs.specs.ShardRead.{groups_rest, span_rests}
use Rattle.zarrs_codecs.specs.SpanReads.{moved_rests, taken_rests}
use Rattle.zarrs_codecs.specs.TakenChain.{inner_form, moved_sizes}
use Rattle.zarrs_codecs.specs.declared.sharding.taken_chain.TakenChain.{TakenChain}
use Rattle.zarrs_codecs.specs.declared.sharding.value_span.ValueSpan.{ValueSpan}
use Rattle.zarrs_data_type.specs.Form.{Form}
use Rattle.zarrs_shard_runs.specs.GroupedRuns.{group}
use Rattle.zarrs_shard_runs.specs.declared.grouped_runs.InnerRuns.{InnerRuns}

-- all bytes of ranges pass a test
abbrev pub all_pass : (ℕ → Bool) → List ByteSpan → Bool
all_pass test ranges = list_all test (range_indices ranges)

-- the ranges end within so many bytes
abbrev pub end_within : ℕ → List ByteSpan → Bool
end_within limit ranges = list_all (λ range. nat_le range.end limit) ranges

-- of values of so many bytes: what all bytes pass that a read of places through the chain rests on, those of the ranges pass, too
abbrev pub AreRestedOn : {B : Type 0} {b : _} → TakenChain B b → ℕ → List ℕ → List ByteSpan → Type 0
AreRestedOn taken len places ranges =
    (value : List ℕ) (test : ℕ → Bool) → length value ≡ len → are_given_sure (Some test) (taken_rests taken (inner_form taken).sizes (inner_form taken).type (inner_form taken).fill (Some value) places) ≡ true → all_pass test ranges ≡ true

-- the same of a codec that plans, whatever is stored
abbrev pub PlacesRest : {B : Type 0} → BytesCodecs B → PlainCodec B → Form → List ℕ → List ByteSpan → Type 0
PlacesRest f codec form places ranges =
    (stored : Option (List ℕ)) (test : ℕ → Bool) → are_given_sure (Some test) (codec_rests_on f codec form.sizes form.type form.fill stored places) ≡ true → all_pass test ranges ≡ true

-- where places go in the chunk that the array-to-bytes codec gets: what all bytes pass that a read of them through the chain rests on, those pass that the codec's rests on
abbrev pub RestMoved : {B : Type 0} {b : _} → TakenChain B b → List ℕ → List ℕ → Type 0
RestMoved {b = b} taken places moved =
    (value : List ℕ) (test : ℕ → Bool) → are_given_sure (Some test) (taken_rests taken (inner_form taken).sizes (inner_form taken).type (inner_form taken).fill (Some value) places) ≡ true
    → are_given_sure (Some test) (moved_rests b.functions (inner_form taken).chain (moved_sizes taken) (inner_form taken).type (inner_form taken).fill (Some value) moved) ≡ true

-- The ranges have grown by some of an inner chunk's, which stands in a value at a span: what they pass that they passed before, and where they end.
pub record AddsRanges {B : Type 0} {b : _} (taken : TakenChain B b) (span : ValueSpan) (runs : List (ℕ × ℕ)) (before after : List ByteSpan) : Type 0 where
  pub inside : (limit : ℕ) → span.at + span.len ≤ limit → end_within limit before ≡ true → end_within limit after ≡ true
  pub rested : (value : List ℕ) (test : ℕ → Bool) → length value ≡ span.len → are_given_sure (Some (λ number. test (span.at + number))) (taken_rests taken (inner_form taken).sizes (inner_form taken).type (inner_form taken).fill (Some value) (joined_runs runs)) ≡ true → all_pass test before ≡ true → all_pass test after ≡ true

-- The same of an inner chunk at these two numbers of the index of the value at a span.
pub record AddsSpan {B : Type 0} {b : _} (taken : TakenChain B b) (span : ValueSpan) (place : Span) (runs : List (ℕ × ℕ)) (before after : List ByteSpan) : Type 0 where
  pub inside : end_within (span.at + span.len) before ≡ true → end_within (span.at + span.len) after ≡ true
  pub rested : (value : List ℕ) (test : ℕ → Bool) → length value ≡ span.len → are_given_sure (Some (λ number. test (span.at + number))) (span_rests (is_stored place) (taken_rests taken) (inner_form taken).sizes (inner_form taken).type (inner_form taken).fill value place (joined_runs runs)) ≡ true → all_pass test before ≡ true → all_pass test after ≡ true

-- The ranges of the inner chunks of groups, by the numbers of the index of the value at a span, within which they end.
pub record AreGroupRanges {B : Type 0} {b : _} (taken : TakenChain B b) (span : ValueSpan) (numbers : List ℕ) (groups : List InnerRuns) (ranges : List ByteSpan) : Type 0 where
  pub inside : end_within (span.at + span.len) ranges ≡ true
  pub rested : (value : List ℕ) (test : ℕ → Bool) → length value ≡ span.len → are_given_sure (Some (λ number. test (span.at + number))) (groups_rest (taken_rests taken) (inner_form taken).sizes (inner_form taken).type (inner_form taken).fill value (spans_of numbers) (map group groups)) ≡ true → all_pass test ranges ≡ true
