-- What is known of a shard of a chunk that is taken, and of the places that are read of it.
use Rattle.std.proofs.Common.{◌≡◌, ℕ, ◌==◌, Bool, true, Some, None, List, [], ◌∷◌, ◌++◌, length, map, Result, Ok, Err, arith, refl, ap, sym, subst, ◌∙◌}
use Rattle.std.specs.Prelude.{IsOk, is_ok}
use Rattle.std.proofs.lemmas.List.{length-append, length-map}
use Rattle.zarrs_bytes.proofs.Coding.{bind_ok, demand_ok, ok}
use Rattle.zarrs_chain.specs.ChainView.{plain_chain}
use Rattle.zarrs_chain.specs.declared.codec_chain.CodecChain.{CodecChain}
use Rattle.zarrs_chain.specs.sharding.ShardingCalls.{index_size_of, shard_represented}
use Rattle.zarrs_chain_meaning.proofs.Answered.{from_ok}
use Rattle.zarrs_chain_meaning.proofs.ArraySteps.{ok_is, ok_no_err}
use Rattle.zarrs_chain_meaning.proofs.ChainSteps.{refused_representation}
use Rattle.zarrs_chain_meaning.specs.ArrayStages.{arrays_map}
use Rattle.zarrs_chain_meaning.specs.BytesStages.{outer_bytes}
use Rattle.zarrs_chain_meaning.specs.Chain.{taken_form}
use Rattle.zarrs_chain_meaning.specs.CodecMeaning.{PlainCodec, PlainChain, sharding_codec_of, codec_representation}
use Rattle.zarrs_chain_meaning.specs.sharding.InnerChunks.{grid, is_divided}
use Rattle.zarrs_chain_meaning.specs.sharding.ShardSteps.{divided_grid}
use Rattle.zarrs_chain_meaning.specs.sharding.Sharding.{Span, is_stored}
use Rattle.zarrs_chunk.specs.Answer.{◌>>=◌, demand}
use Rattle.zarrs_chunk.specs.declared.codec_error.CodecError.{CodecError}
use Rattle.zarrs_chunk.specs.declared.codec_error.CodecError.TheVariants.{IncompatibleDimensionality, IndivisibleShape}
use Rattle.zarrs_codec.specs.BytesToBytesCodec.{BytesCodecs}
use Rattle.zarrs_codec.specs.CountLaws.{passed}
use Rattle.zarrs_codec.specs.StorageState.{StorageState}
use Rattle.zarrs_codecs.proofs.GroupWalks.{places_of_groups, span_count}
use Rattle.zarrs_codecs.proofs.ShardSpans.{StoredShard, is_shard, shard_takes}
use Rattle.zarrs_codecs.proofs.SpanSeen.{stands_value}
use Rattle.zarrs_codecs.specs.CodecPart.{codec_read}
use Rattle.zarrs_codecs.specs.PartRead.{AnswersEach, PlaceReader}
use Rattle.zarrs_codecs.specs.ShardRead.{groups_read, span_read}
use Rattle.zarrs_codecs.specs.SpanReads.{StandsIn, chain_read, seen_state}
use Rattle.zarrs_codecs.specs.declared.sharding.value_span.ValueSpan.{ValueSpan}
use Rattle.zarrs_data_type.specs.Element.{Chunk, fill_element}
use Rattle.zarrs_data_type.specs.ElementType.{ElementType}
use Rattle.zarrs_codecs.specs.CountLaws.{part_counted}

pub is_ok_so : {A : Type 0} (r : Result A CodecError) → is_ok r ≡ true → IsOk r
is_ok_so (Ok x) h = refl
is_ok_so (Err e) h = absurd cc

-- ---- an element for each place

filled_count : (type : ElementType) (fill places : List ℕ) (chunk : Chunk) → ok (map (λ _. fill_element type fill) places) ≡ Ok chunk → length chunk ≡ length places
filled_count type fill places chunk e = ap length (sym (ok_is (map (λ _. fill_element type fill) places) chunk e)) ∙ length-map places (λ _. fill_element type fill)

pub chain_count : {B : Type 0} (f : BytesCodecs B) (chain : PlainChain B) → AnswersEach (chain_read f chain)
chain_count f chain sizes type fill None places chunk e = filled_count type fill places chunk e
chain_count f chain sizes type fill (Some value) places chunk e =
    let moved = passed (arrays_map type chain.array_to_array sizes) (λ m. codec_representation f chain.array_to_bytes m.encoded type fill >>= λ r. outer_bytes f chain.bytes_to_bytes r value >>= λ below. codec_read f chain.array_to_bytes m.encoded type fill (Some below) (map m.to places)) chunk e in
    let m = moved.given in
    let measured = passed (codec_representation f chain.array_to_bytes m.encoded type fill) (λ r. outer_bytes f chain.bytes_to_bytes r value >>= λ below. codec_read f chain.array_to_bytes m.encoded type fill (Some below) (map m.to places)) chunk moved.second_is in
    let opened = passed (outer_bytes f chain.bytes_to_bytes measured.given value) (λ below. codec_read f chain.array_to_bytes m.encoded type fill (Some below) (map m.to places)) chunk measured.second_is in
    part_counted f chain.array_to_bytes m.encoded type fill (Some opened.given) (map m.to places) chunk opened.second_is ∙ length-map places m.to

pub groups_long : (read : PlaceReader) → AnswersEach read → (shape : List ℕ) (type : ElementType) (fill value : List ℕ) (spans : List Span) (groups : List (ℕ × List ℕ)) (chunk : Chunk) → groups_read read shape type fill value spans groups ≡ Ok chunk → length chunk ≡ length (places_of_groups groups)
groups_long read each shape type fill value spans [] chunk e = ap length (sym (ok_is [] chunk e))
groups_long read each shape type fill value spans (one ∷ groups) chunk e =
    let a = bind_ok (span_read (is_stored _) read shape type fill value _ one.1) _ chunk e in
    let b = bind_ok (groups_read read shape type fill value spans groups) _ chunk a.2 in
    let here = span_count read shape type fill value _ one.1 a.0 each (is_stored _) a.1 in
    let rest = groups_long read each shape type fill value spans groups b.0 b.1 in
    let whole : length chunk ≡ length (a.0 ++ b.0) = ap length (sym (ok_is (a.0 ++ b.0) chunk b.2)) in
    let left = length-append a.0 b.0 in
    let right = length-append one.1 (places_of_groups groups) in
    omega (arith, here, rest, whole, left, right)

-- ---- a shard that is taken

grid_by : (same even : Bool) (counts : List ℕ) → same ≡ true → even ≡ true → (demand same IncompatibleDimensionality >>= λ _. demand even IndivisibleShape >>= λ _. ok counts) ≡ Ok counts
grid_by same even counts s e = rw (s, e) refl

module _ {B : Type 0} {f : BytesCodecs B} {codec : PlainCodec B} {inner index : CodecChain B} {shape : List ℕ} {at_end : Bool} {sizes : List ℕ} {type : ElementType} {fill : List ℕ} {state : StorageState} (shard : StoredShard f codec inner index shape at_end sizes type fill state) where
  -- inner chunks divide the chunk
  pub grid_known : divided_grid shape sizes ≡ Ok (grid shape sizes)
  grid_known =
      let known = from_ok (shard_represented f inner index shape sizes type fill) shard.taken in
      let a = bind_ok (demand (length shape == length sizes) IncompatibleDimensionality) _ known.0 known.1 in
      let b = bind_ok (demand (is_divided shape sizes) IndivisibleShape) _ known.0 a.2 in
      grid_by (length shape == length sizes) (is_divided shape sizes) (grid shape sizes) (demand_ok (length shape == length sizes) IncompatibleDimensionality a.0 a.1) (demand_ok (is_divided shape sizes) IndivisibleShape b.0 b.1)

  pub index_measured : IsOk (index_size_of f index (grid shape sizes))
  index_measured =
      let s = is_shard f inner index shape sizes type fill shard.taken in
      subst (λ (r : Result ℕ CodecError). IsOk r) (sym s.sized) refl

  -- the inner chain takes inner chunks
  pub inner_taken : (error : CodecError) → taken_form f (plain_chain inner) shape type fill ≡ Err error → ⊥
  inner_taken error e =
      let s = is_shard f inner index shape sizes type fill shard.taken in
      ok_no_err s.inner_size error (sym s.inner_is ∙ refused_representation f (plain_chain inner) shape type fill error e)

-- a shard of a codec with these parts that takes the chunk, in a span
pub stored_shard : {B : Type 0} (f : BytesCodecs B) (codec : PlainCodec B) (inner index : CodecChain B) (shape : List ℕ) (at_end : Bool) (sizes : List ℕ) (type : ElementType) (fill : List ℕ) (span : ValueSpan) (state : StorageState) → codec ≡ sharding_codec_of (plain_chain inner) (plain_chain index) shape at_end
    → is_ok (codec_representation f codec sizes type fill) ≡ true → StandsIn span state → StoredShard f codec inner index shape at_end sizes type fill (seen_state span state)
stored_shard f codec inner index shape at_end sizes type fill span state is takes stands =
    let there = stands_value span state stands in
    record { is = is; taken = shard_takes f codec inner index shape at_end sizes type fill is (is_ok_so (codec_representation f codec sizes type fill) takes); value = there.value; value_is = there.is }
