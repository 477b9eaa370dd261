-- What is read of a shard whose index is read and whose places are grouped by its inner chunks.
use Rattle.std.proofs.Common.{◌≡◌, ℕ, ◌+◌, ◌-◌, ◌<◌, ◌≤◌, ◌^◌, min, Bool, true, Option, List, length, map, Vec, Global, Result, Ok, Err, arith, ap, sym, subst, ◌∙◌}
use Rattle.std.proofs.lemmas.List.Folds.{flat_map-map}
use Rattle.std.specs.List.{All, flat_map}
use Rattle.std.specs.Prelude.{IsOkAnd}
use Rattle.zarrs_array_bytes.proofs.RunLemmas.{places_below}
use Rattle.zarrs_array_bytes.specs.Elements.{select}
use Rattle.zarrs_array_bytes.specs.Held.{Held}
use Rattle.zarrs_array_bytes.specs.Validity.{Holds}
use Rattle.zarrs_bytes.proofs.Coding.{ok}
use Rattle.zarrs_chain.specs.ChainView.{plain_chain}
use Rattle.zarrs_chain.specs.declared.codec_chain.CodecChain.{CodecChain}
use Rattle.zarrs_chain_meaning.proofs.InnerChunks.{is_cut}
use Rattle.zarrs_chain_meaning.specs.CodecMeaning.{PlainCodec, chain_chunk}
use Rattle.zarrs_chain_meaning.specs.sharding.InnerChunks.{IsCut, inner_chunk_count, is_divided}
use Rattle.zarrs_codecs.proofs.ShardReads.{spans_by, spans_rest}
use Rattle.zarrs_chain_meaning.specs.sharding.Sharding.{Span, spans_of}
use Rattle.zarrs_chunk.specs.Answer.{◌>>=◌, AnswersBy, memory, memory_or_fault}
use Rattle.zarrs_chunk.specs.ChunkShape.{product}
use Rattle.zarrs_chunk.specs.Runs.{joined_runs}
use Rattle.zarrs_chunk.specs.declared.codec_error.CodecError.{CodecError}
use Rattle.zarrs_codec.specs.BytesToBytesCodec.{BytesCodecs}
use Rattle.zarrs_codec.specs.StorageState.{StorageState}
use Rattle.zarrs_codecs.proofs.EditLaws.{found as ok_found}
use Rattle.zarrs_codecs.proofs.GroupWalks.{count_is, grouped_count, groups_below, numbers_below, places_of_groups}
use Rattle.zarrs_codecs.proofs.GroupedReads.{chain_each, grouped_read, grouped_rests, spans_counted}
use Rattle.zarrs_codecs.proofs.PlaceWrites.{memory_too}
use Rattle.zarrs_codecs.proofs.ShardParts.{chain_count, groups_long}
use Rattle.zarrs_codecs.proofs.ShardSpans.{StoredShard, all_read, behind_are, by_spans, known, spans_known}
use Rattle.zarrs_codecs.specs.ChunkRead.{are_given_sure}
use Rattle.zarrs_codecs.specs.KeptIndex.{IsIndex}
use Rattle.zarrs_codecs.specs.ShardRead.{spans_read}
use Rattle.zarrs_codecs.specs.SpanReads.{AreInnerRuns, PutsInOrder, chain_read, chain_rests, stored_groups_read, stored_groups_rest, stored_spans}
use Rattle.zarrs_data_type.specs.Element.{Chunk}
use Rattle.zarrs_data_type.specs.ElementType.{ElementType}
use Rattle.zarrs_shard_runs.specs.GroupedRuns.{AreGroups, IsReadingOrder, group, order_places}
use Rattle.zarrs_shard_runs.specs.PlacesInside.{groups_of}
use Rattle.zarrs_shard_runs.specs.declared.grouped_runs.InnerRuns.{InnerRuns}
use Rattle.zarrs_codecs.specs.CodecPart.{rests_where}

-- The shard's index has these numbers, and these places are the chunk's.
pub record PlacedShard {B : Type 0} (f : BytesCodecs B) (codec : PlainCodec B) (inner index : CodecChain B) (shape : List ℕ) (at_end : Bool) (sizes : List ℕ) (type : ElementType) (fill : List ℕ) (state : StorageState) (places numbers : List ℕ) : Type 0 where
  pub shard : StoredShard f codec inner index shape at_end sizes type fill state
  pub at : stored_spans f (plain_chain index) shape at_end sizes state.value ≡ Ok (spans_of numbers)
  pub cut : IsCut shape sizes
  pub below : All (λ place. place < product sizes) places

-- by numbers that are its index; the shape is borrowed
pub placed_shard : {B : Type 0} {f : BytesCodecs B} {codec : PlainCodec B} {inner index : CodecChain B} {shape : List ℕ} {at_end : Bool} {sizes : List ℕ} {type : ElementType} {fill : List ℕ} {state : StorageState} (shard : StoredShard f codec inner index shape at_end sizes type fill state)
    (numbers places : List ℕ) (lengths : List ℕ) → IsIndex f codec sizes state.value numbers → lengths ≡ shape → All (λ size. 0 < size) lengths → is_divided shape sizes ≡ true → All (λ place. place < product sizes) places
    → PlacedShard f codec inner index shape at_end sizes type fill state places numbers
placed_shard {f = f} {codec = codec} {inner = inner} {index = index} {shape = shape} {at_end = at_end} {sizes = sizes} {state = state} shard numbers places lengths indexed same positive divided below = record {
  shard = shard;
  at = spans_known f codec (plain_chain inner) (plain_chain index) shape at_end sizes state.value shard.value numbers shard.is shard.value_is indexed;
  cut = is_cut shape sizes (subst (All (λ size. 0 < size)) same positive) divided;
  below = below;
}

module _ {B : Type 0} {f : BytesCodecs B} {codec : PlainCodec B} {inner index : CodecChain B} {shape : List ℕ} {at_end : Bool} {sizes : List ℕ} {type : ElementType} {fill : List ℕ} {state : StorageState} {places numbers : List ℕ} (it : PlacedShard f codec inner index shape at_end sizes type fill state places numbers) where
  abbrev index_size : ℕ
  index_size = (known it.shard places).size

  spans_at : spans_by shape at_end (chain_chunk f (plain_chain index)) sizes it.shard.value index_size ≡ Ok (spans_of numbers)
  spans_at =
      ap (λ (r : Result ℕ CodecError). r >>= spans_by shape at_end (chain_chunk f (plain_chain index)) sizes it.shard.value) (sym (known it.shard places).sized)
      ∙ ap (λ (v : Option (List ℕ)). stored_spans f (plain_chain index) shape at_end sizes v) (sym it.shard.value_is)
      ∙ it.at

  pub counted : length (spans_of numbers) ≡ inner_chunk_count shape sizes
  counted = spans_counted f (plain_chain index).array_to_array (plain_chain index).array_to_bytes (plain_chain index).bytes_to_bytes shape at_end sizes it.shard.value index_size (spans_of numbers) spans_at

  -- what is read of the places, where the numbers say that the inner chunks stand
  pub placed_spans : all_read it.shard places ≡ spans_read (chain_read f (plain_chain inner)) shape sizes type fill it.shard.value places (spans_of numbers)
  placed_spans =
      by_spans it.shard places
      ∙ ap (λ (r : Result (List Span) CodecError). r >>= λ spans. spans_read (chain_read f (plain_chain inner)) shape sizes type fill it.shard.value places spans) it.at

  pub placed_read : (order : List ℕ) → IsReadingOrder shape sizes places order
      → all_read it.shard places ≡ (stored_groups_read (chain_read f (plain_chain inner)) shape type fill state.value (spans_of numbers) (groups_of shape sizes places) >>= λ joined. ok (select joined order))
  placed_read order o =
      placed_spans
      ∙ grouped_read (chain_read f (plain_chain inner)) shape sizes type fill it.shard.value places (spans_of numbers) order (chain_each f (plain_chain inner).array_to_array (plain_chain inner).array_to_bytes (plain_chain inner).bytes_to_bytes shape type fill) counted it.cut it.below o
      ∙ ap (λ (v : Option (List ℕ)). stored_groups_read (chain_read f (plain_chain inner)) shape type fill v (spans_of numbers) (groups_of shape sizes places) >>= λ joined. ok (select joined order)) (sym it.shard.value_is)

  pub behind_placed : rests_where true f codec sizes type fill state.value places ≡ stored_groups_rest (chain_rests f (plain_chain inner)) shape type fill state.value (spans_of numbers) (groups_of shape sizes places)
  behind_placed =
      (λ i. rests_where true f (it.shard.is i) sizes type fill (it.shard.value_is i) places)
      ∙ behind_are f (plain_chain inner) (plain_chain index) shape at_end sizes type fill it.shard.value places
      ∙ ap (spans_rest (chain_rests f (plain_chain inner)) shape sizes type fill it.shard.value places) (ap (λ (v : Option (List ℕ)). stored_spans f (plain_chain index) shape at_end sizes v) (sym it.shard.value_is) ∙ it.at)
      ∙ grouped_rests (chain_rests f (plain_chain inner)) shape sizes type fill it.shard.value places (spans_of numbers) counted
      ∙ ap (λ (v : Option (List ℕ)). stored_groups_rest (chain_rests f (plain_chain inner)) shape type fill v (spans_of numbers) (groups_of shape sizes places)) (sym it.shard.value_is)

-- These groups have the places.
pub record GroupedShard {B : Type 0} (f : BytesCodecs B) (codec : PlainCodec B) (inner index : CodecChain B) (shape : List ℕ) (at_end : Bool) (sizes : List ℕ) (type : ElementType) (fill : List ℕ) (state : StorageState) (places numbers : List ℕ) (groups : List InnerRuns) : Type 0 where
  pub placed : PlacedShard f codec inner index shape at_end sizes type fill state places numbers
  pub are : AreGroups shape sizes places groups

-- those of runs; the groups are borrowed
pub grouped_shard : {B : Type 0} {f : BytesCodecs B} {codec : PlainCodec B} {inner index : CodecChain B} {shape : List ℕ} {at_end : Bool} {sizes : List ℕ} {type : ElementType} {fill : List ℕ} {state : StorageState} (shard : StoredShard f codec inner index shape at_end sizes type fill state)
    (numbers : List ℕ) (runs : List (ℕ × ℕ)) (lengths : List ℕ) (grouped groups : List InnerRuns) → IsIndex f codec sizes state.value numbers → lengths ≡ shape → All (λ size. 0 < size) lengths → is_divided shape sizes ≡ true → All (λ run. run.0 + run.1 ≤ product sizes) runs
    → groups ≡ grouped → AreGroups shape sizes (joined_runs runs) grouped → GroupedShard f codec inner index shape at_end sizes type fill state (joined_runs runs) numbers groups
grouped_shard {shape = shape} {sizes = sizes} shard numbers runs lengths grouped groups indexed same positive divided inside groups_are are = record {
  placed = placed_shard shard numbers (joined_runs runs) lengths indexed same positive divided (places_below (product sizes) runs inside);
  are = subst (AreGroups shape sizes (joined_runs runs)) (sym groups_are) are;
}

module _ {B : Type 0} {f : BytesCodecs B} {codec : PlainCodec B} {inner index : CodecChain B} {shape : List ℕ} {at_end : Bool} {sizes : List ℕ} {type : ElementType} {fill : List ℕ} {state : StorageState} {places numbers : List ℕ} {groups : List InnerRuns} (it : GroupedShard f codec inner index shape at_end sizes type fill state places numbers groups) where
  abbrev of_groups : Result Chunk CodecError
  of_groups = stored_groups_read (chain_read f (plain_chain inner)) shape type fill state.value (spans_of numbers) (map group groups)

  pub inner_runs : length places < 2 ^ 64 → AreInnerRuns shape (length (spans_of numbers)) groups
  inner_runs l = record {
    there = subst (λ (n : ℕ). All (λ it. it.number < n) groups) (sym (counted it.placed)) (numbers_below (inner_chunk_count shape sizes) groups (subst (All (λ it. it.0 < inner_chunk_count shape sizes)) (sym it.are.groups) (groups_below shape sizes places)));
    counted =
        let same : length (flat_map (λ it. joined_runs it.runs.items) groups) ≡ length places =
        ap length (sym (flat_map-map (λ (it : ℕ × List ℕ). it.1) group groups))
        ∙ ap (λ (gs : List (ℕ × List ℕ)). length (places_of_groups gs)) it.are.groups
        ∙ grouped_count shape sizes places it.placed.cut it.placed.below in
        omega (arith, same, l);
    filled = it.are.filled;
    inside = it.are.inside;
  }

  by_groups : (order : List ℕ) → IsReadingOrder shape sizes places order → all_read it.placed.shard places ≡ (of_groups >>= λ joined. ok (select joined order))
  by_groups order o =
      placed_read it.placed order o
      ∙ ap (λ (gs : List (ℕ × List ℕ)). stored_groups_read (chain_read f (plain_chain inner)) shape type fill state.value (spans_of numbers) gs >>= λ joined. ok (select joined order)) (sym it.are.groups)

  -- a group is rejected
  pub groups_error : (order : List ℕ) → IsReadingOrder shape sizes places order → (error : CodecError) → of_groups ≡ Err error → all_read it.placed.shard places ≡ Err error
  groups_error order o error e = by_groups order o ∙ ap (λ (r : Result Chunk CodecError). r >>= λ joined. ok (select joined order)) e

  -- the bytes are sure that the groups rest on
  pub groups_sure : are_given_sure state.sure (rests_where true f codec sizes type fill state.value places) ≡ true → are_given_sure state.sure (stored_groups_rest (chain_rests f (plain_chain inner)) shape type fill state.value (spans_of numbers) (map group groups)) ≡ true
  groups_sure h =
      ap (λ (gs : List (ℕ × List ℕ)). are_given_sure state.sure (stored_groups_rest (chain_rests f (plain_chain inner)) shape type fill state.value (spans_of numbers) gs)) it.are.groups
      ∙ ap (are_given_sure state.sure) (sym (behind_placed it.placed))
      ∙ h

  -- all are read, and put in their order
  pub groups_answered : (joined : Held) → IsOkAnd of_groups (Holds type joined) → (order : Option (Vec (ℕ × ℕ) Global)) → IsReadingOrder shape sizes places (order_places (length places) order)
      → (count : ℕ) → count ≡ min (length places) (2 ^ 64 - 1) → length places < 2 ^ 64 → (result : Result Held CodecError) → PutsInOrder type count joined order result → AnswersBy memory_or_fault (Holds type) result (all_read it.placed.shard places)
  groups_answered joined h order o count counts few result put =
      let whole = ok_found of_groups (Holds type joined) h in
      let count_so : count ≡ length places = count_is (length places) count counts few in
      let long : length whole.0 ≡ count =
      groups_long (chain_read f (plain_chain inner)) (chain_count f (plain_chain inner)) shape type fill it.placed.shard.value (spans_of numbers) (map group groups) whole.0
      (ap (λ (v : Option (List ℕ)). stored_groups_read (chain_read f (plain_chain inner)) shape type fill v (spans_of numbers) (map group groups)) (sym it.placed.shard.value_is) ∙ whole.1)
      ∙ ap (λ (gs : List (ℕ × List ℕ)). length (places_of_groups gs)) it.are.groups ∙ grouped_count shape sizes places it.placed.cut it.placed.below ∙ sym count_so in
      let all : all_read it.placed.shard places ≡ ok (select whole.0 (order_places count order)) =
      by_groups (order_places count order) (subst (λ (n : ℕ). IsReadingOrder shape sizes places (order_places n order)) (sym count_so) o)
      ∙ ap (λ (r : Result Chunk CodecError). r >>= λ joined. ok (select joined (order_places count order))) whole.1 in
      subst (AnswersBy memory_or_fault (Holds type) result) (sym all) (weaker result (ok (select whole.0 (order_places count order))) (put whole.0 whole.2 long).is)
    where
      weaker : (result : Result Held CodecError) (expected : Result Chunk CodecError) → AnswersBy memory (Holds type) result expected → AnswersBy memory_or_fault (Holds type) result expected
      weaker (Ok x) expected h = h
      weaker (Err error) expected h = λ unexcused. h (memory_too error unexcused)
