-- A step of reading parts of a box: those so far are put in place, and this one is the next.
use Rattle.std.proofs.Common.{◌≡◌, ℕ, ◌+◌, ◌<◌, true, Option, Some, get_or, List, ◌∷◌, length, drop, map, Result, Ok, Err, ap, sym, subst, ◌∙◌}
use Rattle.std.specs.List.{All}
use Rattle.std.specs.Prelude.{IsOkAnd}
use Rattle.std.proofs.lemmas.List.Elements.{All-drop, All-head}
use Rattle.zarrs_array_bytes.specs.Elements.{elements}
use Rattle.zarrs_array_bytes.specs.Held.{Held}
use Rattle.zarrs_array_bytes.specs.Update.{update}
use Rattle.zarrs_array_bytes.specs.Validity.{Holds, validity}
use Rattle.zarrs_array_regions.specs.WindowLaws.{region_places}
use Rattle.zarrs_chain_meaning.specs.CodecMeaning.{PlainChain}
use Rattle.zarrs_chain_meaning.specs.sharding.Sharding.{Span, spans_of}
use Rattle.zarrs_chunk.specs.Answer.{AnswersBy, memory_or_fault}
use Rattle.zarrs_chunk.specs.ChunkShape.{product}
use Rattle.zarrs_chunk.specs.Tuples.{row_major}
use Rattle.zarrs_chunk.specs.declared.codec_error.CodecError.{CodecError}
use Rattle.zarrs_codec.specs.BytesToBytesCodec.{BytesCodecs}
use Rattle.zarrs_codec.specs.StorageState.{StorageState}
use Rattle.zarrs_codecs.proofs.GroupedReads.{first_sure}
use Rattle.zarrs_codecs.proofs.PartWalks.{PutTo, content_valid, next_part, put_goes_on, put_refused, put_valid}
use Rattle.zarrs_codecs.proofs.ShardParts.{chain_count}
use Rattle.zarrs_codecs.proofs.SpanSeen.{stands_value}
use Rattle.zarrs_codecs.specs.BoxReads.{AreShardParts, IsShardPart, blank_box, part_group, inner_part_read, parts_read}
use Rattle.zarrs_codecs.specs.ChunkRead.{are_given_sure}
use Rattle.zarrs_codecs.specs.ShardRead.{groups_rest}
use Rattle.zarrs_codecs.specs.SpanReads.{StandsIn, chain_read, chain_rests, seen_state, stored_span_read, stored_span_rests, taken_read}
use Rattle.zarrs_codecs.specs.TakenChain.{inner_form}
use Rattle.zarrs_codecs.specs.declared.sharding.taken_chain.TakenChain.{TakenChain}
use Rattle.zarrs_codecs.specs.declared.sharding.value_span.ValueSpan.{ValueSpan}
use Rattle.zarrs_data_type.specs.Element.{Chunk}
use Rattle.zarrs_data_type.specs.ElementType.{ElementType}
use Rattle.zarrs_grid.specs.declared.chunk_part.ChunkPart.{ChunkPart}

-- Parts are read of what is stored, and so far nothing else is changed; two numbers of the index are the next one's span.
pub record AtPart {B : Type 0} (f : BytesCodecs B) (chain : PlainChain B) (shape : List ℕ) (type : ElementType) (fill numbers grid lengths : List ℕ) (parts : List ChunkPart) (index : ℕ) (held : Held) (it : ChunkPart) (place : Span) (state now : StorageState) : Type 0 where
  pub value : List ℕ
  pub value_is : state.value ≡ Some value
  pub same : now ≡ state
  pub walk : PutTo (chain_read f chain) shape type fill value (spans_of numbers) grid lengths parts (blank_box type fill lengths) index held
  pub next : drop index parts ≡ it ∷ drop (index + 1) parts
  pub part : IsShardPart shape grid lengths it
  pub at : place ≡ get_or (spans_of numbers) (row_major grid it.chunk.items) (0, 0)

pub own_part : {shape grid lengths : List ℕ} {parts : List ChunkPart} (index : ℕ) (it : ChunkPart) → index < length parts → it ≡ get_or parts index it → AreShardParts shape grid lengths parts → IsShardPart shape grid lengths it
own_part {shape} {grid} {lengths} {parts} index it under is are =
    All-head (IsShardPart shape grid lengths) it (drop (index + 1) parts) (subst (All (IsShardPart shape grid lengths)) (next_part parts index it under is) (All-drop (IsShardPart shape grid lengths) index parts are.each))

pub at_part : {B : Type 0} {b : _} (taken : TakenChain B b) (numbers grid lengths : List ℕ) (parts : List ChunkPart) (index : ℕ) (held : Held) (it : ChunkPart) (place : Span) (span : ValueSpan) (handle now : StorageState) → StandsIn span handle → now ≡ handle
    → ((value : List ℕ) → (seen_state span handle).value ≡ Some value → PutTo (taken_read taken) (inner_form taken).sizes (inner_form taken).type (inner_form taken).fill value (spans_of numbers) grid lengths parts (blank_box (inner_form taken).type (inner_form taken).fill lengths) index held) → index < length parts → it ≡ get_or parts index it → AreShardParts (inner_form taken).sizes grid lengths parts
    → place ≡ get_or (spans_of numbers) (row_major grid it.chunk.items) (0, 0) → AtPart b.functions (inner_form taken).chain (inner_form taken).sizes (inner_form taken).type (inner_form taken).fill numbers grid lengths parts index held it place (seen_state span handle) (seen_state span now)
at_part taken numbers grid lengths parts index held it place span handle now stands same walk under is are at =
    let there = stands_value span handle stands in
    record {
      value = there.value;
      value_is = there.is;
      same = ap (seen_state span) same;
      walk = walk there.value there.is;
      next = next_part parts index it under is;
      part = own_part index it under is are;
      at = at;
    }

module _ {B : Type 0} {f : BytesCodecs B} {chain : PlainChain B} {shape : List ℕ} {type : ElementType} {fill numbers grid lengths : List ℕ} {parts : List ChunkPart} {index : ℕ} {held : Held} {it : ChunkPart} {place : Span} {state now : StorageState} (step : AtPart f chain shape type fill numbers grid lengths parts index held it place state now) where
  abbrev places : List ℕ
  places = region_places shape it.in_chunk

  abbrev blank : Chunk
  blank = blank_box type fill lengths

  one_is : stored_span_read (chain_read f chain) shape type fill now.value place places ≡ inner_part_read (chain_read f chain) shape type fill (Some step.value) (spans_of numbers) grid it
  one_is =
      (λ i. stored_span_read (chain_read f chain) shape type fill (step.same i).value (step.at i) places)
      ∙ ap (λ (v : Option (List ℕ)). inner_part_read (chain_read f chain) shape type fill v (spans_of numbers) grid it) step.value_is

  -- where it is rejected, all are
  pub part_refused : (error : CodecError) → AnswersBy {T = Held} memory_or_fault (Holds type) (Err error) (stored_span_read (chain_read f chain) shape type fill now.value place places)
      → AnswersBy {T = Held} memory_or_fault (Holds type) (Err error) (parts_read (chain_read f chain) shape type fill state.value (spans_of numbers) grid lengths parts blank)
  part_refused error answer = λ unexcused.
      ap (λ (v : Option (List ℕ)). parts_read (chain_read f chain) shape type fill v (spans_of numbers) grid lengths parts blank) step.value_is
      ∙ put_refused (chain_read f chain) shape type fill step.value (spans_of numbers) grid lengths parts blank index held step.walk it step.next error (sym one_is ∙ answer unexcused)

  -- where the bytes are sure that it and those behind it rest on, its own are
  pub part_sure : are_given_sure state.sure (groups_rest (chain_rests f chain) shape type fill step.value (spans_of numbers) (map (part_group shape grid) (drop index parts))) ≡ true
      → are_given_sure now.sure (stored_span_rests (chain_rests f chain) shape type fill now.value place places) ≡ true
  part_sure sure =
      let here = subst (λ (ps : List ChunkPart). are_given_sure state.sure (groups_rest (chain_rests f chain) shape type fill step.value (spans_of numbers) (map (part_group shape grid) ps)) ≡ true) step.next sure in
      (λ i. are_given_sure (step.same i).sure (stored_span_rests (chain_rests f chain) shape type fill (step.same i).value (step.at i) places))
      ∙ ap (λ (v : Option (List ℕ)). are_given_sure state.sure (stored_span_rests (chain_rests f chain) shape type fill v (get_or (spans_of numbers) (row_major grid it.chunk.items) (0, 0)) places)) step.value_is
      ∙ (first_sure (chain_rests f chain) shape type fill step.value (spans_of numbers) (part_group shape grid it) (map (part_group shape grid) (drop (index + 1) parts)) state.sure here).0

  -- and those behind it rest on sure bytes then
  pub others_sure : (value : List ℕ) → are_given_sure state.sure (groups_rest (chain_rests f chain) shape type fill value (spans_of numbers) (map (part_group shape grid) (drop index parts))) ≡ true → are_given_sure state.sure (groups_rest (chain_rests f chain) shape type fill value (spans_of numbers) (map (part_group shape grid) (drop (index + 1) parts))) ≡ true
  others_sure value sure =
      (first_sure (chain_rests f chain) shape type fill value (spans_of numbers) (part_group shape grid it) (map (part_group shape grid) (drop (index + 1) parts)) state.sure
      (subst (λ (ps : List ChunkPart). are_given_sure state.sure (groups_rest (chain_rests f chain) shape type fill value (spans_of numbers) (map (part_group shape grid) ps)) ≡ true) step.next sure)).1

  pub so_far_valid : validity type (product lengths) held ≡ Ok tt
  so_far_valid = put_valid (chain_read f chain) shape type fill step.value (spans_of numbers) grid lengths parts blank index held step.walk it step.next

  -- it is read
  module _ (content : Held) (answer : IsOkAnd (stored_span_read (chain_read f chain) shape type fill now.value place places) (Holds type content)) where
    came : IsOkAnd (inner_part_read (chain_read f chain) shape type fill (Some step.value) (spans_of numbers) grid it) (Holds type content)
    came = subst (λ (r : Result Chunk CodecError). IsOkAnd r (Holds type content)) one_is answer

    pub part_valid : validity type (product it.in_region.lengths) content ≡ Ok tt
    part_valid =
        subst (λ (ls : List ℕ). validity type (product ls) content ≡ Ok tt) (sym step.part.alike)
        (content_valid (chain_read f chain) shape type fill step.value (spans_of numbers) grid lengths parts blank index held step.walk it step.next (chain_count f chain) step.part.inside content came)

    -- and put in its place
    pub part_put : (next_held : Held) → Holds type next_held (update (elements type (product lengths) held) (region_places lengths it.in_region) (elements type (product it.in_region.lengths) content))
        → (value : List ℕ) → state.value ≡ Some value → PutTo (chain_read f chain) shape type fill value (spans_of numbers) grid lengths parts blank (index + 1) next_held
    part_put next_held h value is =
        subst (λ (v : List ℕ). PutTo (chain_read f chain) shape type fill v (spans_of numbers) grid lengths parts blank (index + 1) next_held) (some_is step.value value (sym step.value_is ∙ is))
        (put_goes_on (chain_read f chain) shape type fill step.value (spans_of numbers) grid lengths parts blank index held step.walk it step.next (chain_count f chain) step.part.inside content came next_held
        (subst (λ (ls : List ℕ). Holds type next_held (update (elements type (product lengths) held) (region_places lengths it.in_region) (elements type (product ls) content))) step.part.alike h))
      where
        some_is : (x y : List ℕ) → Some x ≡ Some y → x ≡ y
        some_is x y e = cc
