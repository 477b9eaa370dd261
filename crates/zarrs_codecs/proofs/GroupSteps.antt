-- A step of reading groups: those so far are read, and this one is the next.
use Rattle.std.proofs.Common.{◌≡◌, ℕ, ◌+◌, ◌-◌, ◌*◌, ◌<◌, ◌^◌, min, true, Option, Some, get_or, List, ◌∷◌, length, drop, map, Result, Ok, Err, arith, ap, sym, subst, ◌∙◌}
use Rattle.std.specs.Prelude.{IsOkAnd}
use Rattle.zarrs_array_bytes.specs.Held.{Held}
use Rattle.zarrs_array_bytes.specs.Joined.{appended_elements}
use Rattle.zarrs_array_bytes.specs.Validity.{Holds, validity}
use Rattle.zarrs_chain_meaning.specs.CodecMeaning.{PlainChain}
use Rattle.zarrs_chain_meaning.specs.sharding.Sharding.{is_stored, spans_of}
use Rattle.zarrs_chunk.specs.Answer.{AnswersBy, memory_or_fault}
use Rattle.zarrs_chunk.specs.ChunkShape.{product}
use Rattle.zarrs_chunk.specs.Runs.{AreFilled, EndWithin, joined_runs}
use Rattle.zarrs_chunk.specs.declared.codec_error.CodecError.{CodecError}
use Rattle.zarrs_codec.specs.BytesToBytesCodec.{BytesCodecs}
use Rattle.zarrs_codec.specs.StorageState.{StorageState}
use Rattle.zarrs_codecs.proofs.GroupWalks.{WalkedTo, count_is, more_valid, next_at, next_is, span_at, walk_counted, walk_goes_on, walk_refused, walk_valid}
use Rattle.zarrs_codecs.proofs.GroupedReads.{first_sure}
use Rattle.zarrs_codecs.proofs.ShardParts.{chain_count}
use Rattle.zarrs_codecs.proofs.SpanSeen.{stands_value}
use Rattle.zarrs_codecs.specs.ChunkRead.{are_given_sure}
use Rattle.zarrs_codecs.specs.PartRead.{PlaceReader}
use Rattle.zarrs_codecs.specs.PlaceLaws.{Resting}
use Rattle.zarrs_codecs.specs.ShardRead.{groups_rest, span_read}
use Rattle.zarrs_codecs.specs.SpanReads.{AreInnerRuns, StandsIn, chain_read, chain_rests, seen_state, stored_groups_read, stored_span_read, stored_span_rests, taken_read}
use Rattle.zarrs_codecs.specs.TakenChain.{inner_form}
use Rattle.zarrs_codecs.specs.declared.sharding.taken_chain.TakenChain.{TakenChain}
use Rattle.zarrs_codecs.specs.declared.sharding.value_span.ValueSpan.{ValueSpan}
use Rattle.zarrs_data_type.specs.Element.{Chunk}
use Rattle.zarrs_data_type.specs.ElementType.{ElementType}
use Rattle.zarrs_shard_runs.specs.GroupedRuns.{group}
use Rattle.zarrs_shard_runs.specs.declared.grouped_runs.InnerRuns.{InnerRuns}

-- Groups are read of what is stored, and so far nothing else is changed; the next one's number is that of an inner chunk, whose span two numbers of the index are.
pub record AtGroup {B : Type 0} (f : BytesCodecs B) (chain : PlainChain B) (shape : List ℕ) (type : ElementType) (fill numbers : List ℕ) (groups : List InnerRuns) (index : ℕ) (joined : Held) (count : ℕ) (it : InnerRuns) (state now : StorageState) : Type 0 where
  pub value : List ℕ
  pub value_is : state.value ≡ Some value
  pub same : now ≡ state
  pub walk : WalkedTo (chain_read f chain) shape type fill value (spans_of numbers) groups index joined count
  pub next : drop index groups ≡ it ∷ drop (index + 1) groups
  pub runs : AreInnerRuns shape (length (spans_of numbers)) groups
  pub at : get_or (spans_of numbers) it.number (0, 0) ≡ (get_or numbers (it.number * 2) 0, get_or numbers (it.number * 2 + 1) 0)

pub at_group : {B : Type 0} {b : _} (taken : TakenChain B b) (numbers : List ℕ) (groups : List InnerRuns) (index : ℕ) (joined : Held) (count : ℕ) (it : InnerRuns) (span : ValueSpan) (handle now : StorageState) → StandsIn span handle → now ≡ handle
    → ((value : List ℕ) → (seen_state span handle).value ≡ Some value → WalkedTo (taken_read taken) (inner_form taken).sizes (inner_form taken).type (inner_form taken).fill value (spans_of numbers) groups index joined count) → index < length groups → it ≡ get_or groups index it → AreInnerRuns (inner_form taken).sizes (length (spans_of numbers)) groups → length numbers ≡ length (spans_of numbers) * 2
    → AtGroup b.functions (inner_form taken).chain (inner_form taken).sizes (inner_form taken).type (inner_form taken).fill numbers groups index joined count it (seen_state span handle) (seen_state span now)
at_group taken numbers groups index joined count it span handle now stands same walk under is runs long =
    let there = stands_value span handle stands in
    let next = next_at groups index it under is in
    let inside : it.number < length (spans_of numbers) = next_is (λ it. it.number < length (spans_of numbers)) groups index it (drop (index + 1) groups) next runs.there in
    record {
      value = there.value;
      value_is = there.is;
      same = ap (seen_state span) same;
      walk = walk there.value there.is;
      next = next;
      runs = runs;
      at = span_at numbers it.number (omega (arith, inside, long));
    }

module _ {B : Type 0} {f : BytesCodecs B} {chain : PlainChain B} {shape : List ℕ} {type : ElementType} {fill numbers : List ℕ} {groups : List InnerRuns} {index : ℕ} {joined : Held} {count : ℕ} {it : InnerRuns} {state now : StorageState} (step : AtGroup f chain shape type fill numbers groups index joined count it state now) where
  abbrev reading : PlaceReader
  reading = chain_read f chain

  abbrev resting : Resting
  resting = chain_rests f chain

  -- none of its runs is empty, each ends within an inner chunk, and 64 bits count its places, with those so far
  pub group_filled : AreFilled it.runs.items
  group_filled = next_is (λ it. AreFilled it.runs.items) groups index it (drop (index + 1) groups) step.next step.runs.filled

  pub group_inside : EndWithin (product shape) it.runs.items
  group_inside = next_is (λ it. EndWithin (product shape) it.runs.items) groups index it (drop (index + 1) groups) step.next step.runs.inside

  pub group_few : count + length (joined_runs it.runs.items) < 2 ^ 64
  group_few = let less = walk_counted reading shape type fill step.value (spans_of numbers) groups index joined count step.walk it step.next in let few = step.runs.counted in omega (arith, less, few)

  pub so_far_valid : validity type count joined ≡ Ok tt
  so_far_valid = walk_valid reading shape type fill step.value (spans_of numbers) groups index joined count step.walk it step.next

  -- its runs are borrowed
  module _ (lent : List (ℕ × ℕ)) (runs_are : lent ≡ it.runs.items) where
    pub lent_few : length (joined_runs lent) < 2 ^ 64
    lent_few = let few = group_few in let same : length (joined_runs lent) ≡ length (joined_runs it.runs.items) = ap (λ (rs : List (ℕ × ℕ)). length (joined_runs rs)) runs_are in omega (arith, few, same)

    one_is : stored_span_read reading shape type fill now.value (get_or numbers (it.number * 2) 0, get_or numbers (it.number * 2 + 1) 0) (joined_runs lent) ≡ span_read (is_stored (get_or (spans_of numbers) it.number (0, 0))) reading shape type fill step.value (get_or (spans_of numbers) it.number (0, 0)) (joined_runs it.runs.items)
    one_is =
        (λ i. stored_span_read reading shape type fill (step.same i).value (sym step.at i) (joined_runs (runs_are i)))
        ∙ ap (λ (v : Option (List ℕ)). stored_span_read reading shape type fill v (get_or (spans_of numbers) it.number (0, 0)) (joined_runs it.runs.items)) step.value_is

    -- where it is rejected, all are
    pub group_refused : (error : CodecError) → AnswersBy {T = Held} memory_or_fault (Holds type) (Err error) (stored_span_read reading shape type fill now.value (get_or numbers (it.number * 2) 0, get_or numbers (it.number * 2 + 1) 0) (joined_runs lent))
        → AnswersBy {T = Held} memory_or_fault (Holds type) (Err error) (stored_groups_read reading shape type fill state.value (spans_of numbers) (map group groups))
    group_refused error answer = λ unexcused.
        ap (λ (v : Option (List ℕ)). stored_groups_read reading shape type fill v (spans_of numbers) (map group groups)) step.value_is
        ∙ walk_refused reading shape type fill step.value (spans_of numbers) groups index joined count step.walk it step.next error (sym one_is ∙ answer unexcused)

    -- where the bytes are sure that it and those behind it rest on, its own are
    pub group_sure : are_given_sure state.sure (groups_rest resting shape type fill step.value (spans_of numbers) (map group (drop index groups))) ≡ true
        → are_given_sure now.sure (stored_span_rests resting shape type fill now.value (get_or numbers (it.number * 2) 0, get_or numbers (it.number * 2 + 1) 0) (joined_runs lent)) ≡ true
    group_sure sure =
        let here = subst (λ (gs : List InnerRuns). are_given_sure state.sure (groups_rest resting shape type fill step.value (spans_of numbers) (map group gs)) ≡ true) step.next sure in
        (λ i. are_given_sure (step.same i).sure (stored_span_rests resting shape type fill (step.same i).value (sym step.at i) (joined_runs (runs_are i))))
        ∙ ap (λ (v : Option (List ℕ)). are_given_sure state.sure (stored_span_rests resting shape type fill v (get_or (spans_of numbers) it.number (0, 0)) (joined_runs it.runs.items))) step.value_is
        ∙ (first_sure resting shape type fill step.value (spans_of numbers) (group it) (map group (drop (index + 1) groups)) state.sure here).0

  -- and those behind it rest on sure bytes then
  pub rest_sure : (value : List ℕ) → are_given_sure state.sure (groups_rest resting shape type fill value (spans_of numbers) (map group (drop index groups))) ≡ true → are_given_sure state.sure (groups_rest resting shape type fill value (spans_of numbers) (map group (drop (index + 1) groups))) ≡ true
  rest_sure value sure =
      (first_sure resting shape type fill value (spans_of numbers) (group it) (map group (drop (index + 1) groups)) state.sure
      (subst (λ (gs : List InnerRuns). are_given_sure state.sure (groups_rest resting shape type fill value (spans_of numbers) (map group gs)) ≡ true) step.next sure)).1

  -- its places are counted, of runs that are borrowed
  module _ (counted : List (ℕ × ℕ)) (counted_are : counted ≡ it.runs.items) (more : ℕ) (counts : more ≡ min (length (joined_runs counted)) (2 ^ 64 - 1)) where
    more_is : more ≡ length (joined_runs it.runs.items)
    more_is = count_is (length (joined_runs counted)) more counts (lent_few counted counted_are) ∙ ap (λ (rs : List (ℕ × ℕ)). length (joined_runs rs)) counted_are

    pub count_fits : count + more < 2 ^ 64
    count_fits = let few = group_few in let same = more_is in omega (arith, few, same)

    -- and it is read
    module _ (lent : List (ℕ × ℕ)) (runs_are : lent ≡ it.runs.items) (part : Held) (answer : IsOkAnd (stored_span_read reading shape type fill now.value (get_or numbers (it.number * 2) 0, get_or numbers (it.number * 2 + 1) 0) (joined_runs lent)) (Holds type part)) where
      came : IsOkAnd (span_read (is_stored (get_or (spans_of numbers) it.number (0, 0))) reading shape type fill step.value (get_or (spans_of numbers) it.number (0, 0)) (joined_runs it.runs.items)) (Holds type part)
      came = subst (λ (r : Result Chunk CodecError). IsOkAnd r (Holds type part)) (one_is lent runs_are) answer

      pub part_valid : validity type more part ≡ Ok tt
      part_valid = more_valid reading shape type fill step.value (spans_of numbers) groups index joined count step.walk it step.next (chain_count f chain) part more more_is came

      pub group_read : (next_joined : Held) → Holds type next_joined (appended_elements type count joined more part) → (value : List ℕ) → state.value ≡ Some value → WalkedTo reading shape type fill value (spans_of numbers) groups (index + 1) next_joined (count + more)
      group_read next_joined h value is =
          subst (λ (v : List ℕ). WalkedTo reading shape type fill v (spans_of numbers) groups (index + 1) next_joined (count + more)) (some_is step.value value (sym step.value_is ∙ is))
          (walk_goes_on reading shape type fill step.value (spans_of numbers) groups index joined count step.walk it step.next (chain_count f chain) part more more_is came next_joined h)
        where
          some_is : (x y : List ℕ) → Some x ≡ Some y → x ≡ y
          some_is x y e = cc
