-- A group that is alone: what is read of it is what is read of all, and rests on the same.
use Rattle.std.proofs.Common.{◌≡◌, ℕ, ◌+◌, ◌*◌, ◌<◌, ◌^◌, ◌++◌, Bool, true, Option, Some, None, get_or, List, [], ◌∷◌, length, map, Result, Ok, Err, arith, refl, ap, sym, subst, ◌∙◌}
use Rattle.std.specs.List.{All, flat_map}
use Rattle.std.proofs.lemmas.List.{append-nil, drop_all}
use Rattle.std.proofs.lemmas.List.Elements.{All-head}
use Rattle.zarrs_array_bytes.specs.Held.{Held}
use Rattle.zarrs_bytes.proofs.Coding.{ok}
use Rattle.zarrs_chain_meaning.specs.sharding.Sharding.{Span, spans_of}
use Rattle.zarrs_chunk.specs.Answer.{◌>>=◌}
use Rattle.zarrs_chunk.specs.ChunkShape.{product}
use Rattle.zarrs_chunk.specs.Runs.{AreFilled, EndWithin, joined_runs}
use Rattle.zarrs_chunk.specs.declared.codec_error.CodecError.{CodecError}
use Rattle.zarrs_codecs.proofs.GroupWalks.{next_at, span_at}
use Rattle.zarrs_codecs.specs.ChunkRead.{AnswersRuns, are_given_sure}
use Rattle.zarrs_codecs.specs.PartRead.{PlaceReader}
use Rattle.zarrs_codecs.specs.PlaceLaws.{Resting}
use Rattle.zarrs_codecs.specs.SpanReads.{AreInnerRuns, stored_groups_read, stored_groups_rest, stored_span_read, stored_span_rests}
use Rattle.zarrs_data_type.specs.Element.{Chunk}
use Rattle.zarrs_data_type.specs.ElementType.{ElementType}
use Rattle.zarrs_shard_runs.specs.GroupedRuns.{group}
use Rattle.zarrs_shard_runs.specs.declared.grouped_runs.InnerRuns.{InnerRuns}

-- nothing comes behind it
none_behind : {A : Type 0} (r : Result (List A) CodecError) → (r >>= λ part. ok [] >>= λ rest. ok (part ++ rest)) ≡ r
none_behind (Ok part) = ap (λ xs. ok xs) (append-nil part)
none_behind (Err cause) = refl

pub one_read : (read : PlaceReader) (shape : List ℕ) (type : ElementType) (fill : List ℕ) (stored : Option (List ℕ)) (spans : List Span) (it : ℕ × List ℕ)
    → stored_groups_read read shape type fill stored spans (it ∷ []) ≡ stored_span_read read shape type fill stored (get_or spans it.0 (0, 0)) it.1
one_read read shape type fill None spans it = refl
one_read read shape type fill (Some value) spans it = none_behind (stored_span_read read shape type fill (Some value) (get_or spans it.0 (0, 0)) it.1)

pub one_rests : (rests : Resting) (shape : List ℕ) (type : ElementType) (fill : List ℕ) (stored : Option (List ℕ)) (spans : List Span) (it : ℕ × List ℕ)
    → stored_groups_rest rests shape type fill stored spans (it ∷ []) ≡ stored_span_rests rests shape type fill stored (get_or spans it.0 (0, 0)) it.1
one_rests rests shape type fill None spans it = refl
one_rests rests shape type fill (Some value) spans it = none_behind (stored_span_rests rests shape type fill (Some value) (get_or spans it.0 (0, 0)) it.1)

-- One group, of an inner chunk whose span two numbers of the index are.
pub record IsAlone (shape numbers : List ℕ) (groups : List InnerRuns) (it : InnerRuns) : Type 0 where
  pub is : groups ≡ it ∷ []
  pub at : get_or (spans_of numbers) it.number (0, 0) ≡ (get_or numbers (it.number * 2) 0, get_or numbers (it.number * 2 + 1) 0)
  pub there : it.number * 2 + 1 < length numbers
  pub filled : AreFilled it.runs.items
  pub inside : EndWithin (product shape) it.runs.items
  pub few : length (joined_runs it.runs.items) < 2 ^ 64

pub is_alone : (shape numbers : List ℕ) (groups : List InnerRuns) (it : InnerRuns) → length groups ≡ 1 → it ≡ get_or groups 0 it → AreInnerRuns shape (length (spans_of numbers)) groups → length numbers ≡ length (spans_of numbers) * 2 → IsAlone shape numbers groups it
is_alone shape numbers groups it one is runs long =
    let all : groups ≡ it ∷ [] = next_at groups 0 it (omega (arith, one)) is ∙ ap (λ gs. it ∷ gs) (drop_all 1 groups (omega (arith, one))) in
    let there = All-head (λ (it : InnerRuns). it.number < length (spans_of numbers)) it [] (subst (All (λ (it : InnerRuns). it.number < length (spans_of numbers))) all runs.there) in
    let own : length (joined_runs it.runs.items) ≡ length (flat_map (λ it. joined_runs it.runs.items) groups) =
    ap length (sym (append-nil (joined_runs it.runs.items))) ∙ ap (λ gs. length (flat_map (λ (it : InnerRuns). joined_runs it.runs.items) gs)) (sym all) in
    let few = runs.counted in
    record {
      is = all;
      at = span_at numbers it.number (omega (arith, there, long));
      there = omega (arith, there, long);
      filled = All-head (λ (it : InnerRuns). AreFilled it.runs.items) it [] (subst (All (λ (it : InnerRuns). AreFilled it.runs.items)) all runs.filled);
      inside = All-head (λ (it : InnerRuns). EndWithin (product shape) it.runs.items) it [] (subst (All (λ (it : InnerRuns). EndWithin (product shape) it.runs.items)) all runs.inside);
      few = omega (arith, own, few);
    }

-- its runs are borrowed
module _ {shape numbers : List ℕ} {groups : List InnerRuns} {it : InnerRuns} (alone : IsAlone shape numbers groups it) (lent : List (ℕ × ℕ)) (runs_are : lent ≡ it.runs.items) where
  pub alone_few : length (joined_runs lent) < 2 ^ 64
  alone_few = subst (λ (rs : List (ℕ × ℕ)). length (joined_runs rs) < 2 ^ 64) (sym runs_are) alone.few

  pub alone_answered : (read : PlaceReader) (type : ElementType) (fill : List ℕ) (stored : Option (List ℕ)) (result : Result Held CodecError) → AnswersRuns type (stored_span_read read shape type fill stored (get_or numbers (it.number * 2) 0, get_or numbers (it.number * 2 + 1) 0) (joined_runs lent)) result
      → AnswersRuns type (stored_groups_read read shape type fill stored (spans_of numbers) (map group groups)) result
  alone_answered read type fill stored result answer =
      subst (λ (x : Result Chunk CodecError). AnswersRuns type x result)
      (sym (ap (λ (gs : List InnerRuns). stored_groups_read read shape type fill stored (spans_of numbers) (map group gs)) alone.is ∙ one_read read shape type fill stored (spans_of numbers) (group it)
      ∙ (λ i. stored_span_read read shape type fill stored (alone.at i) (joined_runs (sym runs_are i)))))
      answer

  pub alone_sure : (rests : Resting) (type : ElementType) (fill : List ℕ) (stored : Option (List ℕ)) (sure : Option (ℕ → Bool)) → are_given_sure sure (stored_groups_rest rests shape type fill stored (spans_of numbers) (map group groups)) ≡ true
      → are_given_sure sure (stored_span_rests rests shape type fill stored (get_or numbers (it.number * 2) 0, get_or numbers (it.number * 2 + 1) 0) (joined_runs lent)) ≡ true
  alone_sure rests type fill stored sure h =
      ap (are_given_sure sure) (sym (ap (λ (gs : List InnerRuns). stored_groups_rest rests shape type fill stored (spans_of numbers) (map group gs)) alone.is ∙ one_rests rests shape type fill stored (spans_of numbers) (group it)
      ∙ (λ i. stored_span_rests rests shape type fill stored (alone.at i) (joined_runs (sym runs_are i)))))
      ∙ h
