-- A part of a chunk, behind the elements that were read before.
use Rattle.std.proofs.Common.{◌≡◌, ℕ, ◌+◌, ◌^◌, Bool, true, false, nat_lt, if◌then◌else◌, ◌++◌, length, Result, Ok, Err, IfOk, refl, ap, sym, subst, ◌∙◌}
use Rattle.std.specs.Prelude.{IsOkAnd}
use Rattle.std.proofs.lemmas.List.{length-append}
use Rattle.std.proofs.lemmas.List.FromFn.{length-map-range_with_len}
use Rattle.zarrs_codecs.specs.Answer.{AnswersBy, checked_u64, memory, memory_or_fault, seen}
use Rattle.zarrs_codecs.specs.ChunkShape.{product}
use Rattle.zarrs_codecs.specs.Region.{Region}
use Rattle.zarrs_codecs.specs.Selection.{Selection, subset}
use Rattle.zarrs_codecs.specs.CodecError.{CodecError}
use Rattle.zarrs_codecs.specs.CodecError.TheVariants.{Overflow}
use Rattle.zarrs_codecs.specs.Element.{Chunk}
use Rattle.zarrs_codecs.specs.ElementType.{ElementType}
use Rattle.zarrs_codecs.specs.Elements.{element_at, elements}
use Rattle.zarrs_codecs.specs.Held.{Held}
use Rattle.zarrs_codecs.specs.Joined.{appended_elements}
use Rattle.zarrs_codecs.specs.Validity.{Holds, validity}
use Rattle.zarrs_codecs.specs.ArrayReader.{ArrayReader, IsCounted}
use Rattle.zarrs_codecs.specs.FewerExcused.{FewerAreExcused}
use Rattle.zarrs_codecs.specs.Tuples.{box_tuples}

counted_so : (test : Bool) (count n : ℕ) → ◌≡◌ {A = Result ℕ CodecError} (Ok count) (if test then Ok n else Err Overflow) → count ≡ n
counted_so true count n h = cc
counted_so false count n h = absurd cc

-- a count that 64 bits hold
pub counted_is : (count n : ℕ) → Ok count ≡ checked_u64 n → count ≡ n
counted_is count n h = counted_so (nat_lt n (2 ^ 64)) count n h

-- what a reader answers, where its answer was returned
pub record Answered (reader : ArrayReader) (selection : Selection) (held : Held) : Type 0 where
  pub chunk : Chunk
  pub is : reader.answer selection ≡ Ok chunk
  pub holds : Holds reader.type held chunk

answered : (reader : ArrayReader) (selection : Selection) (held : Held) → IsOkAnd (reader.answer selection) (Holds reader.type held) → Answered reader selection held
answered reader selection held = at (reader.answer selection) refl
  where
    at : (r : Result Chunk CodecError) → reader.answer selection ≡ r → IsOkAnd r (Holds reader.type held) → Answered reader selection held
    at (Ok chunk) e h = record { chunk = chunk; is = e; holds = h }
    at (Err error) e h = absurd h

module _ (reader : ArrayReader) (region : Region) (type : ElementType) (count : ℕ) (more : Held) (type_is : reader.type ≡ type) (counted : IsCounted reader) (tuples : Ok count ≡ checked_u64 (length (box_tuples region.starts region.lengths))) (read : IsOkAnd (reader.answer (subset region)) (Holds reader.type more)) where
  part : Answered reader (subset region) more
  part = answered reader (subset region) more read

  part_holds : Holds type more part.chunk
  part_holds = subst (λ t. Holds t more part.chunk) type_is part.holds

  part_count : length part.chunk ≡ count
  part_count = (counted (subset region) part.chunk part.is).count ∙ sym (counted_is count (length (box_tuples region.starts region.lengths)) tuples)

  -- as many elements were read as were asked for
  pub part_valid : validity type count more ≡ Ok tt
  part_valid = subst (λ n. validity type n more ≡ Ok tt) part_count part_holds.valid

  part_elements : elements type count more ≡ part.chunk
  part_elements = subst (λ n. elements type n more ≡ part.chunk) part_count part_holds.elements_are

  -- the container of both has the elements before, and behind them those that the reader answers
  pub part_appended : FewerAreExcused → (done : ℕ) (joined : Held) (result : Result Held CodecError) → AnswersBy memory (Holds type) result (Ok (appended_elements type done joined count more))
      → AnswersBy memory_or_fault (Holds type) result (seen (λ chunk. elements type done joined ++ chunk) (reader.answer (subset region)))
  part_appended fewer done joined result h =
      subst (λ r. AnswersBy memory_or_fault (Holds type) result (seen (λ chunk. elements type done joined ++ chunk) r)) (sym part.is)
      (subst (λ (chunk : Chunk). AnswersBy memory_or_fault (Holds type) result (Ok (elements type done joined ++ chunk))) part_elements
      (fewer type result (Ok (appended_elements type done joined count more)) h))

  -- and as many elements
  pub both_valid : Ok count ≡ checked_u64 (product region.lengths) → (done : ℕ) (joined : Held) (result : Result Held CodecError) → AnswersBy memory (Holds type) result (Ok (appended_elements type done joined count more))
      → IfOk result (λ both. validity type (done + product region.lengths) both ≡ Ok tt)
  both_valid count_is done joined (Ok both) h =
      let long : length (appended_elements type done joined count more) ≡ done + count =
      length-append (elements type done joined) (elements type count more) ∙ ap (λ n. n + length (elements type count more)) (length-map-range_with_len (element_at type joined) 0 done) ∙ ap (λ n. done + n) (length-map-range_with_len (element_at type more) 0 count) in
      subst (λ n. validity type (done + n) both ≡ Ok tt) (counted_is count (product region.lengths) count_is) (subst (λ n. validity type n both ≡ Ok tt) long h.valid)
  both_valid count_is done joined (Err error) h = tt
