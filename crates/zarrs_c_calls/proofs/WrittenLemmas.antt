-- What is due to a write of a chunk in part.
use Rattle.std.proofs.Common.{◌≡◌, inl, ℕ, ◌+◌, ◌≤◌, nat_le, Bool, true, if◌then◌else◌, List, ◌++◌, take, drop, Option, Some, None, Result, Ok, Err, length, refl, sym, ap, ◌∙◌, arith, length-take-le, subst}
use Rattle.std.proofs.lemmas.Bool.Decides.{nat_tests}
use Rattle.std.proofs.lemmas.List.{take-append-drop}
use Rattle.zarrs_chunk.specs.Answer.{Excused, seen}
use Rattle.zarrs_chunk.specs.Selection.{Selection}
use Rattle.zarrs_chunk.specs.declared.codec_error.CodecError.{CodecError}
use Rattle.zarrs_array_bytes.specs.Held.{Held}
use Rattle.zarrs_array_bytes.specs.Update.{with_items_at}
use Rattle.zarrs_json.specs.Header.{header_form, Header}
use Rattle.zarrs_c_calls.specs.Buffers.{Buffers}
use Rattle.zarrs_c_calls.specs.Codes.{codec_call_answer}
use Rattle.zarrs_c_calls.specs.Given.{elements_given}
use Rattle.zarrs_c_calls.specs.Selections.{selection_given}
use Rattle.zarrs_c_calls.specs.Told.{ToldBytes, TellsBytes}
use Rattle.zarrs_c_calls.specs.Writes.{known_written, part_written}
use Rattle.zarrs_c_calls.specs.Written.{KeepsRest, TellsWritten, value_written}
use Rattle.zarrs_c_calls.specs.declared.cause.Cause.{Cause}
use Rattle.zarrs_c_calls.specs.declared.written.Written.{Written}
use Rattle.zarrs_c_calls.specs.declared.written.Written.TheVariants.{Nothing, Front, Apart, Erased}
use Rattle.zarrs_c_calls.proofs.AnswerLemmas.{of_codec}

-- ---- what is stored afterwards

written_is_answer : (after : Option (List ℕ)) (left : Result (List ℕ) CodecError) → seen (λ value. Some value) left ≡ Ok after → seen (λ value. Some value) (codec_call_answer left) ≡ Ok after
written_is_answer after (Ok value) e = cc
written_is_answer after (Err error) e = absurd (cc)

refusal_is_answer : (error : CodecError) (left : Result (List ℕ) CodecError) → seen (λ value. Some value) left ≡ Err error → seen (λ value. Some value) (codec_call_answer left) ≡ Err (of_codec error)
refusal_is_answer error (Ok value) e = absurd (cc)
refusal_is_answer error (Err other) e = cc

module _ (given_header : Result Header Cause) (stored : Option (List ℕ)) (tuples : ℕ) (numbers : List ℕ) (b : Buffers) (header : Header) (selection : Selection) (new : Held) (reads : given_header ≡ Ok header) (means : selection_given (length header.sizes) tuples numbers ≡ Ok selection)
    (given : elements_given header.data_type b ≡ Ok new) where
  abbrev left : Result (List ℕ) CodecError
  left = known_written (header_form header) stored selection new

  of_value : part_written given_header stored tuples numbers b ≡ codec_call_answer left
  of_value = rw (reads, means, given) refl

  seen_value : seen (λ value. Some value) (part_written given_header stored tuples numbers b) ≡ seen (λ value. Some value) (codec_call_answer left)
  seen_value = ap (seen (λ value. Some value)) of_value

  -- the value that is stored afterwards is the one that is due
  pub written_due : (after : Option (List ℕ)) → seen (λ value. Some value) left ≡ Ok after → seen (λ value. Some value) (part_written given_header stored tuples numbers b) ≡ Ok after
  written_due after e = seen_value ∙ written_is_answer after left e

  -- and an error is the one that is due
  pub write_refused : (excused : Bool) (error : CodecError) → Excused excused (seen (λ value. Some value) left ≡ Err error) → Excused excused (seen (λ value. Some value) (part_written given_header stored tuples numbers b) ≡ Err (of_codec error))
  write_refused excused error h = λ wants. seen_value ∙ refusal_is_answer error left (h wants)

-- ---- returned

-- a value that stands in front of the buffer
in_front : (value old after : List ℕ) (count : ℕ) → value ≡ take count after → length value ≡ count → drop count after ≡ drop count old → after ≡ with_items_at old 0 value
in_front value old after count is long rest =
    let from : count ≡ 0 + length value = omega (arith, long) in
    sym (take-append-drop count after) ∙ ap (λ xs. xs ++ drop count after) (sym is) ∙ ap (λ xs. value ++ xs) rest ∙ ap (λ n. value ++ drop n old) from

front_told : (value old after : List ℕ) (count code needed : ℕ) → value ≡ take count after → KeepsRest old after (Front count) → code ≡ 0 → needed ≡ count → ToldBytes value code old after needed
front_told value old after count code needed is keeps done counted =
    let long : length value ≡ count = ap length is ∙ length-take-le count after (subst (λ n. count ≤ n) (sym keeps.len) keeps.inside) in
    let fits : nat_le (length value) (length old) ≡ true = let inside = keeps.inside in grind (arith, nat_tests) in
    record {
      code_is = done ∙ ap (λ (t : Bool). if t then 0 else 1) (sym fits);
      buffer_is = in_front value old after count is long keeps.rest ∙ ap (λ (t : Bool). if t then with_items_at old 0 value else old) (sym fits);
      needed_is = counted ∙ sym long;
    }

-- a value that is kept apart
apart_told : (value apart old after new : List ℕ) (code needed : ℕ) → value ≡ apart → KeepsRest old after Apart → ToldBytes apart code after new needed → ToldBytes value code old new needed
apart_told value apart old after new code needed is keeps told =
    subst (λ (v : List ℕ). ToldBytes v code old new needed) (sym is) (subst (λ (v : List ℕ). ToldBytes apart code v new needed) keeps.rest told)

value_told : (w : Written) (value old after apart new : List ℕ) (code needed : ℕ) → Some value ≡ value_written w None after apart → KeepsRest old after w → TellsWritten w apart code after new needed → ToldBytes value code old new needed
value_told Nothing value old after apart new code needed is keeps told = absurd (cc)
value_told (Front count) value old after apart new code needed is keeps told =
    let same : value ≡ take count after = cc in
    subst (λ (v : List ℕ). ToldBytes value code old v needed) (sym told.1) (front_told value old after count code needed same keeps told.0 told.2)
value_told Apart value old after apart new code needed is keeps told = let same : value ≡ apart = cc in apart_told value apart old after new code needed same keeps told
value_told Erased value old after apart new code needed is keeps told = absurd (cc)

-- what a write after is returned
pub written_told : (w : Written) (due : Result (List ℕ) Cause) (old after apart new : List ℕ) (code needed_old needed : ℕ) → seen (λ value. Some value) due ≡ Ok (value_written w None after apart) → KeepsRest old after w → TellsWritten w apart code after new needed
    → TellsBytes due code old new needed_old needed
written_told w (Ok value) old after apart new code needed_old needed is keeps told =
    let same : Some value ≡ value_written w None after apart = cc in inl (value, refl, value_told w value old after apart new code needed same keeps told)
written_told w (Err cause) old after apart new code needed_old needed is keeps told = absurd (cc)

-- an error in place of the value
pub still_refused : (due : Result (List ℕ) Cause) (cause : Cause) (excused : Bool) → Excused excused (seen (λ value. Some value) due ≡ Err cause) → Excused excused (due ≡ Err cause)
still_refused (Ok value) cause excused h = λ wants. absurd (let g = h wants in cc)
still_refused (Err error) cause excused h = λ wants. let g = h wants in cc
