-- Plans of reads, made by a coder, joined and returned.
use Rattle.std.proofs.Common.{◌≡◌, ℕ, true, List, Option, Some, None, Result, Ok, Err, IsOkAnd, Vec, Global, length, inl, inr, refl, sym, subst}
use Rattle.std.specs.Option.{option_map}
use Rattle.zarrs_chunk.specs.Answer.{AnswersBy, Excused, memory, seen, ◌>>=◌}
use Rattle.zarrs_chunk.specs.Selection.{Selection}
use Rattle.zarrs_chunk.specs.declared.codec_error.CodecError.{CodecError}
use Rattle.zarrs_codec.specs.ByteSpan.{ByteSpan}
use Rattle.zarrs_json.specs.KnownBytesCodec.{known_codecs}
use Rattle.zarrs_chain_meaning.specs.CodecMeaning.{chain_representation}
use Rattle.zarrs_codecs.specs.ChunkRead.{IsReadPlan, planned_places}
use Rattle.zarrs_json.specs.Header.{Header, header_form, HeaderForm}
use Rattle.zarrs_lent_handles.specs.Joined.{Joins}
use Rattle.zarrs_c_calls.specs.Codes.{cause_code, cause_memory, codec_call_answer}
use Rattle.zarrs_c_calls.specs.Plans.{Planned, PlanBuffers, TellsPlan, ToldRanges, places_planned, planned, range_numbers}
use Rattle.zarrs_c_calls.specs.PlanSeen.{IsPlanNumbers}
use Rattle.zarrs_c_calls.specs.Selections.{selection_given}
use Rattle.zarrs_c_calls.specs.Told.{ToldBytes}
use Rattle.zarrs_c_calls.specs.declared.cause.Cause.{Cause}
use Rattle.zarrs_c_calls.proofs.CodeLemmas.{refused}
use Rattle.zarrs_codecs.proofs.MadeCoders.{fits}

-- ---- by a coder that is made for it

-- these ranges are a plan of these places
abbrev IsPlanOf : HeaderForm → Option (Vec ByteSpan Global) → Option (List ℕ) → Type 0
IsPlanOf form ranges places = IsReadPlan known_codecs form (option_map (λ v. v.items) ranges) places

stops : {A B : Type 0} (r : Result A CodecError) (x : Result B CodecError) (e : CodecError) → seen (λ _. tt {0}) r ≡ Err e → (r >>= λ _. x) ≡ Err e
stops (Ok a) x e h = absurd (cc)
stops (Err f) x e h = cc

pub plan_refused : (chunk : HeaderForm) (selection : Selection) (e : CodecError) → Excused (memory e) (seen (λ _. tt {0}) (chain_representation known_codecs chunk.chain chunk.sizes chunk.type chunk.fill) ≡ Err e)
    → Excused (memory e) (places_planned chunk selection ≡ Err e)
plan_refused chunk selection e h = λ wants.
    stops (chain_representation known_codecs chunk.chain chunk.sizes chunk.type chunk.fill) (planned_places chunk selection) e (h wants)

pub plan_made : (chunk form : HeaderForm) (selection : Selection) (r : Result (Option (Vec ByteSpan Global)) CodecError) → form ≡ chunk → seen (λ _. tt {0}) (chain_representation known_codecs chunk.chain chunk.sizes chunk.type chunk.fill) ≡ Ok tt
    → AnswersBy memory (IsPlanOf form) r (planned_places form selection) → AnswersBy memory (IsPlanOf chunk) r (places_planned chunk selection)
plan_made chunk form selection r same made h =
    let of_chunk : AnswersBy memory (IsPlanOf chunk) r (planned_places chunk selection) = subst (λ (f : HeaderForm). AnswersBy memory (IsPlanOf f) r (planned_places f selection)) same h in
    subst (λ (y : Result (Option (List ℕ)) CodecError). AnswersBy memory (IsPlanOf chunk) r y)
    (sym (fits (chain_representation known_codecs chunk.chain chunk.sizes chunk.type chunk.fill) (planned_places chunk selection) made)) of_chunk

-- ---- joined

-- of which chunk the places are
abbrev pub with_header : Header → Option (List ℕ) → Result Planned Cause
with_header header places = Ok (header, places)

none_joined : (header : Header) (places : Result (Option (List ℕ)) CodecError) → IsOkAnd places (IsPlanOf (header_form header) None) → IsOkAnd (codec_call_answer places >>= with_header header) (IsPlanNumbers None)
none_joined header (Ok None) h = refl
none_joined header (Ok (Some places)) h = absurd h
none_joined header (Err e) h = absurd h

-- the numbers are those of the ranges, in order and joined
abbrev AreNumbersOf : List ByteSpan → Vec ℕ Global → Type 0
AreNumbersOf ranges numbers = (joined : List ByteSpan) × (numbers.items ≡ range_numbers joined) × Joins ranges joined

some_joined : (header : Header) (places : Result (Option (List ℕ)) CodecError) (ranges : Vec ByteSpan Global) (numbers : Vec ℕ Global) → IsOkAnd places (IsPlanOf (header_form header) (Some ranges)) → AreNumbersOf ranges.items numbers
    → IsOkAnd (codec_call_answer places >>= with_header header) (IsPlanNumbers (Some numbers))
some_joined header (Ok None) ranges numbers h joined = absurd h
some_joined header (Ok (Some places)) ranges numbers h joined = (joined.0, joined.1, (places, ranges.items, refl, h, joined.2))
some_joined header (Err e) ranges numbers h joined = absurd h

module _ (given_header : Result Header Cause) (tuples : ℕ) (numbers : List ℕ) (header : Header) (selection : Selection) (reads : given_header ≡ Ok header) (means : selection_given (length header.sizes) tuples numbers ≡ Ok selection) where
  abbrev places : Result (Option (List ℕ)) CodecError
  places = places_planned (header_form header) selection

  pub plan_by : planned given_header tuples numbers ≡ (codec_call_answer places >>= with_header header)
  plan_by = rw (reads, means) refl

  -- where none is planned, none is due
  pub none_due : (ranges : Option (Vec ByteSpan Global)) → IsOkAnd places (IsPlanOf (header_form header) ranges) → ranges ≡ None → IsOkAnd (planned given_header tuples numbers) (IsPlanNumbers None)
  none_due ranges h is =
      let of_none : IsOkAnd places (IsPlanOf (header_form header) None) = subst (λ (r : Option (Vec ByteSpan Global)). IsOkAnd places (IsPlanOf (header_form header) r)) is h in
      subst (λ (x : Result Planned Cause). IsOkAnd x (IsPlanNumbers None)) (sym plan_by) (none_joined header places of_none)

  -- those that are planned are due, joined
  pub some_due : (ranges : Option (Vec ByteSpan Global)) (made : Vec ByteSpan Global) (told : Vec ℕ Global) → IsOkAnd places (IsPlanOf (header_form header) ranges) → ranges ≡ Some made → AreNumbersOf made.items told
      → IsOkAnd (planned given_header tuples numbers) (IsPlanNumbers (Some told))
  some_due ranges made told h is joined =
      let of_some : IsOkAnd places (IsPlanOf (header_form header) (Some made)) = subst (λ (r : Option (Vec ByteSpan Global)). IsOkAnd places (IsPlanOf (header_form header) r)) is h in
      subst (λ (x : Result Planned Cause). IsOkAnd x (IsPlanNumbers (Some told))) (sym plan_by) (some_joined header places made told of_some joined)

-- ---- returned

pub none_told : (expected : Result Planned Cause) (code : ℕ) (old new : PlanBuffers) → IsOkAnd expected (IsPlanNumbers None) → ToldRanges None code old new → TellsPlan expected code old new
none_told (Ok plan) code old new h told = inl (plan, None, refl, h, told)
none_told (Err cause) code old new h told = absurd h

pub some_told : (numbers : Vec ℕ Global) (expected : Result Planned Cause) (code : ℕ) (old new : PlanBuffers) → IsOkAnd expected (IsPlanNumbers (Some numbers)) → new.is_planned ≡ true → ToldBytes numbers.items code old.ranges new.ranges new.needed
    → TellsPlan expected code old new
some_told numbers (Ok plan) code old new h planned told =
    inl (plan, Some h.0, refl, h.2, (planned, subst (λ (v : List ℕ). ToldBytes v code old.ranges new.ranges new.needed) h.1 told))
some_told numbers (Err cause) code old new h planned told = absurd h

pub plan_refusal_told : (cause : Cause) (expected : Result Planned Cause) (code : ℕ) (old : PlanBuffers) → Excused (cause_memory cause) (expected ≡ Err cause) → code ≡ cause_code cause → TellsPlan expected code old old
plan_refusal_told cause expected code old gives is = inr (rw is (refused cause expected gives), refl)
