-- The ranges that a read of pieces lacks.
use Rattle.std.proofs.Common.{◌≡◌, ℕ, suc, ◌-◌, ◌<◌, ◌==◌, ◌&&◌, ◌||◌, nat_lt, not, Bool, true, false, if◌then◌else◌, Option, Some, None, List, [], ◌∷◌, length, Vec, Global, Result, Ok, Err, IsOkAnd, IfOk, IfErr, inl, inr, refl, sym, ap, ◌∙◌, subst, arith, lt-ltb}
use Rattle.std.specs.Prelude.{is_ok, option_map}
use Rattle.std.specs.List.{All, list_all, list_any, range_with_len}
use Rattle.std.specs.Cmp.Derive.{both_true}
use Rattle.std.proofs.lemmas.Bool.{leb-true}
use Rattle.std.proofs.lemmas.Bool.Decides.{nat_tests}
use Rattle.std.proofs.lemmas.List.Folds.{list_all-append}
use Rattle.std.proofs.Math.Bool.{and-false, and-true}
use Rattle.zarrs_chunk.specs.Answer.{AnswersBy, Excused, fault, is_fault, memory, memory_or_fault, seen, ◌>>=◌}
use Rattle.zarrs_chunk.specs.Selection.{Selection, bounds_of}
use Rattle.zarrs_chunk.specs.declared.codec_error.CodecError.{CodecError}
use Rattle.zarrs_chunk.specs.declared.codec_error.CodecError.TheVariants.{OutOfMemory, Storage, UnsupportedDataType, EndiannessMissing, ArrayBytesKind, InvalidBytesLength, IncompatibleDimensionality, OutOfBounds, Overflow, InvalidFillValue, ReshapeDimension, ReshapeElements, BitRange, PaddingByte, IndexLength, InvalidOffsets, OffsetTooLarge, OffsetNotKept, MaskValue, HeaderOverflow, InvalidByteRange, BytesCodec, DataMismatch, UnsupportedTarget, TargetMismatch, ReversedRange, ElementCount, IndivisibleShape, IndexNotFixed}
use Rattle.zarrs_chunk.specs.declared.codec_error.StorageError.{StorageError}
use Rattle.zarrs_data_type.specs.Element.{Chunk}
use Rattle.zarrs_data_type.specs.ElementType.{ElementType}
use Rattle.zarrs_array_bytes.specs.Held.{Held}
use Rattle.zarrs_array_bytes.specs.Validity.{Holds}
use Rattle.zarrs_codec.specs.ByteRanges.{range_indices}
use Rattle.zarrs_codec.specs.ByteSpan.{ByteSpan}
use Rattle.zarrs_codec.specs.StorageState.{StorageState, after_reading, last_failure}
use Rattle.zarrs_codec.specs.declared.refused.Refused.{Refused}
use Rattle.zarrs_codec.proofs.Fences.{first_true, second_true}
use Rattle.zarrs_packbits.proofs.PartReads.{same_bools}
use Rattle.zarrs_json.specs.KnownBytesCodec.{known_codecs, known_reads}
use Rattle.zarrs_lent_handles.specs.Joined.{has_number, have_number, ranges_apart}
use Rattle.zarrs_lent_handles.specs.Lacking.{AreLacking, are_all_lacking, are_of_failure, is_lacking, ranges_kept}
use Rattle.zarrs_lent_handles.specs.Pieces.{PlainPiece, are_apart, are_at_hand, is_at_hand, pieces_seen, value_of_pieces, zeros}
use Rattle.zarrs_lent_handles.specs.PiecesHandle.{are_unsure, is_unsure, made_state, pieces_state}
use Rattle.zarrs_lent_handles.specs.declared.pieces_handle.PiecesHandle.{PiecesHandle}
use Rattle.zarrs_lent_handles.proofs.LackingLemmas.{all_alike, all_lacking, each_passes}
use Rattle.zarrs_lent_handles.proofs.PieceLemmas.{passes, value_length}
use Rattle.zarrs_chain_meaning.specs.Chain.{taken_form}
use Rattle.zarrs_codecs.specs.ChunkRead.{IsReadPlan, ReadsStoredChunk, are_asked_sure, asks_in_part, encoded_places, planned_places, planned_region, reads_places, stored_read, standing_places}
use Rattle.zarrs_codecs.specs.ChunkSource.{Source, source_made}
use Rattle.zarrs_codecs.specs.CodecPart.{codec_rests_on}
use Rattle.zarrs_codecs.specs.PlannedReads.{ArePlanned, planned_bytes}
use Rattle.zarrs_codecs.proofs.MadeCoders.{excused_less, passes as goes_on}
use Rattle.zarrs_codecs.proofs.PlannedAlike.{planned_is_asked}
use Rattle.zarrs_c_calls.specs.LackingByte.{LacksByte, apart_read, whole_value}
use Rattle.zarrs_c_calls.specs.LackingRanges.{AnswersKept, AnswersMade, AnswersOver, AnswersPartLacking, AreKept, AreLackingTo, AreOfLackedOrKept, IsLackingOf, IsSoundForm}
use Rattle.zarrs_c_calls.specs.Plans.{range_numbers}
use Rattle.zarrs_c_calls.specs.Reads.{form_read}
use Rattle.zarrs_c_calls.proofs.EnoughLemmas.{form_passes}
use Rattle.zarrs_c_calls.proofs.FetchedLemmas.{IsMade, part_stopped}
use Rattle.zarrs_c_calls.proofs.LackingLemmas.{is_read, made_lacks, not_lacking, not_whole, surely_read, whole_read}
use Rattle.zarrs_json.specs.Header.{Header, HeaderForm, header_form}
use Rattle.zarrs_c_calls.specs.Codes.{IsRefusal, cause_code, cause_memory, codec_call_answer}
use Rattle.zarrs_c_calls.specs.Fetched.{pieces_given, pieces_read}
use Rattle.zarrs_c_calls.specs.Selections.{selection_given}
use Rattle.zarrs_c_calls.specs.Told.{Elements}
use Rattle.zarrs_c_calls.specs.declared.cause.Cause.{Cause}
use Rattle.zarrs_c_calls.proofs.AnswerLemmas.{elements_not_due, of_codec, typed}
use Rattle.zarrs_c_calls.proofs.CodeLemmas.{refused}
use Rattle.std.specs.Option.{option_map_or}

-- ---- numbers and the bytes of ranges

itself : (n : ℕ) → (n == n) ≡ true
itself n = grind (arith, nat_tests)

-- a number of a list passes what all pass
inside : (test : ℕ → Bool) (ns : List ℕ) (n : ℕ) → list_all test ns ≡ true → list_any (λ other. other == n) ns ≡ true → test n ≡ true
inside test [] n all is = absurd (cc)
inside test (m ∷ ns) n all is = by (m == n) refl (inside test ns n (second_true (test m) (list_all test ns) all))
  where
    by : (t : Bool) → (m == n) ≡ t → (list_any (λ other. other == n) ns ≡ true → test n ≡ true) → test n ≡ true
    by true e rest =
        let same : m ≡ n = grind (arith, nat_tests) in
        ap test (sym same) ∙ first_true (test m) (list_all test ns) all
    by false e rest = rest (ap (λ (t : Bool). t || list_any (λ other. other == n) ns) (sym e) ∙ is)

-- and what each passes, all pass
each_number : (test : ℕ → Bool) (ns : List ℕ) → ((n : ℕ) → list_any (λ other. other == n) ns ≡ true → test n ≡ true) → list_all test ns ≡ true
each_number test [] h = refl
each_number test (m ∷ ns) h =
    both_true (h m (ap (λ (t : Bool). t || list_any (λ other. other == m) ns) (itself m))) (each_number test ns (λ n e. h n (either (m == n) e)))
  where
    either : {b : Bool} (a : Bool) → b ≡ true → (a || b) ≡ true
    either true e = refl
    either false e = e

none_is : (ns : List ℕ) (n : ℕ) → list_any (λ other. other == n) ns ≡ false → list_all (λ other. not (other == n)) ns ≡ true
none_is [] n e = refl
none_is (m ∷ ns) n e = by (m == n) refl (none_is ns n)
  where
    by : (t : Bool) → (m == n) ≡ t → (list_any (λ other. other == n) ns ≡ false → list_all (λ other. not (other == n)) ns ≡ true) → list_all (λ other. not (other == n)) (m ∷ ns) ≡ true
    by true f rest = absurd (let h : true ≡ false = ap (λ (t : Bool). t || list_any (λ other. other == n) ns) (sym f) ∙ e in cc)
    by false f rest = both_true (ap not f) (rest (ap (λ (t : Bool). t || list_any (λ other. other == n) ns) (sym f) ∙ e))

-- a byte of ranges passes what all their bytes pass
in_ranges : (test : ℕ → Bool) (rs : List ByteSpan) (n : ℕ) → list_all test (range_indices rs) ≡ true → have_number rs n ≡ true → test n ≡ true
in_ranges test [] n all is = absurd (cc)
in_ranges test (r ∷ rs) n all is =
    let split : (list_all test (range_with_len r.start (r.end - r.start)) && list_all test (range_indices rs)) ≡ true = sym (list_all-append test (range_with_len r.start (r.end - r.start)) (range_indices rs)) ∙ all in
    by (has_number r n) refl (first_true _ _ split) (in_ranges test rs n (second_true _ _ split))
  where
    by : (t : Bool) → has_number r n ≡ t → list_all test (range_with_len r.start (r.end - r.start)) ≡ true → (have_number rs n ≡ true → test n ≡ true) → test n ≡ true
    by true e first rest = passes test r.start (r.end - r.start) n first (grind (arith, nat_tests)) (grind (arith, nat_tests))
    by false e first rest = rest (ap (λ (t : Bool). t || have_number rs n) (sym e) ∙ is)

-- lists that pass every test alike have the same numbers
same_numbers : (made : List ByteSpan) (numbers : List ℕ) → ((test : ℕ → Bool) → list_all test numbers ≡ list_all test (range_indices made)) → (n : ℕ) → have_number made n ≡ list_any (λ other. other == n) numbers
same_numbers made numbers alike n = same_bools (have_number made n) (list_any (λ other. other == n) numbers) (λ h. there (list_any (λ other. other == n) numbers) refl h) back
  where
    there : (t : Bool) → list_any (λ other. other == n) numbers ≡ t → have_number made n ≡ true → list_any (λ other. other == n) numbers ≡ true
    there true e h = e
    there false e h = absurd (let f = in_ranges (λ other. not (other == n)) made n (sym (alike (λ other. not (other == n))) ∙ none_is numbers n e) h in let g : not true ≡ true = ap not (sym (itself n)) ∙ f in cc)

    back : list_any (λ other. other == n) numbers ≡ true → have_number made n ≡ true
    back h = inside (have_number made) numbers n (alike (have_number made) ∙ each_passes (have_number made) made (λ k e. e)) h

-- ---- what is planned

same_planned : (r : Result (Option (List ℕ)) CodecError) (a b : List ℕ) → r ≡ Ok (Some a) → r ≡ Ok (Some b) → a ≡ b
same_planned r a b e f = (let g = sym e ∙ f in cc)

plan_numbers : (form : HeaderForm) (selection : Selection) (made : List ByteSpan) (numbers : List ℕ) → IsSoundForm form → (p : Result (Option (List ℕ)) CodecError) → planned_places form selection ≡ p → IsOkAnd p (IsReadPlan known_codecs form (Some made)) → ArePlanned known_codecs form selection numbers
    → (n : ℕ) → have_number made n ≡ list_any (λ other. other == n) numbers
plan_numbers form selection made numbers sound (Err e) is plan are = absurd plan
plan_numbers form selection made numbers sound (Ok None) is plan are = absurd plan
plan_numbers form selection made numbers sound (Ok (Some places)) is plan are =
    same_numbers made numbers (λ test.
    let p = form_passes made test form selection sound.mappings sound.positive places is plan in
    subst (λ (ns : List ℕ). list_all test ns ≡ list_all test (range_indices made)) (same_planned (planned_bytes known_codecs form selection) p.0 numbers p.1 are) p.2)

no_number : {P : Type 0} (r : Result (List ℕ) CodecError) (numbers : List ℕ) → (r >>= λ bytes. Ok (if false then Some bytes else None)) ≡ Ok (Some numbers) → P
no_number (Ok bytes) numbers e = absurd (cc)
no_number (Err error) numbers e = absurd (cc)

no_plan_at : {P T : Type 0} (b : Bool) (arrange : List ℕ → List ℕ) (form : HeaderForm) (p : Result (List ℕ) CodecError) (t : Result T CodecError) (rests : T → List ℕ → Result (List ℕ) CodecError) (numbers : List ℕ)
    → IsOkAnd (seen (λ (places : List ℕ). if b then Some places else None) (seen arrange p)) (IsReadPlan known_codecs form None)
    → (p >>= λ found. t >>= λ taken. rests taken found >>= λ bytes. Ok (if b then Some bytes else None)) ≡ Ok (Some numbers) → P
no_plan_at b arrange form (Err e) t rests numbers plan are = absurd plan
no_plan_at true arrange form (Ok found) t rests numbers plan are = absurd plan
no_plan_at false arrange form (Ok found) (Err e) rests numbers plan are = absurd (cc)
no_plan_at false arrange form (Ok found) (Ok taken) rests numbers plan are = no_number (rests taken found) numbers are

places_stop : (g : List ℕ → Option (List ℕ)) (h : List ℕ → List ℕ) (p : Result (List ℕ) CodecError) (f : List ℕ → Result Chunk CodecError) (e : CodecError) → seen g (seen h p) ≡ Err e → (p >>= f) ≡ Err e
places_stop g h (Ok places) f e is = absurd (cc)
places_stop g h (Err other) f e is = cc

no_plan : {P : Type 0} (form : HeaderForm) (selection : Selection) (numbers : List ℕ) → IsOkAnd (planned_places form selection) (IsReadPlan known_codecs form None) → ArePlanned known_codecs form selection numbers → P
no_plan form selection numbers plan are =
    no_plan_at (reads_places form.chain.bytes_to_bytes form.chain.array_to_bytes) (option_map_or (standing_places form.chain.array_to_array form.sizes) (planned_region form selection)) form (encoded_places form.type form.chain.array_to_array form.sizes selection)
    (taken_form known_codecs form.chain form.sizes form.type form.fill) (λ taken found. codec_rests_on known_codecs form.chain.array_to_bytes taken.0 form.type form.fill None found) numbers plan are

-- what a call says of the plan
pub plan_said : (form : HeaderForm) (selection : Selection) (plan : Option (Vec ByteSpan Global)) → IsSoundForm form → IsOkAnd (planned_places form selection) (IsReadPlan known_codecs form (option_map (λ (v : Vec ByteSpan Global). v.items) plan))
    → (numbers : List ℕ) → ArePlanned known_codecs form selection numbers → (n : ℕ) → have_number (ranges_kept plan) n ≡ list_any (λ other. other == n) numbers
plan_said form selection None sound said numbers are n = no_plan form selection numbers said are
plan_said form selection (Some made) sound said numbers are n = plan_numbers form selection made.items numbers sound (planned_places form selection) refl said are n

-- ranges of a plan are those of planned bytes
plan_is : (form : HeaderForm) (selection : Selection) (made : List ByteSpan) → IsSoundForm form → (p : Result (Option (List ℕ)) CodecError) → planned_places form selection ≡ p → IsOkAnd p (IsReadPlan known_codecs form (Some made)) → (numbers : List ℕ) × ArePlanned known_codecs form selection numbers
plan_is form selection made sound (Err e) is plan = absurd plan
plan_is form selection made sound (Ok None) is plan = absurd plan
plan_is form selection made sound (Ok (Some places)) is plan =
    let p = form_passes made (is_at_hand []) form selection sound.mappings sound.positive places is plan in
    (p.0, p.1)

plan_with : (form : HeaderForm) (selection : Selection) (plan : Option (Vec ByteSpan Global)) (n : ℕ) → IsSoundForm form → IsOkAnd (planned_places form selection) (IsReadPlan known_codecs form (option_map (λ (v : Vec ByteSpan Global). v.items) plan)) → have_number (ranges_kept plan) n ≡ true → (numbers : List ℕ) × ArePlanned known_codecs form selection numbers
plan_with form selection None n sound said has = absurd (cc)
plan_with form selection (Some made) n sound said has = plan_is form selection made.items sound (planned_places form selection) refl said

-- ---- what a decoder is made of

pub source_of : (r : Result Source CodecError) → is_ok r ≡ true → (source : Source) × (r ≡ Ok source)
source_of (Ok source) e = (source, refl)
source_of (Err error) e = absurd (cc)

-- ---- a handle after a read

pub still_made : {T : Type 0} (r : Result T CodecError) (len : ℕ) (ps : List PlainPiece) (before after : StorageState) → IsMade zeros len ps before → after ≡ after_reading r before → IsMade zeros len ps after
still_made r len ps before after is e = record {
  stand_apart = is.stand_apart;
  value_is = ap (λ (s : StorageState). s.value) e ∙ is.value_is;
  sure_is = ap (λ (s : StorageState). s.sure) e ∙ is.sure_is;
}

lacks_unsure : (len : ℕ) (ps : List PlainPiece) (state : StorageState) (n : ℕ) → state.value ≡ Some (value_of_pieces len ps) → state.sure ≡ Some (is_at_hand ps) → is_lacking len ps n ≡ is_unsure state n
lacks_unsure len ps state n v s = rw (v, s, value_length zeros len ps, and-true (is_at_hand ps n)) refl

kept_lacking : (len : ℕ) (ps : List PlainPiece) (state : StorageState) (ranges : List ByteSpan) → IsMade zeros len ps state → are_unsure state ranges ≡ true → are_all_lacking len ps ranges ≡ true
kept_lacking len ps state ranges is h =
    both_true (first_true _ _ h) (sym (all_alike (is_unsure state) (is_lacking len ps) (range_indices ranges) (λ n. sym (lacks_unsure len ps state n is.value_is is.sure_is))) ∙ second_true (ranges_apart 0 ranges) _ h)

-- the pieces of a handle lack what those lack that its state shows
same_lacking : {E : Type 0} (handle : PiecesHandle E) (len : ℕ) (ps : List PlainPiece) (n : ℕ) → IsMade zeros len ps (pieces_state handle) → is_lacking handle.len (pieces_seen handle.pieces.items) n ≡ is_lacking len ps n
same_lacking handle len ps n is =
    lacks_unsure handle.len (pieces_seen handle.pieces.items) (pieces_state handle) n refl refl ∙ sym (lacks_unsure len ps (pieces_state handle) n is.value_is is.sure_is)

lacks_made : {E : Type 0} (handle : PiecesHandle E) (len : ℕ) (ps : List PlainPiece) (asked ranges : List ByteSpan) → IsMade zeros len ps (pieces_state handle) → AreLacking handle.len (pieces_seen handle.pieces.items) asked ranges → AreLacking len ps asked ranges
lacks_made handle len ps asked ranges is h = record {
  apart = h.apart;
  same = λ n. h.same n ∙ ap (λ (b : Bool). have_number asked n && b) (same_lacking handle len ps n is);
}

-- an error that is a failure of the handle
is_storage : (error : CodecError) → fault error ≡ true → (failure : StorageError) × (error ≡ Storage failure)
is_storage OutOfMemory e = absurd (cc)
is_storage (Storage failure) e = (failure, refl)
is_storage (UnsupportedDataType a) e = absurd (cc)
is_storage EndiannessMissing e = absurd (cc)
is_storage ArrayBytesKind e = absurd (cc)
is_storage (InvalidBytesLength a b) e = absurd (cc)
is_storage IncompatibleDimensionality e = absurd (cc)
is_storage OutOfBounds e = absurd (cc)
is_storage Overflow e = absurd (cc)
is_storage InvalidFillValue e = absurd (cc)
is_storage ReshapeDimension e = absurd (cc)
is_storage ReshapeElements e = absurd (cc)
is_storage BitRange e = absurd (cc)
is_storage PaddingByte e = absurd (cc)
is_storage IndexLength e = absurd (cc)
is_storage InvalidOffsets e = absurd (cc)
is_storage OffsetTooLarge e = absurd (cc)
is_storage OffsetNotKept e = absurd (cc)
is_storage MaskValue e = absurd (cc)
is_storage HeaderOverflow e = absurd (cc)
is_storage InvalidByteRange e = absurd (cc)
is_storage (BytesCodec a) e = absurd (cc)
is_storage DataMismatch e = absurd (cc)
is_storage UnsupportedTarget e = absurd (cc)
is_storage TargetMismatch e = absurd (cc)
is_storage ReversedRange e = absurd (cc)
is_storage ElementCount e = absurd (cc)
is_storage IndivisibleShape e = absurd (cc)
is_storage IndexNotFixed e = absurd (cc)

-- the failure that a read answers is the handle's last
pub has_failed : {T : Type 0} (r : Result T CodecError) (error : CodecError) (failure : StorageError) (before after : StorageState) → after ≡ after_reading r before → r ≡ Err error → error ≡ Storage failure → after.failure ≡ Some failure
has_failed {T} r error failure before after left is storage =
    ap (λ (s : StorageState). s.failure) left
    ∙ ap (λ (x : Result T CodecError). last_failure x before.failure) is
    ∙ ap (λ (e : CodecError). last_failure (answer e) before.failure) storage
  where
    answer : CodecError → Result T CodecError
    answer e = Err e

some_kept : (o : Option StorageError) (failure : StorageError) (ranges : List ByteSpan) → o ≡ Some failure → are_of_failure o ranges ≡ true → nat_lt 0 (length ranges) ≡ true
some_kept None failure ranges e h = absurd (cc)
some_kept (Some other) failure ranges e h = h

none_kept : (o : Option StorageError) (ranges : List ByteSpan) → o ≡ None → are_of_failure o ranges ≡ true → ranges ≡ []
none_kept None [] e h = refl
none_kept None (r ∷ ranges) e h = absurd (omega (arith, leb-true (length (r ∷ ranges)) 0 h))
none_kept (Some failure) ranges e h = absurd (cc)

never_some : {P : Type 0} (ranges : List ByteSpan) → nat_lt 0 (length ranges) ≡ true → ranges ≡ [] → P
never_some [] some none = absurd (cc)
never_some (r ∷ ranges) some none = absurd (cc)

-- the failure of a handle that was made of these pieces
pub none_failed : (len : ℕ) (ps : List PlainPiece) (state : StorageState) → Ok state ≡ made_state len ps → state.failure ≡ None
none_failed len ps state e = by (are_apart len 0 ps) refl
  where
    by : (t : Bool) → are_apart len 0 ps ≡ t → state.failure ≡ None
    by true f =
        let is : Ok state ≡ made_state len ps = e in
        let g = rw f at is in
        cc
    by false f =
        let is : Ok state ≡ made_state len ps = e in
        let g = rw f at is in
        absurd (cc)

-- ranges have the first byte of the first of them
first_number : (ranges : List ByteSpan) → ranges_apart 0 ranges ≡ true → nat_lt 0 (length ranges) ≡ true → (n : ℕ) × (have_number ranges n ≡ true)
first_number [] apart some = absurd (cc)
first_number (r ∷ ranges) apart some = (r.start, grind (arith, nat_tests))

are_read : {A : Type 0} (P : A → Type 0) (r : Result A CodecError) → IsOkAnd r P → is_ok r ≡ true
are_read P (Ok x) h = refl
are_read P (Err error) h = absurd h

-- a read is answered of a selection without an error
selected : (type : ElementType) (held : Held) (b : Result (Unit {0}) CodecError) → IfErr b (λ cause. AnswersBy memory (Holds type) (Ok held) (Err cause)) → is_ok b ≡ true
selected type held (Ok u) h = refl
selected type held (Err cause) h = absurd h

-- ---- what is due

module _ (form : HeaderForm) (len : ℕ) (ps : List PlainPiece) (selection : Selection) where
  over_read : (state : StorageState) → IsMade zeros len ps state → form_read form state.value selection ≡ apart_read zeros form len ps selection
  over_read state is = ap (λ (v : Option (List ℕ)). form_read form v selection) is.value_is ∙ sym (is_read zeros form len ps selection is.stand_apart)

  pub answered : (state : StorageState) (r : Result Held CodecError) (source : Source) → IsMade zeros len ps state → source_made known_codecs known_reads form state.value ≡ Ok source
      → AnswersBy memory_or_fault (Holds form.type) r (stored_read known_codecs form state.value selection) → AnswersBy memory_or_fault (Holds form.type) r (apart_read zeros form len ps selection)
  answered state r source is made h =
      let due : stored_read known_codecs form state.value selection ≡ apart_read zeros form len ps selection =
      sym (goes_on (source_made known_codecs known_reads form state.value) source (stored_read known_codecs form state.value selection) made) ∙ over_read state is in
      subst (λ (x : Result Chunk CodecError). AnswersBy memory_or_fault (Holds form.type) r x) due h

  -- a read whose plan has an error has it
  plan_stops : (state : StorageState) (source : Source) (e : CodecError) → IsMade zeros len ps state → source_made known_codecs known_reads form state.value ≡ Ok source → planned_places form selection ≡ Err e → apart_read zeros form len ps selection ≡ Err e
  plan_stops state source e is made stops =
      sym (over_read state is)
      ∙ goes_on (source_made known_codecs known_reads form state.value) source (stored_read known_codecs form state.value selection) made
      ∙ places_stop _ _ (encoded_places form.type form.chain.array_to_array form.sizes selection) _ e stops

  -- where a planned byte is lacking, a byte is lacking
  planned_lacks : (numbers : List ℕ) (n : ℕ) → are_apart len 0 ps ≡ true → whole_value len ps ≡ None → is_ok (bounds_of selection form.sizes) ≡ true → ArePlanned known_codecs form selection numbers
      → list_any (λ other. other == n) numbers ≡ true → is_lacking len ps n ≡ true → LacksByte zeros form len ps selection
  planned_lacks numbers n apart none inside_is are member lacks = record {
    stand_apart = apart;
    not_all = not_whole len ps apart none;
    in_part = λ _. record {
      selected = inside_is;
      not_asked = ap (are_asked_sure (Some (is_at_hand ps))) (planned_is_asked known_codecs form (Some (value_of_pieces len ps)) selection numbers are).asked ∙ by (are_at_hand ps numbers) refl;
    };
  }
    where
      by : (t : Bool) → are_at_hand ps numbers ≡ t → are_at_hand ps numbers ≡ false
      by false e = e
      by true e = absurd (let here : is_at_hand ps n ≡ true = inside (is_at_hand ps) numbers n e member in let not_here : not (is_at_hand ps n) ≡ true = second_true (nat_lt n len) (not (is_at_hand ps n)) lacks in let f : false ≡ true = ap not (sym here) ∙ not_here in cc)

  -- what a handle lacks behind a read that is answered
  pub read_due : {E : Type 0} (handle : PiecesHandle E) (plan : Option (Vec ByteSpan Global)) (told : List ℕ) → IsSoundForm form → IsMade zeros len ps (pieces_state handle) → whole_value len ps ≡ None → (pieces_state handle).failure ≡ None
      → is_ok (bounds_of selection form.sizes) ≡ true → is_ok (apart_read zeros form len ps selection) ≡ true → IsOkAnd (planned_places form selection) (IsReadPlan known_codecs form (option_map (λ (v : Vec ByteSpan Global). v.items) plan))
      → AreOfLackedOrKept handle (ranges_kept plan) told → (lacking : List ByteSpan) × AreLackingTo form len ps selection lacking × (told ≡ range_numbers lacking)
  read_due handle plan told sound is none quiet inside_is read said (ranges, inl h, e) =
      let asked = ranges_kept plan in
      let own = lacks_made handle len ps asked ranges is h.0 in
      let first = first_number ranges own.apart h.1 in
      let both : (have_number asked first.0 && is_lacking len ps first.0) ≡ true = sym (own.same first.0) ∙ first.1 in
      let here = first_true (have_number asked first.0) (is_lacking len ps first.0) both in
      let planned = plan_with form selection plan first.0 sound said here in
      let lacks = planned_lacks planned.0 first.0 is.stand_apart none inside_is planned.1 (sym (plan_said form selection plan sound said planned.0 planned.1 first.0) ∙ here) (second_true (have_number asked first.0) (is_lacking len ps first.0) both) in (
        ranges,
        record {
          all = all_lacking len ps asked ranges own;
          some = λ _. lacks;
          none = λ _. read;
          planned = λ numbers are bound n. own.same n ∙ ap (λ (b : Bool). b && is_lacking len ps n) (plan_said form selection plan sound said numbers are n);
        },
        e,
      )
  read_due handle plan told sound is none quiet inside_is read said (ranges, inr h, e) =
      let asked = ranges_kept plan in
      let own = lacks_made handle len ps asked [] is h.0 in
      let empty = none_kept (pieces_state handle).failure ranges quiet h.1.failed in (
        ranges,
        record {
          all = kept_lacking len ps (pieces_state handle) ranges is h.1.unsure;
          some = λ some. never_some ranges some empty;
          none = λ _. read;
          planned = λ numbers are bound n. ap (λ (rs : List ByteSpan). have_number rs n) empty ∙ own.same n ∙ ap (λ (b : Bool). b && is_lacking len ps n) (plan_said form selection plan sound said numbers are n);
        },
        e,
      )

  -- the planned bytes are at hand, where those of the value are that were planned
  hand_one : (asked : List ByteSpan) (n : ℕ) (b : Bool) → AreLacking len ps asked [] → b ≡ is_at_hand ps n → have_number asked n ≡ true → n < len → is_at_hand ps n ≡ true
  hand_one asked n true h e is l = sym e
  hand_one asked n false h e is l = absurd (let f : false ≡ true = h.same n ∙ both_true is (both_true (lt-ltb n len l) (ap not (sym e))) in cc)

  below : (ns : List ℕ) (n : ℕ) → All (λ number. number < len) ns → list_any (λ other. other == n) ns ≡ true → n < len
  below [] n all is = absurd (cc)
  below (m ∷ ns) n all is = by (m == n) refl (below ns n (λ k d l. all (suc k) d (omega (arith, l))))
    where
      by : (t : Bool) → (m == n) ≡ t → (list_any (λ other. other == n) ns ≡ true → n < len) → n < len
      by true e rest =
          let same : m ≡ n = grind (arith, nat_tests) in
          subst (λ (k : ℕ). k < len) same (all 0 m (omega arith))
      by false e rest = rest (ap (λ (t : Bool). t || list_any (λ other. other == n) ns) (sym e) ∙ is)

  -- what a handle lacks behind a read that failed
  failed_due : {E : Type 0} (handle : PiecesHandle E) (plan : Option (Vec ByteSpan Global)) (failure : StorageError) (told : List ℕ) → IsSoundForm form → IsMade zeros len ps (pieces_state handle) → (pieces_state handle).failure ≡ Some failure → LacksByte zeros form len ps selection
      → IsOkAnd (planned_places form selection) (IsReadPlan known_codecs form (option_map (λ (v : Vec ByteSpan Global). v.items) plan)) → AreOfLackedOrKept handle (ranges_kept plan) told → (lacking : List ByteSpan) × AreLackingTo form len ps selection lacking × (told ≡ range_numbers lacking)
  failed_due handle plan failure told sound is failed lacks said (ranges, inl h, e) =
      let own = lacks_made handle len ps (ranges_kept plan) ranges is h.0 in (
        ranges,
        record {
          all = all_lacking len ps (ranges_kept plan) ranges own;
          some = λ _. lacks;
          none = never_some ranges h.1;
          planned = λ numbers are bound n. own.same n ∙ ap (λ (b : Bool). b && is_lacking len ps n) (plan_said form selection plan sound said numbers are n);
        },
        e,
      )
  failed_due handle plan failure told sound is failed lacks said (ranges, inr h, e) =
      let own = lacks_made handle len ps (ranges_kept plan) [] is h.0 in (
        ranges,
        record {
          all = kept_lacking len ps (pieces_state handle) ranges is h.1.unsure;
          some = λ _. lacks;
          none = never_some ranges (some_kept (pieces_state handle).failure failure ranges failed h.1.failed);
          planned = λ numbers are bound n.
              let hand : are_at_hand ps numbers ≡ true = each_number (is_at_hand ps) numbers (λ k member. hand_one (ranges_kept plan) k (is_at_hand ps k) own refl (plan_said form selection plan sound said numbers are k ∙ member) (below numbers k bound member)) in
              absurd (let quiet : true ≡ false = not_lacking zeros form len ps selection numbers true are hand (λ _. lacks) in cc);
        },
        e,
      )

  -- the numbers that are returned behind a read that is answered
  pub answered_tells : {E : Type 0} (before : StorageState) (handle : PiecesHandle E) (held : Held) (r : Result Held CodecError) (plan : Option (Vec ByteSpan Global)) (told : Result (Vec ℕ Global) CodecError) → IsSoundForm form → IsMade zeros len ps before → whole_value len ps ≡ None → before.failure ≡ None
      → ReadsStoredChunk known_codecs form before selection r → AnswersBy memory_or_fault (Holds form.type) r (apart_read zeros form len ps selection) → pieces_state handle ≡ after_reading r before → r ≡ Ok held
      → IsOkAnd (planned_places form selection) (IsReadPlan known_codecs form (option_map (λ (v : Vec ByteSpan Global). v.items) plan)) → IfOk told (λ told. AreOfLackedOrKept handle (ranges_kept plan) told.items) → IfErr told (λ error. error ≡ OutOfMemory) → AnswersPartLacking form len ps selection told
  answered_tells before handle held (Err error) plan told sound is none quiet reads exact left answered said h m = absurd (cc)
  answered_tells before handle held (Ok other) plan (Err error) sound is none quiet reads exact left answered said h m = λ silent. absurd (let wants : true ≡ false = sym (ap memory m) ∙ silent in cc)
  answered_tells before handle held (Ok other) plan (Ok told) sound is none quiet reads exact left answered said h m =
      read_due handle plan told.items sound (still_made (ok_held other) len ps before (pieces_state handle) is left) none (ap (λ (s : StorageState). s.failure) left ∙ quiet)
      (selected form.type other (bounds_of selection form.sizes) reads.indexer_first) (are_read _ (apart_read zeros form len ps selection) exact) said h
    where
      ok_held : Held → Result Held CodecError
      ok_held held = Ok held

  -- and behind a read that failed
  pub failed_tells : {E : Type 0} (before : StorageState) (handle : PiecesHandle E) (r : Result Held CodecError) (error : CodecError) (failure : StorageError) (plan : Option (Vec ByteSpan Global)) (told : Result (Vec ℕ Global) CodecError) → IsSoundForm form → IsMade zeros len ps before → whole_value len ps ≡ None
      → ReadsStoredChunk known_codecs form before selection r → pieces_state handle ≡ after_reading r before → r ≡ Err error → error ≡ Storage failure
      → IsOkAnd (planned_places form selection) (IsReadPlan known_codecs form (option_map (λ (v : Vec ByteSpan Global). v.items) plan)) → IfOk told (λ told. AreOfLackedOrKept handle (ranges_kept plan) told.items) → IfErr told (λ error. error ≡ OutOfMemory) → AnswersPartLacking form len ps selection told
  failed_tells before handle r error failure plan (Err other) sound is none reads left fails storage said h m = λ silent. absurd (let wants : true ≡ false = sym (ap memory m) ∙ silent in cc)
  failed_tells before handle r error failure plan (Ok told) sound is none reads left fails storage said h m =
      let fault_is : is_fault r ≡ true = ap is_fault fails ∙ ap fault storage in
      let lacks = made_lacks zeros form len ps before selection (is_fault r) is none (λ _. surely_read form form before before selection r refl refl reads) fault_is in
      failed_due handle plan failure told.items sound (still_made r len ps before (pieces_state handle) is left) (has_failed r error failure before (pieces_state handle) left fails storage) lacks said h

  -- what a handle kept where no decoder is made
  unmade_due : {E : Type 0} (handle : PiecesHandle E) (ranges : List ByteSpan) (failure : StorageError) (told : List ℕ) → IsMade zeros len ps (pieces_state handle) → (pieces_state handle).failure ≡ Some failure → LacksByte zeros form len ps selection
      → (asks_in_part form.chain.bytes_to_bytes form.chain.array_to_bytes ≡ true → true ≡ false) → AreKept handle ranges → told ≡ range_numbers ranges → (lacking : List ByteSpan) × AreLackingTo form len ps selection lacking × (told ≡ range_numbers lacking)
  unmade_due handle ranges failure told is failed lacks whole kept e = (
    ranges,
    record {
      all = kept_lacking len ps (pieces_state handle) ranges is kept.unsure;
      some = λ _. lacks;
      none = never_some ranges (some_kept (pieces_state handle).failure failure ranges failed kept.failed);
      planned = λ numbers are bound n.
          absurd (let quiet : true ≡ false = whole (planned_is_asked known_codecs form (Some []) selection numbers are).in_part in cc);
    },
    e,
  )

-- ---- by a decoder that is made for it

-- where none is made
pub unmade_answered : {E T : Type 0} (outcome : Result T (Refused (PiecesHandle E))) (form : HeaderForm) (len : ℕ) (ps : List PlainPiece) (selection : Selection) (before : StorageState) (handle : PiecesHandle E) (error : CodecError) (made : Result T CodecError) (r : Result (Vec ℕ Global) CodecError) → IsMade zeros len ps before → whole_value len ps ≡ None
    → pieces_state handle ≡ after_reading made before → made ≡ Err error → (asks_in_part form.chain.bytes_to_bytes form.chain.array_to_bytes ≡ true → fault error ≡ false) → AnswersKept error handle r
    → Excused (memory_or_fault error) (source_made known_codecs known_reads form before.value ≡ Err error) → AnswersPartLacking form len ps selection r
unmade_answered outcome form len ps selection before handle error made (Ok told) is none left fails quiet h stopped =
    let storage = is_storage error h.0 in
    let whole : asks_in_part form.chain.bytes_to_bytes form.chain.array_to_bytes ≡ true → true ≡ false = λ asks. sym h.0 ∙ quiet asks in
    let lacks = made_lacks zeros form len ps before selection true is none (λ asks. record { refused = λ _. whole asks; sure = λ _. whole asks }) refl in
    unmade_due form len ps selection handle h.1 storage.0 told.items (still_made made len ps before (pieces_state handle) is left) (has_failed made error storage.0 before (pieces_state handle) left fails storage.1) lacks whole h.2 h.3
unmade_answered outcome form len ps selection before handle error made (Err cause) is none left fails quiet h stopped = λ wants.
    let k = h wants in
    let due : Excused (memory error) (form_read form before.value selection ≡ Err error) = excused_less (memory error) (fault error) (form_read form before.value selection ≡ Err error) k.0 (part_stopped form before.value selection error stopped) in
    sym (over_read form len ps selection before is) ∙ due (ap memory k.1 ∙ wants) ∙ ap (λ (e : CodecError). chunk_error e) k.1
  where
    chunk_error : CodecError → Result Chunk CodecError
    chunk_error e = Err e

-- where one is made over the handle
pub made_answered : {E : Type 0} (chunk form : HeaderForm) (given over : PiecesHandle E) (selection : Selection) (r : Result (Vec ℕ Global) CodecError) (source : Source) → form ≡ chunk → pieces_state over ≡ pieces_state given → source_made known_codecs known_reads chunk (pieces_state given).value ≡ Ok source
    → AnswersMade form over selection r → AnswersOver chunk given selection r
made_answered chunk form given over selection r source same states made h = λ sound len ps is.
    let can : is_ok (source_made known_codecs known_reads form (pieces_state over).value) ≡ true =
    ap (λ (f : HeaderForm). is_ok (source_made known_codecs known_reads f (pieces_state over).value)) same
    ∙ ap (λ (s : StorageState). is_ok (source_made known_codecs known_reads chunk s.value)) states
    ∙ ap is_ok made in
    let own : IsSoundForm form = subst (λ (f : HeaderForm). IsSoundForm f) (sym same) sound in
    let state_is : Ok (pieces_state over) ≡ made_state len ps = ap ok_state states ∙ is.made in
    subst (λ (f : HeaderForm). AnswersPartLacking f len ps selection r) same (h can own len ps (record { made = state_is; in_part = is.in_part }))
  where
    ok_state : StorageState → Result StorageState CodecError
    ok_state s = Ok s

-- of a value that is at hand no byte is lacking
whole_lacks : (len n : ℕ) (ps : List PlainPiece) (value : List ℕ) → whole_value len ps ≡ Some value → is_lacking len ps n ≡ false
whole_lacks len n [] value whole = by (len == 0) refl
  where
    by : (t : Bool) → (len == 0) ≡ t → is_lacking len [] n ≡ false
    by true e = grind (arith, nat_tests)
    by false e = absurd (let w : whole_value len [] ≡ Some value = whole in let i = rw e at w in cc)
whole_lacks len n (p ∷ ps) value whole = by ((p.start == 0) && (length p.bytes == len)) refl
  where
    by : (t : Bool) → ((p.start == 0) && (length p.bytes == len)) ≡ t → is_lacking len (p ∷ ps) n ≡ false
    by true e = grind (arith, nat_tests)
    by false e = absurd (let w : whole_value len (p ∷ ps) ≡ Some value = whole in let i = rw e at w in cc)

-- the value itself is read
pub whole_due : (form : HeaderForm) (type : ElementType) (len : ℕ) (ps : List PlainPiece) (value : List ℕ) (stored : Option (List ℕ)) (selection : Selection) (held : Held) (told : List ℕ) → are_apart len 0 ps ≡ true → whole_value len ps ≡ Some value → stored ≡ Some value
    → AnswersBy memory (Holds type) (Ok held) (form_read form stored selection) → told ≡ [] → (lacking : List ByteSpan) × AreLackingTo form len ps selection lacking × (told ≡ range_numbers lacking)
whole_due form type len ps value stored selection held told apart whole same h none = (
  [],
  record {
    all = refl;
    some = λ some. absurd (cc);
    none = λ _. are_read _ (apart_read zeros form len ps selection) (whole_read zeros form type len ps value stored selection (Ok held) apart whole same h);
    planned = λ numbers are bound n. sym (ap (λ (b : Bool). list_any (λ other. other == n) numbers && b) (whole_lacks len n ps value whole) ∙ and-false (list_any (λ other. other == n) numbers));
  },
  none,
)

pub whole_refused : (form : HeaderForm) (type : ElementType) (len : ℕ) (ps : List PlainPiece) (value : List ℕ) (stored : Option (List ℕ)) (selection : Selection) (error : CodecError) → are_apart len 0 ps ≡ true → whole_value len ps ≡ Some value → stored ≡ Some value
    → AnswersBy memory (Holds type) (Err error) (form_read form stored selection) → fault error ≡ false → Excused (memory error) (apart_read zeros form len ps selection ≡ Err error)
whole_refused form type len ps value stored selection error apart whole same h quiet =
    excused_less (memory error) (fault error) (apart_read zeros form len ps selection ≡ Err error) quiet (whole_read zeros form type len ps value stored selection (Err error) apart whole same h)

-- an error of the plan is one of the read
pub plan_stopped : (form : HeaderForm) (len : ℕ) (ps : List PlainPiece) (selection : Selection) (state : StorageState) (source : Source) (e : CodecError) → IsMade zeros len ps state → source_made known_codecs known_reads form state.value ≡ Ok source
    → Excused (memory e) (planned_places form selection ≡ Err e) → Excused (memory e) (apart_read zeros form len ps selection ≡ Err e)
plan_stopped form len ps selection state source e is made h = λ wants. plan_stops form len ps selection state source e is made (h wants)

-- ---- of a header

module _ (given_header : Result Header Cause) (len : ℕ) (ranges fetched : List ℕ) (tuples : ℕ) (numbers : List ℕ) (header : Header) (selection : Selection) (pieces : List PlainPiece) (reads : given_header ≡ Ok header) (means : selection_given (length header.sizes) tuples numbers ≡ Ok selection) (given : pieces_given ranges fetched ≡ Ok pieces) where
  of_pieces : pieces_read zeros given_header len ranges fetched tuples numbers ≡ (codec_call_answer (apart_read zeros (header_form header) len pieces selection) >>= typed header.data_type)
  of_pieces = rw (reads, means, given) refl

  pub all_due : (told : List ℕ) → (lacking : List ByteSpan) × AreLackingTo (header_form header) len pieces selection lacking × (told ≡ range_numbers lacking)
      → (lacking : List ByteSpan) × IsLackingOf given_header len ranges fetched tuples numbers lacking × (told ≡ range_numbers lacking)
  all_due told (lacking, are, e) = (
    lacking,
    record { header = header; selection = selection; pieces = pieces; header_is = reads; selection_is = means; pieces_are = given; are = are },
    e,
  )

  -- an error of the chunk's read is the one that is due
  pub all_refused : (error : CodecError) → Excused (memory error) (apart_read zeros (header_form header) len pieces selection ≡ Err error) → Excused (memory error) (pieces_read zeros given_header len ranges fetched tuples numbers ≡ Err (of_codec error))
  all_refused error h = λ wants. of_pieces ∙ elements_not_due header.data_type error (apart_read zeros (header_form header) len pieces selection) (h wants)

-- ---- returned

pub code_refused : (cause : Cause) (expected : Result Elements Cause) (code : ℕ) → Excused (cause_memory cause) (expected ≡ Err cause) → code ≡ cause_code cause → IsRefusal expected code
code_refused cause expected code gives is = rw is (refused cause expected gives)
