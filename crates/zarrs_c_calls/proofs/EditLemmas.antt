-- Edits one after another.
use Rattle.std.proofs.Common.{◌≡◌, ℕ, suc, ◌+◌, ◌-◌, ◌<◌, Bool, true, false, ◌&&◌, nat_le, List, [], ◌∷◌, length, take, drop, get_or, Option, Some, None, Result, Ok, Err, OnErr, inl, inr, refl, sym, ap, ◌∙◌, subst, arith, length-drop}
use Rattle.std.specs.Borrow.{GName}
use Rattle.std.specs.Prelude.{IfNone, IfSome}
use Rattle.std.proofs.lemmas.List.{drop_more}
use Rattle.zarrs_chunk.specs.Answer.{◌>>=◌, Answers, Excused, demand, is_fault, memory, seen}
use Rattle.zarrs_chunk.specs.Selection.{Selection}
use Rattle.zarrs_chunk.specs.declared.codec_error.CodecError.{CodecError}
use Rattle.zarrs_array_bytes.specs.Held.{Held}
use Rattle.zarrs_array_to_array.proofs.AnswerSteps.{step_ok}
use Rattle.zarrs_codec.specs.ArrayWriter.{IsRefusedWrite}
use Rattle.zarrs_codec.specs.Lent.{Lent, whole_reference}
use Rattle.zarrs_json.specs.KnownBytesCodec.{known_codecs}
use Rattle.zarrs_codec.specs.declared.bytes_representation.BytesRepresentation.{BytesRepresentation}
use Rattle.zarrs_chain_meaning.specs.CodecMeaning.{chain_representation}
use Rattle.zarrs_array_to_array.proofs.MadeSound.{same_value}
use Rattle.zarrs_json.specs.Header.{Header, header_form}
use Rattle.zarrs_json.specs.HeaderRead.{header_seen}
use Rattle.zarrs_json.specs.declared.header.ChunkHeader.{ChunkHeader}
use Rattle.zarrs_codecs.proofs.MadeCoders.{no_fault}
use Rattle.zarrs_c_calls.specs.BufferHandle.{buffer_state}
use Rattle.zarrs_c_calls.specs.Buffers.{Buffers, buffers}
use Rattle.zarrs_c_calls.specs.Codes.{cause_code, cause_memory, codec_call_answer}
use Rattle.zarrs_c_calls.specs.EditRuns.{EditsValue, IsRepresented, EditsInOrder}
use Rattle.zarrs_c_calls.specs.Edits.{HasEdits, TellsEdits, all_are_taken, edited, edits_in_place, edits_left, edits_opened}
use Rattle.zarrs_c_calls.specs.Given.{elements_given}
use Rattle.zarrs_c_calls.specs.Reads.{stored_value}
use Rattle.zarrs_c_calls.specs.Selections.{selection_given}
use Rattle.zarrs_c_calls.specs.Writes.{known_written, header_written}
use Rattle.zarrs_c_calls.specs.declared.buffer_handle.BufferHandle.{BufferHandle}
use Rattle.zarrs_c_calls.specs.declared.cause.Cause.{Cause}
use Rattle.zarrs_c_calls.specs.declared.cause.Cause.TheVariants.{Argument, NotInPlace}
use Rattle.zarrs_c_calls.specs.declared.edits.Edits.{Edits}
use Rattle.zarrs_c_calls.specs.declared.edits.EditsOutcome.{EditsOutcome}
use Rattle.zarrs_c_calls.specs.declared.sizes.EditSize.{EditSize}
use Rattle.zarrs_c_calls.proofs.AnswerLemmas.{of_codec}
use Rattle.zarrs_c_calls.proofs.CodeLemmas.{refused}

-- ---- the numbers and bytes that edits take

-- the edit at a place takes its own, and those behind it the rest
pub taken_more : (sizes : List EditSize) (i : ℕ) (d : EditSize) (numbers bytes : ℕ) → i < length sizes
    → all_are_taken (drop i sizes) numbers bytes ≡ (nat_le (get_or sizes i d).numbers numbers && (nat_le (get_or sizes i d).bytes bytes && all_are_taken (drop (i + 1) sizes) (numbers - (get_or sizes i d).numbers) (bytes - (get_or sizes i d).bytes)))
taken_more sizes i d numbers bytes l = ap (λ rest. all_are_taken rest numbers bytes) (drop_more sizes i d l)

behind : (a b : Bool) → a && b ≡ true → b ≡ true
behind true b e = e
behind false b e = absurd (cc)

-- so those behind it do
pub taken_next : (sizes : List EditSize) (i : ℕ) (d : EditSize) (numbers bytes : List ℕ) → i < length sizes → all_are_taken (drop i sizes) (length numbers) (length bytes) ≡ true
    → all_are_taken (drop (i + 1) sizes) (length (drop (get_or sizes i d).numbers numbers)) (length (drop (get_or sizes i d).bytes bytes)) ≡ true
taken_next sizes i d numbers bytes l taken =
    let size : EditSize = get_or sizes i d in
    let rest : Bool = all_are_taken (drop (i + 1) sizes) (length numbers - size.numbers) (length bytes - size.bytes) in
    let both = behind (nat_le size.numbers (length numbers)) (nat_le size.bytes (length bytes) && rest) (sym (taken_more sizes i d (length numbers) (length bytes) l) ∙ taken) in
    ap (λ n. all_are_taken (drop (i + 1) sizes) n (length (drop size.bytes bytes))) (length-drop size.numbers numbers)
    ∙ ap (λ n. all_are_taken (drop (i + 1) sizes) (length numbers - size.numbers) n) (length-drop size.bytes bytes)
    ∙ behind (nat_le size.bytes (length bytes)) rest both

-- ---- edits of a value

left_more : (header : Header) (sizes : List EditSize) (i : ℕ) (d : EditSize) (numbers bytes value : List ℕ) (count : ℕ) → i < length sizes
    → edits_left header (drop i sizes) numbers bytes value (suc count)
    ≡ (header_written header (Some value) (get_or sizes i d).tuples (take (get_or sizes i d).numbers numbers) (buffers [] [] (take (get_or sizes i d).bytes bytes))
    >>= λ left. edits_left header (drop (i + 1) sizes) (drop (get_or sizes i d).numbers numbers) (drop (get_or sizes i d).bytes bytes) left count)
left_more header sizes i d numbers bytes value count l = ap (λ rest. edits_left header rest numbers bytes value (suc count)) (drop_more sizes i d l)

-- what the first edits leave is gone on from by those behind them
pub record GoesOn (header : Header) (sizes : List EditSize) (numbers bytes value : List ℕ) (i : ℕ) (numbers_left bytes_left now : List ℕ) : Type 0 where
  pub on : (k : ℕ) → edits_left header sizes numbers bytes value (i + k) ≡ edits_left header (drop i sizes) numbers_left bytes_left now k

module _ (header : Header) (sizes : List EditSize) (numbers bytes value : List ℕ) where
  module _ (i : ℕ) (numbers_left bytes_left now : List ℕ) (goes : GoesOn header sizes numbers bytes value i numbers_left bytes_left now) where
    -- so far these are left
    pub so_far : edits_left header sizes numbers bytes value i ≡ Ok now
    so_far = let e : i ≡ i + 0 = omega arith in ap (edits_left header sizes numbers bytes value) e ∙ goes.on 0

    module _ (d : EditSize) (l : i < length sizes) where
      abbrev size : EditSize
      size = get_or sizes i d

      abbrev next : Result (List ℕ) Cause
      next = header_written header (Some now) size.tuples (take size.numbers numbers_left) (buffers [] [] (take size.bytes bytes_left))

      step : (k : ℕ) → edits_left header sizes numbers bytes value (i + suc k) ≡ (next >>= λ left. edits_left header (drop (i + 1) sizes) (drop size.numbers numbers_left) (drop size.bytes bytes_left) left k)
      step k = goes.on (suc k) ∙ left_more header sizes i d numbers_left bytes_left now k l

      -- one edit more
      pub goes_on : (left : List ℕ) → next ≡ Ok left → GoesOn header sizes numbers bytes value (i + 1) (drop size.numbers numbers_left) (drop size.bytes bytes_left) left
      goes_on left made = record {
        on = λ k.
            let e : i + 1 + k ≡ i + suc k = omega arith in
            ap (edits_left header sizes numbers bytes value) e ∙ step k ∙ ap (λ (r : Result (List ℕ) Cause). r >>= λ left. edits_left header (drop (i + 1) sizes) (drop size.numbers numbers_left) (drop size.bytes bytes_left) left k) made;
      }

      -- the one that fails
      pub stops : (excused : Bool) (cause : Cause) → Excused excused (next ≡ Err cause) → Excused excused (edits_left header sizes numbers bytes value (suc i) ≡ Err cause)
      stops excused cause refuses = λ wants.
          let e : suc i ≡ i + suc 0 = omega arith in
          ap (edits_left header sizes numbers bytes value) e ∙ step 0 ∙ ap (λ (r : Result (List ℕ) Cause). r >>= λ left. edits_left header (drop (i + 1) sizes) (drop size.numbers numbers_left) (drop size.bytes bytes_left) left 0) (refuses wants)

-- ---- a buffer

-- a handle on a buffer never fails in a rejected write
refused_quiet : (T : Type 0) (r : Result T CodecError) (old new : BufferHandle) → IsRefusedWrite r (buffer_state old) (buffer_state new) → is_fault r ≡ false
refused_quiet T r old new (inl h) = no_fault (is_fault r) (ap (λ s. s.faults) h)
refused_quiet T r old new (inr h) = no_fault (is_fault r) (ap (λ s. s.faults) h)

-- nor in any
pub write_quiet : (T : Type 0) (r : Result T CodecError) (old new : BufferHandle) → OnErr r (IsRefusedWrite r (buffer_state old) (buffer_state new)) → is_fault r ≡ false
write_quiet T (Ok x) old new h = refl
write_quiet T (Err e) old new h = refused_quiet T (Err e) old new h

-- its bytes are what is stored afterwards
pub bytes_left : {T : Type 0} (flag : Bool) (bytes : List ℕ) (r : Result T CodecError) (left : Result (List ℕ) CodecError) → Answers memory (λ _. stored_value flag bytes) r (seen (λ value. Some value) left) → Answers memory (λ _. bytes) r left
bytes_left true bytes (Ok x) (Ok value) h = cc
bytes_left false bytes (Ok x) (Ok value) h = absurd (cc)
bytes_left flag bytes (Ok x) (Err e) h = absurd (cc)
bytes_left flag bytes (Err e) (Ok value) h = λ wants. absurd (let g = h wants in cc)
bytes_left flag bytes (Err e) (Err f) h = λ wants. let g = h wants in cc

-- which is something
pub stored_after : {T : Type 0} (flag : Bool) (bytes before : List ℕ) (r : Result T CodecError) (left : Result (List ℕ) CodecError) → Answers memory (λ _. stored_value flag bytes) r (seen (λ value. Some value) left)
    → OnErr r (true ≡ true → stored_value flag bytes ≡ stored_value true before) → flag ≡ true
stored_after true bytes before r left h kept = refl
stored_after false bytes before (Ok x) (Ok value) h kept = absurd (cc)
stored_after false bytes before (Ok x) (Err e) h kept = absurd (cc)
stored_after false bytes before (Err e) left h kept = absurd (let g = kept refl in cc)

-- and an error leaves them
pub bytes_kept : {T : Type 0} (flag : Bool) (bytes before : List ℕ) (r : Result T CodecError) → OnErr r (true ≡ true → stored_value flag bytes ≡ stored_value true before) → OnErr r (bytes ≡ before)
bytes_kept flag bytes before (Ok x) kept = tt
bytes_kept true bytes before (Err e) kept = (let g = kept refl in cc)
bytes_kept false bytes before (Err e) kept = absurd (let g = kept refl in cc)

abbrev pub first_name : GName → List Lent → GName
first_name other [] = other
first_name other (lent ∷ more) = lent.name

-- the same reference has the same name
pub same_name : (a b : GName) → whole_reference a ∷ [] ≡ whole_reference b ∷ [] → a ≡ b
same_name a b e = ap (first_name a) e

-- ---- one edit

module _ (header : Header) (before : List ℕ) (tuples : ℕ) (numbers : List ℕ) (b : Buffers) (selection : Selection) (new : Held) where
  written_by : selection_given (length header.sizes) tuples numbers ≡ Ok selection → elements_given header.data_type b ≡ Ok new → header_written header (Some before) tuples numbers b ≡ codec_call_answer (known_written (header_form header) (Some before) selection new)
  written_by means given = rw (means, given) refl

  -- what is left is what is due
  pub edit_due : (after : List ℕ) → selection_given (length header.sizes) tuples numbers ≡ Ok selection → elements_given header.data_type b ≡ Ok new → known_written (header_form header) (Some before) selection new ≡ Ok after → header_written header (Some before) tuples numbers b ≡ Ok after
  edit_due after means given left = written_by means given ∙ ap codec_call_answer left

  -- and an error is the one that is due
  pub edit_not_due : selection_given (length header.sizes) tuples numbers ≡ Ok selection → elements_given header.data_type b ≡ Ok new → (excused : Bool) (error : CodecError) → Excused excused (known_written (header_form header) (Some before) selection new ≡ Err error)
      → Excused excused (header_written header (Some before) tuples numbers b ≡ Err (of_codec error))
  edit_not_due means given excused error refuses = λ wants. written_by means given ∙ ap codec_call_answer (refuses wants)

-- ---- what is opened

demanded : (test : Bool) (cause : Cause) (x : Unit {0}) → demand test cause ≡ Ok x → test ≡ true
demanded true cause x e = refl
demanded false cause x e = absurd (cc)

answered : {A : Type 0} (r : Result A CodecError) (x : A) → codec_call_answer r ≡ Ok x → r ≡ Ok x
answered (Ok y) x e = ap (λ (z : _). Ok z) (same_value y x e)
answered (Err error) x e = absurd (cc)

pub record IsOpened (given_header : Result Header Cause) (sizes : List EditSize) (numbers bytes : ℕ) (header : Header) : Type 0 where
  pub given : given_header ≡ Ok header
  pub taken : all_are_taken sizes numbers bytes ≡ true
  pub represented : seen (λ _. tt {0}) (chain_representation known_codecs header.chain header.sizes header.data_type header.fill) ≡ Ok tt

pub opened : (given_header : Result Header Cause) (len : ℕ) (sizes : List EditSize) (numbers bytes : ℕ) (header : Header) → edits_opened given_header len sizes numbers bytes ≡ Ok header → IsOpened given_header sizes numbers bytes header
opened given_header len sizes numbers bytes header e =
    let a = step_ok (given_header) _ header e in
    let b = step_ok (demand (all_are_taken sizes numbers bytes) Argument) _ header a.2 in
    let c = step_ok (codec_call_answer (edits_in_place a.0 len)) _ header b.2 in
    let d = step_ok (demand c.0 NotInPlace) _ header c.2 in
    let r = step_ok (chain_representation known_codecs a.0.chain a.0.sizes a.0.data_type a.0.fill) _ c.0 (answered (edits_in_place a.0 len) c.0 c.1) in
    let same : a.0 ≡ header = same_value a.0 header d.2 in
    subst (λ (h : Header). IsOpened given_header sizes numbers bytes h) same
    (record { given = a.1; taken = demanded (all_are_taken sizes numbers bytes) Argument b.0 b.1; represented = ap (seen (λ (r : BytesRepresentation). tt {0})) r.1 })

-- the construction of an encoder fails only for lack of memory
pub refused_by_memory : {A : Type 0} (r : Result A CodecError) (e : CodecError) (P : Type 0) → seen (λ _. tt {0}) r ≡ Ok tt → Excused (memory e) (seen (λ _. tt {0}) r ≡ Err e) → Excused (memory e) P
refused_by_memory r e P is refuses = λ wants. absurd (let g = refuses wants in cc)

-- so none is made then
pub none_made : (form : ChunkHeader) (before after : List ℕ) (edits : Edits) (error : CodecError) → after ≡ before → IsRepresented form
    → Excused (memory error) (seen (λ _. tt {0}) (chain_representation known_codecs (header_seen form).chain (header_seen form).sizes (header_seen form).data_type (header_seen form).fill) ≡ Err error)
    → EditsInOrder form before after edits (record { done = 0; refusal = Some (of_codec error) })
none_made form before after edits error same is refuses =
    let header = header_seen form in
    record {
      made = ap (λ (v : List ℕ). Ok v) (sym same);
      all = tt;
      refused = refused_by_memory (chain_representation known_codecs header.chain header.sizes header.data_type header.fill) error _ is refuses;
    }

-- ---- of a header's chunk

module _ (given_header : Result Header Cause) (before after : List ℕ) (edits : Edits) (form : ChunkHeader) (outcome : EditsOutcome) (given : edits_opened given_header (length before) edits.sizes.now (length edits.numbers.now) (length edits.bytes.now) ≡ Ok (header_seen form)) where
  by_header : (count : ℕ) → edited given_header edits.sizes.now edits.numbers.now edits.bytes.now before count ≡ edits_left (header_seen form) edits.sizes.now edits.numbers.now edits.bytes.now before count
  by_header count = ap (λ (r : Result Header Cause). r >>= λ header. edits_left header edits.sizes.now edits.numbers.now edits.bytes.now before count) given

  all_made : (refusal : Option Cause) (done : ℕ) → edits_left (header_seen form) edits.sizes.now edits.numbers.now edits.bytes.now before done ≡ Ok after → IfNone refusal (done ≡ length edits.sizes.now)
      → IfNone refusal ((edited given_header edits.sizes.now edits.numbers.now edits.bytes.now before (length edits.sizes.now) ≡ Ok after) × (done ≡ length edits.sizes.now))
  all_made None done made all = (by_header (length edits.sizes.now) ∙ ap (edits_left (header_seen form) edits.sizes.now edits.numbers.now edits.bytes.now before) (sym all) ∙ made, all)
  all_made (Some cause) done made all = tt

  next_refused : (refusal : Option Cause) (done : ℕ) → IfSome refusal (λ cause. Excused (cause_memory cause) (edits_left (header_seen form) edits.sizes.now edits.numbers.now edits.bytes.now before (suc done) ≡ Err cause))
      → IfSome refusal (λ cause. Excused (cause_memory cause) (edited given_header edits.sizes.now edits.numbers.now edits.bytes.now before (suc done) ≡ Err cause))
  next_refused None done refuses = tt
  next_refused (Some cause) done refuses = λ wants. by_header (suc done) ∙ refuses wants

  -- what edits give of the header that was read, they give of its text
  pub edits_opened_made : EditsInOrder form before after edits outcome → EditsValue given_header before after edits outcome
  edits_opened_made runs = record {
    made = inr (by_header outcome.done ∙ runs.made);
    all = all_made outcome.refusal outcome.done runs.made runs.all;
    refused = next_refused outcome.refusal outcome.done runs.refused;
  }

-- where nothing is opened, this is what is due of any edit
pub edits_not_opened : (given_header : Result Header Cause) (sizes : List EditSize) (numbers bytes value : List ℕ) (count : ℕ) (cause : Cause) → Excused (cause_memory cause) (edits_opened given_header (length value) sizes (length numbers) (length bytes) ≡ Err cause)
    → Excused (cause_memory cause) (edited given_header sizes numbers bytes value count ≡ Err cause)
edits_not_opened given_header sizes numbers bytes value count cause refuses = λ wants.
    ap (λ (r : Result Header Cause). r >>= λ header. edits_left header sizes numbers bytes value count) (refuses wants)

-- ---- returned

pub none_of : {A : Type 0} (r : Option A) (P : Type 0) → r ≡ None → IfNone r P → P
none_of None P is h = h
none_of (Some x) P is h = absurd (cc)

pub some_of : {A : Type 0} (r : Option A) (x : A) (P : A → Type 0) → r ≡ Some x → IfSome r P → P x
some_of None x P is h = absurd (cc)
some_of (Some y) x P is h = let e : y ≡ x = cc in subst (λ (z : _). P z) e h

-- all edits are made
pub edits_told : (given_header : Result Header Cause) (sizes : List EditSize) (numbers bytes old new : List ℕ) (done : ℕ) → edited given_header sizes numbers bytes old (length sizes) ≡ Ok new → done ≡ length sizes → TellsEdits given_header sizes numbers bytes old new 0 done
edits_told given_header sizes numbers bytes old new done made all = inl (made, refl, all)

-- one fails
pub edit_refused : (given_header : Result Header Cause) (sizes : List EditSize) (numbers bytes old new : List ℕ) (done : ℕ) (cause : Cause) (code : ℕ) → HasEdits given_header sizes numbers bytes old new done
    → Excused (cause_memory cause) (edited given_header sizes numbers bytes old (suc done) ≡ Err cause) → code ≡ cause_code cause → TellsEdits given_header sizes numbers bytes old new code done
edit_refused given_header sizes numbers bytes old new done cause code has gives is = inr (rw is (refused cause (edited given_header sizes numbers bytes old (suc done)) gives), has)
