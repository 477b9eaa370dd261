-- What is due to a read of a list of selections.
use Rattle.std.proofs.Common.{◌≡◌, ℕ, ◌+◌, ◌<◌, nat_le, Bool, true, false, List, [], ◌∷◌, ◌++◌, length, take, drop, get_or, Option, Result, Ok, Err, IsOkAnd, inl, inr, refl, sym, ap, ◌∙◌, subst, append_assoc}
use Rattle.std.specs.Prelude.{is_ok}
use Rattle.std.proofs.lemmas.List.{drop_more}
use Rattle.zarrs_chunk.specs.Answer.{◌>>=◌, Excused, demand}
use Rattle.zarrs_chunk.specs.Selection.{Selection}
use Rattle.zarrs_chunk.specs.declared.codec_error.CodecError.{CodecError}
use Rattle.zarrs_array_bytes.specs.Held.{Held}
use Rattle.zarrs_array_bytes.specs.Tight.{IsTight}
use Rattle.zarrs_array_bytes.specs.Validity.{Holds}
use Rattle.zarrs_json.specs.Header.{Header, header_form}
use Rattle.zarrs_c_calls.specs.Buffers.{Buffers}
use Rattle.zarrs_c_calls.specs.Codes.{cause_code, cause_memory, codec_call_answer}
use Rattle.zarrs_c_calls.specs.JoinedParts.{ToldJoined, joined_parts}
use Rattle.zarrs_c_calls.specs.EachRead.{FirstIsGiven, front_given}
use Rattle.zarrs_c_calls.specs.ManyReads.{HoldEach, TellsMany, front_read, selections_read}
use Rattle.zarrs_c_calls.specs.Reads.{form_read}
use Rattle.zarrs_c_calls.specs.Selections.{selection_given}
use Rattle.zarrs_c_calls.specs.Told.{Elements, HoldsThese}
use Rattle.zarrs_c_calls.specs.declared.cause.Cause.{Cause}
use Rattle.zarrs_c_calls.specs.declared.cause.Cause.TheVariants.{Argument}
use Rattle.zarrs_c_calls.specs.declared.sizes.SelectionSize.{SelectionSize}
use Rattle.zarrs_c_calls.specs.declared.sizes.Sizes.{Sizes}
use Rattle.zarrs_c_calls.proofs.AnswerLemmas.{elements_due, elements_not_due, of_codec, typed}
use Rattle.zarrs_c_calls.proofs.CodeLemmas.{refused}

-- ---- one selection

-- what is answered where something is
pub ok_of : {A E : Type 0} (r : Result A E) → is_ok r ≡ true → (a : A) × (r ≡ Ok a)
ok_of (Ok a) e = (a, refl)
ok_of (Err error) e = absurd (cc)

at_front : {A B : Type 0} (test : Bool) (g : Result A Cause) (k : A → Result B Cause) (a : A) → (demand test Argument >>= λ _. g) ≡ Ok a → (demand test Argument >>= λ _. g >>= k) ≡ k a
at_front true g k a e = ap (λ r. r >>= k) e
at_front false g k a e = absurd (cc)

-- where its numbers are read
pub front_by : (header : Header) (stored : Option (List ℕ)) (size : SelectionSize) (numbers : List ℕ) (selection : Selection) → front_given header size numbers ≡ Ok selection
    → front_read header stored size numbers ≡ (codec_call_answer (form_read (header_form header) stored selection) >>= typed header.data_type)
front_by header stored size numbers selection e =
    at_front (nat_le size.numbers (length numbers)) (selection_given (length header.sizes) size.tuples (take size.numbers numbers)) (λ s. codec_call_answer (form_read (header_form header) stored s) >>= typed header.data_type) selection e

module _ (header : Header) (stored : Option (List ℕ)) (size : SelectionSize) (numbers : List ℕ) (selection : Selection) (given : front_given header size numbers ≡ Ok selection) where
  -- a container that holds what is read holds what is due
  pub front_due : (held : Held) → IsOkAnd (form_read (header_form header) stored selection) (Holds header.data_type held) → IsTight header.data_type held → IsOkAnd (front_read header stored size numbers) (HoldsThese held)
  front_due held h tight =
      subst (λ (x : Result Elements Cause). IsOkAnd x (HoldsThese held)) (sym (front_by header stored size numbers selection given)) (elements_due header.data_type held (form_read (header_form header) stored selection) h tight)

  -- and an error is the one that is due
  pub front_refused : (excused : Bool) (error : CodecError) → Excused excused (form_read (header_form header) stored selection ≡ Err error) → Excused excused (front_read header stored size numbers ≡ Err (of_codec error))
  front_refused excused error h = λ wants. front_by header stored size numbers selection given ∙ elements_not_due header.data_type error (form_read (header_form header) stored selection) (h wants)

-- ---- one after another

-- the elements so far, and those of the selections that are left
abbrev pub in_front : List Elements → Result (List Elements) Cause → Result (List Elements) Cause
in_front front (Ok more) = Ok (front ++ more)
in_front front (Err cause) = Err cause

one_in_front : (front : List Elements) (elements : Elements) (rest : Result (List Elements) Cause) → in_front (front ++ elements ∷ []) rest ≡ in_front front (rest >>= λ more. Ok (elements ∷ more))
one_in_front front elements (Ok more) = ap (λ (es : List Elements). Ok es) (append_assoc front (elements ∷ []) more)
one_in_front front elements (Err cause) = refl

hold_one_more : (helds : List Held) (front : List Elements) (held : Held) (elements : Elements) → HoldEach helds front → HoldsThese held elements → HoldEach (helds ++ held ∷ []) (front ++ elements ∷ [])
hold_one_more [] [] held elements each holds = (holds, tt)
hold_one_more [] (first ∷ others) held elements each holds = absurd each
hold_one_more (first ∷ more) [] held elements each holds = absurd each
hold_one_more (first ∷ more) (one ∷ others) held elements each holds = (each.0, hold_one_more more others held elements each.1 holds)

found : {A E : Type 0} (r : Result A E) (P : A → Type 0) → IsOkAnd r P → (a : A) × (r ≡ Ok a) × P a
found (Ok a) P h = (a, refl, h)
found (Err error) P h = absurd h

-- the containers so far hold the elements of the first selections, and those that are left are read behind them
pub record ReadsOn (header : Header) (stored : Option (List ℕ)) (sizes : List SelectionSize) (numbers : List ℕ) (helds : List Held) (i : ℕ) (left : List ℕ) : Type 0 where
  pub front : List Elements
  pub holds : HoldEach helds front
  pub on : in_front front (selections_read header stored (drop i sizes) left) ≡ selections_read header stored sizes numbers

module _ (header : Header) (stored : Option (List ℕ)) (sizes : List SelectionSize) (numbers : List ℕ) where
  module _ (helds : List Held) (i : ℕ) (left : List ℕ) (reads : ReadsOn header stored sizes numbers helds i left) where
    read_more : (d : SelectionSize) → i < length sizes
        → selections_read header stored (drop i sizes) left ≡ (front_read header stored (get_or sizes i d) left >>= λ first. selections_read header stored (drop (i + 1) sizes) (drop (get_or sizes i d).numbers left) >>= λ more. Ok (first ∷ more))
    read_more d l = ap (λ rest. selections_read header stored rest left) (drop_more sizes i d l)

    -- one more is read
    pub reads_next : (d : SelectionSize) (held : Held) → i < length sizes → IsOkAnd (front_read header stored (get_or sizes i d) left) (HoldsThese held) → ReadsOn header stored sizes numbers (helds ++ held ∷ []) (i + 1) (drop (get_or sizes i d).numbers left)
    reads_next d held l h =
        let size : SelectionSize = get_or sizes i d in
        let one = found (front_read header stored size left) (HoldsThese held) h in
        let rest : Result (List Elements) Cause = selections_read header stored (drop (i + 1) sizes) (drop size.numbers left) in
        record {
          front = reads.front ++ one.0 ∷ [];
          holds = hold_one_more helds reads.front held one.0 reads.holds one.2;
          on = one_in_front reads.front one.0 rest
              ∙ ap (λ (r : Result Elements Cause). in_front reads.front (r >>= λ first. rest >>= λ more. Ok (first ∷ more))) (sym one.1)
              ∙ ap (in_front reads.front) (sym (read_more d l))
              ∙ reads.on;
        }

-- where no decoder is made, the first selection fails with the same error
pub first_refused : (header : Header) (stored : Option (List ℕ)) (sizes : List SelectionSize) (numbers : List ℕ) (excused : Bool) (error : CodecError) → FirstIsGiven header sizes numbers
    → ((selection : Selection) → Excused excused (form_read (header_form header) stored selection ≡ Err error)) → Excused excused (selections_read header stored sizes numbers ≡ Err (of_codec error))
first_refused header stored [] numbers excused error first refuses = absurd first
first_refused header stored (size ∷ sizes) numbers excused error first refuses = λ wants.
    let s = ok_of (front_given header size numbers) first in
    let rest : Result (List Elements) Cause = selections_read header stored sizes (drop size.numbers numbers) in
    ap (λ (r : Result Elements Cause). r >>= λ one. rest >>= λ more. Ok (one ∷ more)) (front_refused header stored size numbers s.0 s.1 excused error (refuses s.0) wants)

-- ---- returned

-- containers of the elements that are due are returned
pub many_told : (helds : List Held) (expected : Result (List Elements) Cause) (code : ℕ) (old new : Buffers) (needed_old needed_new : Sizes) → IsOkAnd expected (HoldEach helds) → ToldJoined (joined_parts helds) code old new needed_new
    → TellsMany expected code (record { parts = old; needed = needed_old }) (record { parts = new; needed = needed_new })
many_told helds (Ok answers) code old new needed_old needed_new hold told = inl (answers, helds, refl, hold, told)
many_told helds (Err cause) code old new needed_old needed_new hold told = absurd hold

-- an error is returned in place of them
pub many_refused : (cause : Cause) (expected : Result (List Elements) Cause) (code : ℕ) (old : Buffers) (needed : Sizes) → Excused (cause_memory cause) (expected ≡ Err cause) → code ≡ cause_code cause → TellsMany expected code (record { parts = old; needed = needed }) (record { parts = old; needed = needed })
many_refused cause expected code old needed gives is = inr (rw is (refused cause expected gives), refl, refl)
