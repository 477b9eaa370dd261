-- What is due to a read of a value of which pieces were fetched.
use Rattle.std.proofs.Common.{◌≡◌, ◌⊎◌, ℕ, true, false, Bool, List, Some, length, Result, Ok, Err, IsOkAnd, inl, inr, refl, sym, ap, ◌∙◌, subst}
use Rattle.zarrs_chunk.specs.Answer.{Excused, fault, memory, memory_or_fault, ◌>>=◌}
use Rattle.zarrs_chunk.specs.Selection.{Selection}
use Rattle.zarrs_chunk.specs.declared.codec_error.CodecError.{CodecError}
use Rattle.zarrs_data_type.specs.Element.{Chunk}
use Rattle.zarrs_array_bytes.specs.Held.{Held}
use Rattle.zarrs_array_bytes.specs.Tight.{IsTight}
use Rattle.zarrs_array_bytes.specs.Validity.{Holds}
use Rattle.zarrs_json.specs.KnownBytesCodec.{known_codecs}
use Rattle.zarrs_json.specs.Header.{Header, header_form}
use Rattle.zarrs_codecs.proofs.MadeCoders.{excused_less}
use Rattle.zarrs_lent_handles.specs.Elsewhere.{own_bytes}
use Rattle.zarrs_lent_handles.proofs.ElsewhereLemmas.{each_has_pieces}
use Rattle.zarrs_lent_handles.specs.Pieces.{PlainPiece, HasPieces, are_apart, are_at_hand}
use Rattle.zarrs_codecs.specs.PlannedReads.{ArePlanned}
use Rattle.zarrs_c_calls.specs.Buffers.{Buffers, Room, crossed}
use Rattle.zarrs_c_calls.specs.Codes.{IsRefusal, cause_code, cause_memory, codec_call_answer}
use Rattle.zarrs_c_calls.specs.Fetched.{HasFetched, HasPlannedPieces, TellsOrLacks, TellsPieces, cause_lacks, memory_or_lack, pieces_given, pieces_read}
use Rattle.zarrs_c_calls.specs.LackingByte.{LacksByte, apart_read}
use Rattle.zarrs_c_calls.specs.Reads.{form_read, part_read}
use Rattle.zarrs_c_calls.specs.Selections.{selection_given}
use Rattle.zarrs_c_calls.specs.Told.{Elements, HoldsThese, ToldParts}
use Rattle.zarrs_c_calls.specs.declared.cause.Cause.{Cause}
use Rattle.zarrs_c_calls.specs.declared.sizes.Sizes.{Sizes}
use Rattle.zarrs_c_calls.proofs.AnswerLemmas.{elements_due, of_codec, read_by, read_due, read_refused, typed}
use Rattle.zarrs_c_calls.proofs.CodeLemmas.{lacking, refused}
use Rattle.zarrs_c_calls.proofs.FetchedLemmas.{parts_alike}
use Rattle.zarrs_c_calls.proofs.LackingLemmas.{is_read, not_lacking}
use Rattle.zarrs_c_calls.proofs.TellLemmas.{elements_refused}

-- ---- where the header, the selection and the pieces are read

pieces_by : (elsewhere : ℕ → ℕ) (given_header : Result Header Cause) (len : ℕ) (ranges fetched : List ℕ) (tuples : ℕ) (numbers : List ℕ) (header : Header) (selection : Selection) (pieces : List PlainPiece) → given_header ≡ Ok header → selection_given (length header.sizes) tuples numbers ≡ Ok selection
    → pieces_given ranges fetched ≡ Ok pieces → pieces_read elsewhere given_header len ranges fetched tuples numbers ≡ (codec_call_answer (apart_read elsewhere (header_form header) len pieces selection) >>= typed header.data_type)
pieces_by elsewhere given_header len ranges fetched tuples numbers header selection pieces e f g = rw (e, f, g) refl

ok_same : {A E : Type 0} (r : Result A E) (a b : A) → r ≡ Ok a → r ≡ Ok b → a ≡ b
ok_same r a b e f = (let g = sym e ∙ f in cc)

-- what is planned of a selection is at hand, in pieces that a value has
record PlannedHere (header : Header) (selection : Selection) (pieces : List PlainPiece) (len : ℕ) (value : List ℕ) : Type 0 where
  planned : List ℕ
  stand_apart : are_apart len 0 pieces ≡ true
  planned_are : ArePlanned known_codecs (header_form header) selection planned
  at_hand : are_at_hand pieces planned ≡ true
  has : HasPieces len pieces value

module _ (elsewhere : ℕ → ℕ) (given_header : Result Header Cause) (len : ℕ) (ranges fetched : List ℕ) (tuples : ℕ) (numbers : List ℕ) (header : Header) (reads : given_header ≡ Ok header) where
  header_same : (value : List ℕ) (h : HasPlannedPieces given_header len ranges fetched tuples numbers value) → h.header ≡ header
  header_same value h = ok_same (given_header) h.header header h.header_is reads

  given_again : (value : List ℕ) (h : HasPlannedPieces given_header len ranges fetched tuples numbers value) → selection_given (length header.sizes) tuples numbers ≡ Ok h.selection
  given_again value h = ap (λ (x : Header). selection_given (length x.sizes) tuples numbers) (sym (header_same value h)) ∙ h.selection_is

  module _ (selection : Selection) (pieces : List PlainPiece) (means : selection_given (length header.sizes) tuples numbers ≡ Ok selection) (given : pieces_given ranges fetched ≡ Ok pieces) where
    pieces_same : (value : List ℕ) (h : HasPlannedPieces given_header len ranges fetched tuples numbers value) → h.pieces ≡ pieces
    pieces_same value h = ok_same (pieces_given ranges fetched) h.pieces pieces h.pieces_are given

    planned_here : (value : List ℕ) → HasPlannedPieces given_header len ranges fetched tuples numbers value → PlannedHere header selection pieces len value
    planned_here value h =
        let of_own : PlannedHere h.header h.selection h.pieces len value = record { planned = h.planned; stand_apart = h.stand_apart; planned_are = h.planned_are; at_hand = h.at_hand; has = h.has } in
        let same : h.selection ≡ selection = ok_same (selection_given (length header.sizes) tuples numbers) h.selection selection (given_again value h) means in
        subst (λ (x : Header). PlannedHere x selection pieces len value) (header_same value h)
        (subst (λ (x : Selection). PlannedHere h.header x pieces len value) same
        (subst (λ (x : List PlainPiece). PlannedHere h.header h.selection x len value) (pieces_same value h) of_own))

    of_pieces : pieces_read elsewhere given_header len ranges fetched tuples numbers ≡ (codec_call_answer (apart_read elsewhere (header_form header) len pieces selection) >>= typed header.data_type)
    of_pieces = pieces_by elsewhere given_header len ranges fetched tuples numbers header selection pieces reads means given

    -- a container that holds what is read of the pieces holds what is due
    pub pieces_due : (held : Held) → IsOkAnd (apart_read elsewhere (header_form header) len pieces selection) (Holds header.data_type held) → IsTight header.data_type held → IsOkAnd (pieces_read elsewhere given_header len ranges fetched tuples numbers) (HoldsThese held)
    pieces_due held h tight =
        subst (λ (x : Result Elements Cause). IsOkAnd x (HoldsThese held)) (sym of_pieces) (elements_due header.data_type held (apart_read elsewhere (header_form header) len pieces selection) h tight)

    -- what is read of the pieces is what is read of a value that has them, where the planned bytes are among them
    read_alike : (value : List ℕ) → HasPlannedPieces given_header len ranges fetched tuples numbers value → apart_read elsewhere (header_form header) len pieces selection ≡ form_read (header_form header) (Some value) selection
    read_alike value h =
        let here = planned_here value h in
        is_read elsewhere (header_form header) len pieces selection here.stand_apart
        ∙ parts_alike elsewhere (header_form header) len pieces value here.planned selection here.planned_are here.has here.at_hand

    pub alike_due : (value : List ℕ) (held : Held) → HasPlannedPieces given_header len ranges fetched tuples numbers value → IsOkAnd (apart_read elsewhere (header_form header) len pieces selection) (Holds header.data_type held) → IsTight header.data_type held
        → IsOkAnd (part_read given_header (Some value) tuples numbers) (HoldsThese held)
    alike_due value held h holds tight =
        read_due given_header (Some value) (Some value) tuples numbers header selection reads means refl held (subst (λ (x : Result Chunk CodecError). IsOkAnd x (Holds header.data_type held)) (read_alike value h) holds) tight

    pub alike_refused : (value : List ℕ) (error : CodecError) → HasPlannedPieces given_header len ranges fetched tuples numbers value → (fault error ≡ true → LacksByte elsewhere (header_form header) len pieces selection)
        → Excused (memory_or_fault error) (apart_read elsewhere (header_form header) len pieces selection ≡ Err error) → Excused (memory error) (part_read given_header (Some value) tuples numbers ≡ Err (of_codec error))
    alike_refused value error h lacking refuses =
        let here = planned_here value h in
        let quiet : fault error ≡ false = not_lacking elsewhere (header_form header) len pieces selection here.planned (fault error) here.planned_are here.at_hand lacking in
        let of_value : Excused (memory_or_fault error) (form_read (header_form header) (Some value) selection ≡ Err error) = subst (λ (x : Result Chunk CodecError). Excused (memory_or_fault error) (x ≡ Err error)) (read_alike value h) refuses in
        read_refused given_header (Some value) (Some value) tuples numbers header selection reads means refl (memory error) error
        (excused_less (memory error) (fault error) (form_read (header_form header) (Some value) selection ≡ Err error) quiet of_value)

-- ---- the value itself

-- what is read of pieces that a value has is what is read of the value, where its own bytes stand elsewhere
module _ (given_header : Result Header Cause) (len : ℕ) (ranges fetched : List ℕ) (tuples : ℕ) (numbers value : List ℕ) (has : HasFetched len ranges fetched value) where
  each_selected : (header : Header) (s : Result Selection Cause) → given_header ≡ Ok header → selection_given (length header.sizes) tuples numbers ≡ s → pieces_read (own_bytes value) given_header len ranges fetched tuples numbers ≡ part_read given_header (Some value) tuples numbers
  each_selected header (Err cause) reads means = rw (reads, means) refl
  each_selected header (Ok selection) reads means =
      let same = is_read (own_bytes value) (header_form header) len has.pieces selection has.stand_apart ∙ ap (λ (v : List ℕ). form_read (header_form header) (Some v) selection) (each_has_pieces len has.pieces value has.has) in
      pieces_by (own_bytes value) given_header len ranges fetched tuples numbers header selection has.pieces reads means has.pieces_are
      ∙ ap (λ (x : Result Chunk CodecError). codec_call_answer x >>= typed header.data_type) same
      ∙ sym (read_by given_header (Some value) tuples numbers header selection reads means)

  each_read : (h : Result Header Cause) → given_header ≡ h → pieces_read (own_bytes value) given_header len ranges fetched tuples numbers ≡ part_read given_header (Some value) tuples numbers
  each_read (Err cause) reads = rw reads refl
  each_read (Ok header) reads = each_selected header (selection_given (length header.sizes) tuples numbers) reads refl

  pub told_each : (Lacking : Type 0) (code : ℕ) (old new : Room) → TellsOrLacks Lacking (pieces_read (own_bytes value) given_header len ranges fetched tuples numbers) code old new → TellsOrLacks Lacking (part_read given_header (Some value) tuples numbers) code old new
  told_each Lacking code old new told =
      subst (λ (due : Result Elements Cause). TellsOrLacks Lacking due code old new) (each_read (given_header) refl) told

-- ---- codes

refused_or_lacks : (cause : Cause) (expected : Result Elements Cause) (Lacking : Type 0) → Excused (memory_or_lack cause) (expected ≡ Err cause) → (cause_lacks cause ≡ true → (expected ≡ Err cause) ⊎ Lacking) → IsRefusal expected (cause_code cause) ⊎ ((cause_code cause ≡ 11) × Lacking)
refused_or_lacks cause expected Lacking gives lacks = by (cause_lacks cause) refl
  where
    said : cause_lacks cause ≡ true → (expected ≡ Err cause) ⊎ Lacking → IsRefusal expected (cause_code cause) ⊎ ((cause_code cause ≡ 11) × Lacking)
    said e (inl is) = inl (inl (cause, is, refl))
    said e (inr lack) = inr (lacking cause e, lack)

    by : (t : Bool) → cause_lacks cause ≡ t → IsRefusal expected (cause_code cause) ⊎ ((cause_code cause ≡ 11) × Lacking)
    by true e = said e (lacks e)
    by false e = inl (refused cause expected (λ m. gives (rw (m, e) refl)))

pub pieces_told : (held : Held) (expected : Result Elements Cause) (Lacking : Type 0) (code : ℕ) (old new : Buffers) (needed_old needed_new : Sizes) → IsOkAnd expected (HoldsThese held) → ToldParts (crossed held) code old new needed_new
    → TellsOrLacks Lacking expected code (record { parts = old; needed = needed_old }) (record { parts = new; needed = needed_new })
pieces_told held (Ok elements) Lacking code old new needed_old needed_new holds told = inl (elements, held, refl, holds, told)
pieces_told held (Err cause) Lacking code old new needed_old needed_new holds told = absurd holds

pub pieces_refused : (cause : Cause) (expected : Result Elements Cause) (Lacking : Type 0) (code : ℕ) (old : Buffers) (needed : Sizes) → Excused (memory_or_lack cause) (expected ≡ Err cause) → (cause_lacks cause ≡ true → (expected ≡ Err cause) ⊎ Lacking) → code ≡ cause_code cause
    → TellsOrLacks Lacking expected code (record { parts = old; needed = needed }) (record { parts = old; needed = needed })
pieces_refused cause expected Lacking code old needed gives lacks is = inr (rw is (refused_or_lacks cause expected Lacking gives lacks), refl, refl)

-- where no header is given
pub header_refused : (given_header : Result Header Cause) (cause : Cause) (len : ℕ) (ranges fetched : List ℕ) (tuples : ℕ) (numbers value : List ℕ) (code : ℕ) (old : Buffers) (needed : Sizes) → Excused (cause_memory cause) (given_header ≡ Err cause) → code ≡ cause_code cause
    → TellsPieces given_header len ranges fetched tuples numbers value code (record { parts = old; needed = needed }) (record { parts = old; needed = needed })
header_refused given_header cause len ranges fetched tuples numbers value code old needed gives is = record {
  told = inr (inl (rw is (refused cause (pieces_read (own_bytes value) given_header len ranges fetched tuples numbers) (λ wants. rw (gives wants) refl))), refl, refl);
  each = λ has. inr (inl (rw is (refused cause (part_read given_header (Some value) tuples numbers) (λ wants. rw (gives wants) refl))), refl, refl);
  alike = λ other has. elements_refused cause (part_read given_header (Some other) tuples numbers) code old needed (λ wants. rw (gives wants) refl) is;
}
