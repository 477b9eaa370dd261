-- What is promised of a coder of chunks in part that is over a storage handle.
use Rattle.std.specs.Prelude.{◌≡◌, ℕ, Bool, true, false, Option, Some, None, List, map, Result, Err, IfOk, IfErr, OnOk, OnErr, is_ok, replicate}
use Rattle.zarrs_chunk.specs.Answer.{Answers, AnswersBy, memory, memory_or_fault, is_fault, seen}
use Rattle.zarrs_chunk.specs.ChunkShape.{product}
use Rattle.zarrs_chunk.specs.Selection.{Selection, bounds_of, places_of}
use Rattle.zarrs_chunk.specs.declared.codec_error.CodecError.{CodecError}
use Rattle.zarrs_data_type.specs.Element.{Chunk, fill_element}
use Rattle.zarrs_data_type.specs.Form.{Form}
use Rattle.zarrs_array_bytes.specs.Elements.{select}
use Rattle.zarrs_array_bytes.specs.Held.{Held}
use Rattle.zarrs_array_bytes.specs.Validity.{Holds}
use Rattle.zarrs_codec.specs.ArrayWriter.{IsRefusedWrite}
use Rattle.zarrs_codec.specs.ChunkEdits.{data_checked, edited_chunk}
use Rattle.zarrs_codec.specs.Grammar.{Grammar}
use Rattle.zarrs_codec.specs.StorageState.{StorageState, after_reading, after_writing, apart_from_value, are_sure}

-- ---- reading

-- What is read of a selection of what is stored, and the numbers of the bytes that such a read asks for, or the first error.
pub record PartialReads : Type 0 where
  pub read : Form → Option (List ℕ) → Selection → Result Chunk CodecError
  pub plan : Form → Selection → Result (List ℕ) CodecError

-- The answer is a container of the elements at the selected places, of the chunk that the stored value stands for, or of fill elements where nothing is stored; or the first error. Only lack of memory or a failure of the handle may come in its place; a failure comes behind the errors of the selection, and never where all bytes of the read are sure.
pub record ReadsPart (G : Grammar) (P : PartialReads) (form : Form) (before : StorageState) (selection : Selection) (result : Result Held CodecError) : Type 0 where
  pub selected : (value : List ℕ) (chunk : Chunk) → before.value ≡ Some value → G.Stands form value chunk
      → AnswersBy memory_or_fault (Holds form.type) result (seen (select chunk) (places_of selection form.sizes))
  pub unstored : before.value ≡ None
      → AnswersBy memory_or_fault (Holds form.type) result (seen (map (λ _. fill_element form.type form.fill)) (places_of selection form.sizes))
  pub exact : AnswersBy memory_or_fault (Holds form.type) result (P.read form before.value selection)
  pub no_fault_if_refused : is_ok (places_of selection form.sizes) ≡ false → is_fault result ≡ false
  pub sure : IfOk (P.plan form selection) (λ numbers. are_sure before.sure numbers ≡ true → is_fault result ≡ false)

-- A reading call of a coder with this handle answered so: of the handle's state all is as it was, but for the failure that is answered; the references that are lent and what the coder is made of are the same.
pub record OnlyReads {C T L F : Type 0} (state : C → StorageState) (lent : C → L) (form : C → F) (before after : C) (result : Result T CodecError) : Type 0 where
  pub left : state after ≡ after_reading result (state before)
  pub same_reference : lent after ≡ lent before
  pub form_kept : form after ≡ form before

-- ---- writing

-- An edit of what is stored starts from this chunk: the one that the value stands for; where there is none, one of fill elements.
abbrev pub EditsFrom : Grammar → Form → Option (List ℕ) → Chunk → Type 0
EditsFrom G form None chunk = chunk ≡ replicate (product form.sizes) (fill_element form.type form.fill)
EditsFrom G form (Some value) chunk = G.Stands form value chunk

-- What is stored is the value that is written for this chunk.
abbrev pub Stores : Grammar → Form → Option (List ℕ) → Chunk → Type 0
Stores G form None chunk = ⊥
Stores G form (Some value) chunk = G.Written form value chunk

-- The value afterwards is the one that is written for the chunk with new elements at the selected places, the last write of a place standing; or the first error is returned. Only lack of memory or a failure of the handle may come in its place, a failure behind the errors of the selection and of the elements, which leave the handle as it was.
pub record EditsPart (G : Grammar) (form : Form) (written : Option (List ℕ) → Selection → Held → Result (List ℕ) CodecError) (before after : StorageState) (selection : Selection) (new : Held) (result : Result (Unit {0}) CodecError) : Type 0 where
  pub edited : (chunk : Chunk) → EditsFrom G form before.value chunk
      → AnswersBy memory_or_fault (λ _ edited. Stores G form after.value edited) result (edited_chunk form.sizes form.type chunk selection new)
  pub exact : Answers memory_or_fault (λ _. after.value) result (seen Some (written before.value selection new))
  pub indexer_first : IfErr (bounds_of selection form.sizes) (λ cause. Answers memory (λ done. done) result (Err cause))
  pub checked_first : IfErr (data_checked form.sizes form.type selection new) (λ cause. Answers memory (λ done. done) result (Err cause))
  pub untouched : IfErr (data_checked form.sizes form.type selection new) (λ _. after ≡ before)

-- A call of a coder that makes one writing call of its handle, or fails before it: of a failed call the value is as it was where the handle is atomic, and all is as it was where the error is neither lack of memory nor a failure of the handle. The references that are lent and what the coder is made of are the same.
pub record OnlyWrites {C T L F : Type 0} (state : C → StorageState) (lent : C → L) (form : C → F) (atomic : Bool) (before after : C) (result : Result T CodecError) : Type 0 where
  pub one_write : OnOk result (apart_from_value (state after) ≡ after_writing result (state before))
  pub refused : OnErr result (IsRefusedWrite result (state before) (state after))
  pub kept_if_atomic : OnErr result (atomic ≡ true → (state after).value ≡ (state before).value)
  pub unharmed : IfErr result (λ cause. memory_or_fault cause ≡ false → state after ≡ state before)
  pub same_reference : lent after ≡ lent before
  pub form_kept : form after ≡ form before

-- The same of a call that is given the handle alone.
abbrev pub HandleWrites : {H T L : Type 0} → (H → StorageState) → (H → L) → Bool → (before after : H) → Result T CodecError → Type 0
HandleWrites state lent atomic before after result = OnlyWrites {F = Unit {0}} state lent (λ _. tt) atomic before after result
