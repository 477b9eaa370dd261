-- Edits of a stored chunk, one after another.
use Rattle.std.specs.Prelude.{◌≡◌, ℕ, zero, suc, ◌+◌, Bool, true, false, Option, Some, None, IfNone, IfSome, is_some, List, [], ◌∷◌, take, Result, Ok, Err, IsOkAnd, All}
use Rattle.std.specs.Option.{unwrap_or}
use Rattle.zarrs_chunk.specs.Answer.{◌>>=◌, Excused, fault, memory_or_fault, seen}
use Rattle.zarrs_chunk.specs.Indexer.{selection_of}
use Rattle.zarrs_chunk.specs.declared.codec_error.CodecError.{CodecError}
use Rattle.zarrs_data_type.specs.Element.{Chunk}
use Rattle.zarrs_codec.specs.ArrayWriter.{IsRefusedWrite}
use Rattle.zarrs_codec.specs.BytesToBytesCodec.{BytesCodecs}
use Rattle.zarrs_codec.specs.Calls.{count_more}
use Rattle.zarrs_codec.specs.ChunkEdits.{edited_chunk}
use Rattle.zarrs_codec.specs.StorageState.{StorageState}
use Rattle.zarrs_bytes.specs.PartialWrite.{filled_chunk}
use Rattle.zarrs_packbits.specs.Laws.{HasBytes}
use Rattle.zarrs_chain_meaning.specs.ChunkForm.{ChunkForm}
use Rattle.zarrs_codecs.specs.ChunkWrite.{IsStoredFor, stored_written}
use Rattle.zarrs_chain_meaning.specs.MachineBytes.{HeldHasBytes}
use Rattle.zarrs_codecs.specs.declared.partial_encoder.edits.Edit.{Edit}
use Rattle.zarrs_codecs.specs.declared.partial_encoder.edits.Edit.TheVariants.{Encode, Erase}
use Rattle.zarrs_codecs.specs.declared.partial_encoder.edits.EditOutcome.{EditOutcome}

-- ---- of chunks: the state is a chunk or nothing

-- what an edit makes of the state: the chunk with the new elements, where nothing is a chunk of fill elements; or nothing; or why the edit can't be made
abbrev pub edited_state : {B : Type 0} → ChunkForm B → Option Chunk → Edit → Result (Option Chunk) CodecError
edited_state form state (Encode indexer new) = seen (λ chunk. Some chunk) (edited_chunk form.sizes form.type (unwrap_or state (filled_chunk form.sizes form.type form.fill)) (selection_of indexer) new)
edited_state form state Erase = Ok None

-- what steps make of a start, one after another, or the first error
abbrev pub all_made : {S A : Type 0} → (S → A → Result S CodecError) → List A → S → Result S CodecError
all_made step [] start = Ok start
all_made step (one ∷ more) start = step start one >>= all_made step more

-- each number of an edit's elements is a byte
abbrev pub EditHasBytes : Edit → Type 0
EditHasBytes (Encode indexer new) = HeldHasBytes new
EditHasBytes Erase = Unit {0}

-- ---- of values

-- what an edit leaves of what is stored, or its first error
abbrev pub edited_store : {B : Type 0} → BytesCodecs B → ChunkForm B → Option (List ℕ) → Edit → Result (Option (List ℕ)) CodecError
edited_store f form stored (Encode indexer new) = seen (λ value. Some value) (stored_written f form stored (selection_of indexer) new)
edited_store f form stored Erase = Ok None

-- P holds of each chunk of bytes for which what is stored is written, and of nothing where nothing is stored; over any other value this says nothing
abbrev pub OfWritten : {B : Type 0} → BytesCodecs B → ChunkForm B → Option (List ℕ) → (Option Chunk → Type 0) → Type 0
OfWritten f form stored P = (state : Option Chunk) → IfSome state (All HasBytes) → IsStoredFor f form stored state → P state

-- Where nothing was stored before these edits, or a value that is written for a chunk of bytes, what is stored is written for the chunk as they leave it, or nothing where the last of them erases; over any other value this says nothing.
abbrev pub LeavesWritten : {B : Type 0} → BytesCodecs B → ChunkForm B → List Edit → Option (List ℕ) → Option (List ℕ) → Type 0
LeavesWritten f form edits before after =
    OfWritten f form before (λ state. IsOkAnd (all_made (edited_state form) edits state) (IsStoredFor f form after))

-- ---- which edits are accepted

-- Each of these edits in turn can be made of the state: an erase always; new elements where the indexer is in bounds, the elements fit its places, and a value is written for the chunk with them.
abbrev pub AcceptsEdits : {B : Type 0} → BytesCodecs B → ChunkForm B → List Edit → Option Chunk → Type 0
AcceptsEdits f form [] state = Unit {0}
AcceptsEdits f form (edit ∷ edits) state =
    IsOkAnd (edited_state form state edit) (λ next. ((stored : Option (List ℕ)) × IsStoredFor f form stored next) × AcceptsEdits f form edits next)

-- what may come in place of an edit's answer: of new elements a lack of memory or a failure of the handle; of an erase, which takes no memory, a failure alone
abbrev pub edit_excuse : Edit → CodecError → Bool
edit_excuse (Encode indexer new) = memory_or_fault
edit_excuse Erase = fault

-- and in place of the answer of the edit with this number
abbrev pub excuse_at : List Edit → ℕ → CodecError → Bool
excuse_at [] place = λ _. false
excuse_at (edit ∷ edits) zero = edit_excuse edit
excuse_at (edit ∷ edits) (suc place) = excuse_at edits place

-- ---- of a handle

-- what so many accepted edits leave of a handle, where this is stored afterwards: one writing call more for each, and one that was accepted
abbrev pub after_edits : ℕ → Option (List ℕ) → StorageState → StorageState
after_edits done stored state = record state {
  value = stored;
  writes = count_more done state.writes;
  accepted_writes = count_more done state.accepted_writes;
}

-- what is left where an edit was rejected behind so many accepted ones: what a rejected write leaves of that, and that itself where neither memory nor the handle was the cause; else that
abbrev pub LeavesEdits : Option CodecError → StorageState → StorageState → Type 0
LeavesEdits None accepted left = left ≡ accepted
LeavesEdits (Some refusal) accepted left =
    IsRefusedWrite {T = Unit {0}} (Err refusal) accepted left × (memory_or_fault refusal ≡ false → left ≡ accepted)

-- ---- what a list of edits gives

-- What a beginning of the edits leaves, behind which one is rejected, or none. From nothing, or from a value that is written for a chunk, what is stored is written for the chunk as the accepted edits leave it, where one of these holds: none was rejected; the handle is atomic; the rejected one made no writing call. An edit is rejected, a lack of memory and a failure of the handle aside, exactly where it can't be made of that chunk or no value is written for what it makes. Each accepted edit makes one writing call; of a rejected one is left what a rejected write leaves.
pub record RunsEdits {B : Type 0} (f : BytesCodecs B) (form : ChunkForm B) (atomic : Bool) (before after : StorageState) (edits : List Edit) (outcome : EditOutcome) : Type 0 where
  pub written : IfNone outcome.refusal (LeavesWritten f form edits before.value after.value)
  pub written_if_atomic : atomic ≡ true → LeavesWritten f form (take outcome.done edits) before.value after.value
  pub written_if_unwritten : after.writes ≡ count_more outcome.done before.writes → LeavesWritten f form (take outcome.done edits) before.value after.value
  pub accepted : OfWritten f form before.value (AcceptsEdits f form (take outcome.done edits))
  pub refused : IfSome outcome.refusal (λ e. Excused (excuse_at edits outcome.done e) (OfWritten f form before.value (λ state. ¬ AcceptsEdits f form (take (outcome.done + 1) edits) state)))
  pub cause : IfSome outcome.refusal (λ e. Excused (excuse_at edits outcome.done e) (all_made (edited_store f form) (take (outcome.done + 1) edits) before.value ≡ Err e))
  pub left : IsOkAnd (all_made (edited_store f form) (take outcome.done edits) before.value) (λ value. LeavesEdits outcome.refusal (after_edits outcome.done value before) after)
  pub kept_if_atomic : atomic ≡ true → all_made (edited_store f form) (take outcome.done edits) before.value ≡ Ok after.value

-- where the handle has sure bytes, a failure that ends a list of edits is that of a writing call, so no call failed that reads the value
abbrev pub FailsInAWrite : StorageState → StorageState → EditOutcome → Type 0
FailsInAWrite before after outcome =
    is_some before.sure ≡ true → IfSome outcome.refusal (λ e. fault e ≡ true → after.writes ≡ count_more (outcome.done + 1) before.writes)
