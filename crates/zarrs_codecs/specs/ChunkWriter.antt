-- What a reader of chunks writes, and what its private calls for that give.
use Rattle.std.specs.Prelude.{◌≡◌, ℕ, Option, None, Some, List, Result, Ok, Err}
use Rattle.std.proofs.Common.{Global}
use Rattle.std.specs.declared.borrow.CowSlice.{CowSlice}
use Rattle.zarrs_chunk.specs.Answer.{Answers, Excused, Gives, memory, memory_or_fault, seen}
use Rattle.zarrs_chunk.specs.ChunkShape.{product}
use Rattle.zarrs_chunk.specs.Region.{Region}
use Rattle.zarrs_chunk.specs.Runs.{joined_runs, AreApart, AreFilled, EndWithin}
use Rattle.zarrs_chunk.specs.Selection.{Selection, subset}
use Rattle.zarrs_chunk.specs.declared.codec_error.CodecError.{CodecError}
use Rattle.zarrs_data_type.specs.declared.endianness.Endianness.{Endianness}
use Rattle.zarrs_array_bytes.specs.Elements.{elements}
use Rattle.zarrs_array_bytes.specs.Held.{Held, items_of}
use Rattle.zarrs_codec.specs.BytesToBytesCodec.{BytesCodecs}
use Rattle.zarrs_codec.specs.Calls.{Calls, MakesWrite}
use Rattle.zarrs_codec.specs.StorageState.{StorageState, value_indices}
use Rattle.zarrs_codecs.specs.ChunkCoder.{coder_form, coder_standing}
use Rattle.zarrs_codecs.specs.ChunkWrite.{FitsRuns, LeavesThere, WritesChunk, form_checked, value_left}
use Rattle.zarrs_codecs.specs.declared.chunk_coder.ChunkCoder.{ChunkCoder}
use Rattle.zarrs_chain_meaning.specs.CodecMeaning.{chain_meaning}
use Rattle.zarrs_codec.specs.ChunkEdits.{with_elements}

-- what its bytes-to-bytes codecs compute
abbrev pub reader_functions : {B : Type 0} {b : _} → ChunkCoder B b → BytesCodecs B
reader_functions {b = b} coder = b.functions

-- ---- in place

-- the check of new elements at a selection
abbrev pub new_check : {B : Type 0} {b : _} → ChunkCoder B b → Selection → Held → Result (Unit {0}) CodecError
new_check coder selection new = form_checked (coder_form coder) selection new

-- where elements are given, these are checked; an error is the first one of the check, or a lack of memory
abbrev pub ChecksSome : {T : Type 0} → Result (Option T) CodecError → Result (Unit {0}) CodecError → Type 0
ChecksSome (Ok None) check = Unit {0}
ChecksSome (Ok (Some x)) check = check ≡ Ok tt
ChecksSome (Err e) check = Excused (memory e) (check ≡ Err e)

-- Runs and a container are those of new elements of a region as it stands behind the array-to-array codecs: to write the elements at the places of the runs leaves what is to be left, and none is empty, ends behind the last element or starts where the one before it ends.
pub record StandsThere {B : Type 0} {b : _} (coder : ChunkCoder B b) (order : Option Endianness) (region : Region) (new : Held) (runs : List (ℕ × ℕ)) (held : Held) : Type 0 where
  pub same_edit : LeavesThere (reader_functions coder) (coder_form coder) coder.encoded order (subset region) new runs held
  pub filled : AreFilled runs
  pub inside : EndWithin (product coder.encoded) runs
  pub apart : AreApart runs
  pub places : joined_runs runs ≡ coder_standing coder region
  pub fit : FitsRuns (coder_form coder) runs held

-- ---- by the whole value

-- the value of a chunk with new elements at the places of the runs, or the first error
abbrev pub GivesEdited : {B : Type 0} {b : _} → ChunkCoder B b → Held → List (ℕ × ℕ) → Held → Result (CowSlice ℕ Global) CodecError → Type 0
GivesEdited coder chunk runs new result =
    Gives items_of result ((chain_meaning (coder_form coder).chain).value (reader_functions coder) (coder_form coder).sizes (coder_form coder).type (coder_form coder).fill (with_elements (coder_form coder).type (elements (coder_form coder).type (product (coder_form coder).sizes) chunk) (joined_runs runs) new))

-- this value is stored afterwards
abbrev pub CoderWritesRuns : {H B : Type 0} {b : _} → (H → StorageState) → ChunkCoder B b → (before after : H) → List (ℕ × ℕ) → Held → Result (Unit {0}) CodecError → Type 0
CoderWritesRuns state coder before after runs new result =
    Answers memory_or_fault (λ _. (state after).value) result (seen Some (value_left (reader_functions coder) (coder_form coder) None (state before).value (joined_runs runs) new))

-- ---- writes, as `WritesChunk` says

-- of a selection, in place with this byte order, or else by the whole value
abbrev pub CoderWrites : {H B : Type 0} {b : _} → (H → StorageState) → ChunkCoder B b → Option (Option Endianness) → (before after : H) → Selection → Held → Result (Unit {0}) CodecError → Type 0
CoderWrites state coder order before after selection new result =
    WritesChunk (reader_functions coder) (coder_form coder) order (state before) (state after) selection new result

-- by the whole value: it is read once, and all of it is replaced
abbrev pub CountsRenewal : {H T : Type 0} → (H → Option Calls) → (H → StorageState) → (before after : H) → Result T CodecError → Type 0
CountsRenewal calls state before after result = MakesWrite calls 1 (value_indices (state after).value) before after result
