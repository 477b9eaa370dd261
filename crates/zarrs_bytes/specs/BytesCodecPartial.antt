-- What a partial coder of `bytes` is made of, and what it reads and writes of a chunk.
-- Source: zarrs, `BytesPartialDecoder`.
use Rattle.std.specs.Prelude.{◌≡◌, ℕ, Bool, true, Option, is_some, List, Result, Ok, Err, IfOk}
use Rattle.zarrs_chunk.specs.Indexer.{selection_of}
use Rattle.zarrs_chunk.specs.Selection.{places_of}
use Rattle.zarrs_chunk.specs.declared.codec_error.CodecError.{CodecError}
use Rattle.zarrs_chunk.specs.declared.indexer.Indexer.{Indexer}
use Rattle.zarrs_data_type.specs.ElementType.{ElementType}
use Rattle.zarrs_data_type.specs.declared.endianness.Endianness.{Endianness}
use Rattle.zarrs_array_bytes.specs.Held.{Held}
use Rattle.zarrs_codec.specs.ArrayReader.{ArrayReader}
use Rattle.zarrs_codec.specs.ArrayWriter.{ArrayWriter}
use Rattle.zarrs_codec.specs.ByteSpan.{ByteSpan}
use Rattle.zarrs_codec.specs.Calls.{AsksRanges, Calls, MakesReads, MakesWrite}
use Rattle.zarrs_codec.specs.ChunkEdits.{data_checked}
use Rattle.zarrs_codec.specs.StorageState.{StorageState, are_sure}
use Rattle.zarrs_codec.specs.declared.refused.Refused.{Refused}
use Rattle.zarrs_bytes.specs.AskedRanges.{asked_for_runs}
use Rattle.zarrs_bytes.specs.BytesGrammar.{bytes_grammar, bytes_reads_part}
use Rattle.zarrs_data_type.specs.Form.{Form, form_of}
use Rattle.zarrs_codec.specs.CodersOverHandles.{ReadsPart, OnlyReads, EditsPart}
use Rattle.zarrs_bytes.specs.PartialRead.{bytes_plan, bytes_read, place_size}
use Rattle.zarrs_bytes.specs.PartialWrite.{bytes_replaced, bytes_written}
use Rattle.zarrs_bytes.specs.ReadingCalls.{calls_for_runs, consecutive_runs}
use Rattle.zarrs_bytes.specs.declared.bytes_codec_partial.BytesCodecPartial.{BytesCodecPartial}

-- the chunks that a decoder reads: the byte order, the shape, the type and the fill value
pub record BytesForm : Type 0 where
  pub order : Option Endianness
  pub sizes : List ℕ
  pub type : ElementType
  pub fill : List ℕ

-- the form without the byte order
abbrev pub form_in : BytesForm → Form
form_in form = record { sizes = form.sizes; type = form.type; fill = form.fill }

-- a coder's byte order, and the form of its chunk
abbrev pub bytes_form_of : {H : Type 0} → BytesCodecPartial H → BytesForm
bytes_form_of decoder =
    record { order = decoder.codec; sizes = decoder.shape; type = decoder.data_type; fill = decoder.fill_value }

-- the handle that a coder reads, or writes
abbrev pub bytes_handle_of : {H : Type 0} → BytesCodecPartial H → H
bytes_handle_of decoder = decoder.handle

-- what is seen of a coder's handle
abbrev pub coder_state : {H : Type 0} → (H → StorageState) → BytesCodecPartial H → StorageState
coder_state state coder = state (bytes_handle_of coder)

-- the value that a coder's handle keeps, or none
abbrev pub stored_in : {H : Type 0} → (H → StorageState) → BytesCodecPartial H → Option (List ℕ)
stored_in state coder = (coder_state state coder).value

-- what a coder's handle lends
abbrev pub coder_lent : {H L : Type 0} → (H → L) → BytesCodecPartial H → L
coder_lent lent coder = lent (bytes_handle_of coder)

-- the record of a coder's handle, where it keeps one
abbrev pub coder_calls : {H : Type 0} → (H → Option Calls) → BytesCodecPartial H → Option Calls
coder_calls calls coder = calls (bytes_handle_of coder)

-- the ranges that a coder's handle was asked for, where it keeps them
abbrev pub coder_asked : {H : Type 0} → (H → Option (List ByteSpan)) → BytesCodecPartial H → Option (List ByteSpan)
coder_asked asked coder = asked (bytes_handle_of coder)

-- a coder that is made has this byte order, and is one of chunks of this form
abbrev pub HasForm : {H : Type 0} → Option Endianness → Form → Result (BytesCodecPartial H) (Refused H) → Type 0
HasForm order form result =
    IfOk result (λ coder. bytes_form_of coder ≡ record { order = order; sizes = form.sizes; type = form.type; fill = form.fill })

-- the elements at a selection are read, of the chunk that the stored value stands for, or fill elements, by the places' bytes alone (`state` states what a handle keeps)
abbrev pub Reads : {H : Type 0} → (H → StorageState) → BytesCodecPartial H → Indexer → Result Held CodecError → Type 0
Reads state decoder indexer result =
    ReadsPart (bytes_grammar decoder.codec) (bytes_reads_part decoder.codec) (form_of decoder.shape decoder.data_type decoder.fill_value) (state decoder.handle) (selection_of indexer) result

-- how many reading calls a read of these places makes: one, or one for each batch of many short runs
abbrev pub read_count : {H : Type 0} → (H → StorageState) → BytesCodecPartial H → List ℕ → ℕ
read_count state decoder places = calls_for_runs (place_size decoder.data_type) (stored_in state decoder) (consecutive_runs places)

-- an accepted read makes so many (`calls` states what the record of a handle is)
abbrev pub CountsReads : {H T : Type 0} → (H → StorageState) → (H → Option Calls) → BytesCodecPartial H → BytesCodecPartial H → Indexer → Result T CodecError → Type 0
CountsReads state calls before after indexer result =
    IfOk (places_of (selection_of indexer) before.shape) (λ places. MakesReads (coder_calls calls) (read_count state before places) before after result)

-- an accepted read asks for the ranges of its places: one for each run of consecutive places (`asked` states which ranges a handle was asked for)
abbrev pub AsksReads : {H T : Type 0} → (H → StorageState) → (H → Option (List ByteSpan)) → BytesCodecPartial H → BytesCodecPartial H → Indexer → Result T CodecError → Type 0
AsksReads state asked before after indexer result =
    IfOk (places_of (selection_of indexer) before.shape) (λ places.
    AsksRanges (coder_asked asked) (asked_for_runs (place_size before.data_type) (stored_in state before) (consecutive_runs places)) before after result)

-- a reading call of a coder leaves all as it was, but for the failure that it answers
abbrev pub Leaves : {H T L : Type 0} → (H → StorageState) → (H → L) → BytesCodecPartial H → BytesCodecPartial H → Result T CodecError → Type 0
Leaves state lent before after result =
    OnlyReads (coder_state state) (coder_lent lent) bytes_form_of before after result

-- whether a read is sure that asks for bytes of these numbers, or fails before it asks
abbrev pub plan_is_sure : Option (ℕ → Bool) → Result (List ℕ) CodecError → Bool
plan_is_sure sure (Ok numbers) = are_sure sure numbers
plan_is_sure sure (Err _) = true

-- the reader of a chunk of this form, where this value or none is stored and these bytes are sure: it answers of a selection what `bytes_read` states, and is sure where the bytes of its places are
abbrev pub bytes_reader : BytesForm → Option (List ℕ) → Option (ℕ → Bool) → Bool → ArrayReader
bytes_reader form stored sure in_part = record {
  sizes = form.sizes;
  type = form.type;
  is_stored = is_some stored;
  answer = bytes_read form.order (form_in form) stored;
  sure = λ selection. plan_is_sure sure (bytes_plan form.sizes form.type selection);
  in_part = in_part;
}

-- the writer of a chunk of this form: it leaves of a selection and new elements what `bytes_written` states
abbrev pub bytes_writer : BytesForm → Option (ℕ → Bool) → Bool → ArrayWriter
bytes_writer form sure in_part = record {
  reads = λ stored. bytes_reader form stored sure in_part;
  checks = data_checked form.sizes form.type;
  written = bytes_written form.order (form_in form);
}

-- The value afterwards is the one that is written for the edited chunk, the places' bytes alone replaced; or the first error is returned. Only a lack of memory or a failure of the handle may come in its place.
abbrev pub Edits : {H : Type 0} → (H → StorageState) → BytesCodecPartial H → BytesCodecPartial H → Indexer → Held → Result (Unit {0}) CodecError → Type 0
Edits state before after indexer new result =
    EditsPart (bytes_grammar before.codec) (form_of before.shape before.data_type before.fill_value) (bytes_written before.codec (form_of before.shape before.data_type before.fill_value)) (state before.handle) (state after.handle) (selection_of indexer) new result

-- an accepted write asks once whether a value is stored, and replaces the bytes of its places and no others; all of the new value, where none is stored
abbrev pub CountsEdit : {H T : Type 0} → (H → StorageState) → (H → Option Calls) → BytesCodecPartial H → BytesCodecPartial H → Indexer → Held → Result T CodecError → Type 0
CountsEdit state calls before after indexer new result =
    IfOk (places_of (selection_of indexer) before.shape) (λ places.
    MakesWrite (coder_calls calls) 1 (bytes_replaced before.codec (form_of before.shape before.data_type before.fill_value) (stored_in state before) places new) before after result)
