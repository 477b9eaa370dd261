-- What a write in part leaves: of a stored value all but the bytes of the places that are written.
use Rattle.std.specs.Prelude.{◌≡◌, ℕ, ◌+◌, ◌*◌, max, true, is_some, Option, Some, None, List, [], ◌∷◌, length, replicate, Result, Ok, OnOk}
use Rattle.std.proofs.Common.{Global}
use Rattle.std.specs.declared.borrow.CowSlice.{CowSlice}
use Rattle.zarrs_chunk.specs.Answer.{◌>>=◌, Answers, Gives, is_fault, memory_or_fault}
use Rattle.zarrs_chunk.specs.ChunkShape.{product}
use Rattle.zarrs_chunk.specs.Runs.{joined_runs}
use Rattle.zarrs_chunk.specs.Selection.{Selection}
use Rattle.zarrs_chunk.specs.declared.codec_error.CodecError.{CodecError}
use Rattle.zarrs_data_type.specs.Element.{Chunk, fill_element}
use Rattle.zarrs_data_type.specs.ElementType.{ElementType}
use Rattle.zarrs_data_type.specs.declared.endianness.Endianness.{Endianness}
use Rattle.zarrs_array_bytes.specs.Elements.{elements}
use Rattle.zarrs_array_bytes.specs.Held.{Held, items_of}
use Rattle.zarrs_array_bytes.specs.Parts.{bytes_in}
use Rattle.zarrs_array_bytes.specs.Update.{update}
use Rattle.zarrs_array_bytes.specs.Validity.{data_fit}
use Rattle.zarrs_codec.specs.BytePieces.{with_zeros}
use Rattle.zarrs_codec.specs.Calls.{Calls, MakesWrite}
use Rattle.zarrs_codec.specs.ChunkEdits.{data_places, with_elements}
use Rattle.zarrs_codec.specs.StorageState.{StorageState, value_indices, value_or_empty, LeftByWriting}
use Rattle.zarrs_bytes.specs.BytesGrammar.{bytes_grammar}
use Rattle.zarrs_codec.specs.CodersOverHandles.{EditsFrom, Stores}
use Rattle.zarrs_data_type.specs.Form.{Form, form_of}
use Rattle.zarrs_array_bytes.specs.Turned.{turned_bytes}
use Rattle.zarrs_bytes.specs.BytesCodec.{spelling, turn_size}
use Rattle.zarrs_bytes.specs.PartialRead.{place_bytes, place_size}

-- ---- bytes

-- the number behind the last byte of the furthest of these places, for elements of one size; 0, where there is none
abbrev pub end_of_places : ℕ → List ℕ → ℕ
end_of_places size [] = 0
end_of_places size (place ∷ places) = max (place * size + size) (end_of_places size places)

-- the value, with zeros behind it up to the furthest place, with the bytes of the places replaced by the new ones, the last write of a place standing
abbrev pub with_place_bytes : ℕ → List ℕ → List ℕ → List ℕ → List ℕ
with_place_bytes size value places new =
    update (with_zeros value (end_of_places size places)) (place_bytes size places) new

-- an accepted call leaves the value of a handle, or an empty one where there was none, with these bytes in the place of those of the runs' elements, each of one size (`state` states what is seen of a handle)
abbrev pub PutsBytes : {H E : Type 0} → ℕ → List (ℕ × ℕ) → List ℕ → (H → StorageState) → H → H → Result (Unit {0}) E → Type 0
PutsBytes size runs new state before after result =
    OnOk result ((state after).value ≡ Some (with_place_bytes size (value_or_empty (state before).value) (joined_runs runs) new))

-- ---- elements

-- there is one new element of the type for each place of the runs
abbrev pub FitRuns : ElementType → List (ℕ × ℕ) → Held → Type 0
FitRuns type runs new = data_fit type (length (joined_runs runs)) new ≡ Ok tt

-- the bytes of a container's elements as they stand in a value, each component in the byte order
abbrev pub value_bytes : Option Endianness → ElementType → Held → List ℕ
value_bytes order type held = turned_bytes (turn_size order type) (bytes_in held)

-- a chunk of fill elements
abbrev pub filled_chunk : List ℕ → ElementType → List ℕ → Chunk
filled_chunk sizes type fill = replicate (product sizes) (fill_element type fill)

-- the value after new elements are written at these places: where none is stored, that of the whole chunk, which begins as fill elements; else the stored one with the places' bytes replaced
abbrev pub bytes_left : Option Endianness → Form → Option (List ℕ) → List ℕ → Held → List ℕ
bytes_left order form None places new =
    spelling order form.type (with_elements form.type (filled_chunk form.sizes form.type form.fill) places new)
bytes_left order form (Some value) places new =
    with_place_bytes (place_size form.type) value places (spelling order form.type (elements form.type (length places) new))

-- the value after new elements are written at a selection, or the first error
abbrev pub bytes_written : Option Endianness → Form → Option (List ℕ) → Selection → Held → Result (List ℕ) CodecError
bytes_written order form stored selection new = do
  places ← data_places form.sizes form.type selection new
  Ok (bytes_left order form stored places new)

-- The value afterwards is that of the handle with new elements at the places of these runs; where nothing was stored, that of a chunk of fill elements with the new ones. Only a lack of memory or a failure of the handle may come in its place (`state` states what is seen of a handle).
abbrev pub WritesRuns : {H : Type 0} → Option Endianness → Form → List (ℕ × ℕ) → Held → (H → StorageState) → H → H → Result (Unit {0}) CodecError → Type 0
WritesRuns order form runs new state before after result =
    Answers memory_or_fault (λ _. (state after).value) result (Ok (Some (bytes_left order form (state before).value (joined_runs runs) new)))

-- these bytes are given; only a lack of memory may come in their place
abbrev pub GivesBytes : Result (CowSlice ℕ Global) CodecError → List ℕ → Type 0
GivesBytes result bytes = Gives items_of result (Ok bytes)

-- The answer is the value of a chunk with new elements at the places of these runs, filled up with fill elements. Only a lack of memory may come in its place.
abbrev pub FillsUp : Option Endianness → List ℕ → ElementType → List ℕ → List (ℕ × ℕ) → Held → Result (CowSlice ℕ Global) CodecError → Type 0
FillsUp order sizes type fill runs new result =
    GivesBytes result (bytes_left order (form_of sizes type fill) None (joined_runs runs) new)

-- where the handle has sure bytes, a failure that is answered is that of the writing call, so no call failed that reads the value
abbrev pub FailsByWriting : {C T : Type 0} → (C → StorageState) → C → C → Result T CodecError → Type 0
FailsByWriting state before after result =
    is_some (state before).sure ≡ true → is_fault result ≡ true → LeftByWriting state before after result

-- the numbers of the bytes that a write of new elements at these places replaces: those of the places, in their order; all of the new value, where none is stored
abbrev pub bytes_replaced : Option Endianness → Form → Option (List ℕ) → List ℕ → Held → List ℕ
bytes_replaced order form None places new = value_indices (Some (bytes_left order form None places new))
bytes_replaced order form (Some value) places new = place_bytes (place_size form.type) places

-- An accepted write of new elements at the places of these runs has asked once whether a value is stored, and replaced these bytes and no others (`calls` states what the record of a handle is).
abbrev pub CountsWriteOfRuns : {H T : Type 0} → Option Endianness → Form → List (ℕ × ℕ) → Held → (H → Option Calls) → (H → StorageState) → H → H → Result T CodecError → Type 0
CountsWriteOfRuns order form runs new calls state before after result =
    MakesWrite calls 1 (bytes_replaced order form (state before).value (joined_runs runs) new) before after result

-- ---- edits of a chunk

-- an edit of what is stored starts from this chunk: the one that the value stands for; where there is none, one of fill elements
abbrev pub StartsFrom : Option Endianness → Form → Option (List ℕ) → Chunk → Type 0
StartsFrom order = EditsFrom (bytes_grammar order)

-- what is stored is the value that is written for this chunk
abbrev pub StoresChunk : Option Endianness → Form → Option (List ℕ) → Chunk → Type 0
StoresChunk order = Stores (bytes_grammar order)
