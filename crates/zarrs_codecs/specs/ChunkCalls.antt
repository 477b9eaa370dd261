-- Which bytes an edit through a chain replaces, and how often reads and edits ask their handle: `calls` says what the record of a handle is, `state` what it keeps.
use Rattle.std.specs.Prelude.{◌≡◌, ℕ, false, Option, List, Result, IfOk, MatchOption}
use Rattle.zarrs_chunk.specs.Selection.{Selection}
use Rattle.zarrs_data_type.specs.ElementType.{ElementType}
use Rattle.zarrs_codec.specs.Calls.{Calls, MakesReads, MakesWrite}
use Rattle.zarrs_codec.specs.StorageState.{StorageState, value_indices}
use Rattle.zarrs_bytes.specs.PartialRead.{place_bytes, place_size}
use Rattle.zarrs_chain_meaning.specs.CodecMeaning.{PlainChain}
use Rattle.zarrs_codecs.specs.ChunkRead.{asks_in_part, form_in_place, planned_order}
use Rattle.zarrs_chain_meaning.specs.ChunkForm.{ChunkForm}
use Rattle.std.specs.Option.{option_map_or}

-- an accepted write in place has asked once whether a value is stored, and replaced the bytes of these places and no others, in order; or all of a first value
abbrev pub ReplacesPlaces : {H E T : Type 0} → (H → Option Calls) → (H → StorageState) → ElementType → List ℕ → (before after : H) → Result T E → Type 0
ReplacesPlaces calls state type places before after result =
    MakesWrite calls 1 (option_map_or (λ _. place_bytes (place_size type) places) (state before).value (value_indices (state after).value)) before after result

-- An accepted edit makes one reading call and one writing call. Where the chain writes in place, the reading call asks whether a value is stored, and the writing call replaces the bytes of the selected places and no others, in the order in which they are planned, or all of a first value. Through any other chain the value is read, and all of it replaced.
abbrev pub CountsEditThrough : {H E T B : Type 0} → (H → Option Calls) → (H → StorageState) → ChunkForm B → Selection → (before after : H) → Result T E → Type 0
CountsEditThrough calls state form selection before after result =
    MatchOption (form_in_place form) (MakesWrite calls 1 (value_indices (state after).value) before after result)
    (λ order. IfOk (planned_order form selection) (λ places. ReplacesPlaces calls state form.type places before after result))

-- where a read through the chain asks for the whole value, an accepted one asks once
abbrev pub WholeOnce : {H E T B : Type 0} → (H → Option Calls) → PlainChain B → (before after : H) → Result T E → Type 0
WholeOnce calls chain before after result =
    asks_in_part chain.bytes_to_bytes chain.array_to_bytes ≡ false → MakesReads calls 1 before after result
