-- The container that is extracted from another at places.
use Rattle.std.specs.Prelude.{ℕ, ◌<◌, ◌^◌, List, length, map, slice_index, Result, Ok}
use Rattle.zarrs_chunk.specs.Answer.{GivesValue}
use Rattle.zarrs_chunk.specs.declared.codec_error.CodecError.{CodecError}
use Rattle.zarrs_data_type.specs.ElementType.{ElementType, fixed, text, bytes, optional, element_size}
use Rattle.zarrs_array_bytes.specs.Held.{Held, flen, vlen, masked, owned_bytes}
use Rattle.zarrs_array_bytes.specs.Pieces.{pieces_at, cuts_at, fixed_of, variable_of}

-- a container of the elements at the places: their bytes one after another, and at each optional level their mask bytes
abbrev pub container_selection : ElementType → Held → List ℕ → Held
container_selection (fixed width count sign) (flen raw) places =
    fixed_of (pieces_at (element_size width count) raw.items places)
container_selection text (vlen raw offsets) places = variable_of (cuts_at offsets raw.items places)
container_selection bytes (vlen raw offsets) places = variable_of (cuts_at offsets raw.items places)
container_selection (optional type) (masked inner mask) places =
    masked (container_selection type inner places) (owned_bytes (map (slice_index mask.items) places))
container_selection _ held places = held

-- that container of the elements at the places is given
abbrev pub GivesHeldAt : ElementType → Held → List ℕ → Result Held CodecError → Type 0
GivesHeldAt type held places result = GivesValue result (Ok (container_selection type held places))

-- what is kept in memory has fewer than 2 ^ 64 bytes, and fewer than 2 ^ 64 offsets
abbrev pub IsSmall : Held → Type 0
IsSmall (flen raw) = length raw.items < 2 ^ 64
IsSmall (vlen raw offsets) = length offsets < 2 ^ 64
IsSmall (masked inner mask) = IsSmall inner
