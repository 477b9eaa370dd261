-- What a read in part answers, by the bytes of the places that are asked for alone.
use Rattle.std.specs.Prelude.{◌≡◌, ℕ, ◌+◌, ◌*◌, ◌^◌, ◌<◌, ◌++◌, Bool, nat_le, Option, Some, None, option_map, All, List, Vec, length, map, Result, Ok, IfOk}
use Rattle.std.proofs.Common.{Global}
use Rattle.std.specs.List.{concat, flat_map, list_all, range_with_len}
use Rattle.zarrs_chunk.specs.Answer.{◌>>=◌, Answers, AnswersBy, demand, memory_or_fault, seen}
use Rattle.zarrs_chunk.specs.Runs.{joined_runs}
use Rattle.zarrs_chunk.specs.Selection.{Selection, places_of}
use Rattle.zarrs_chunk.specs.declared.codec_error.CodecError.{CodecError}
use Rattle.zarrs_chunk.specs.declared.codec_error.CodecError.TheVariants.{InvalidByteRange}
use Rattle.zarrs_data_type.specs.Element.{Chunk, fill_element}
use Rattle.zarrs_data_type.specs.ElementType.{ElementType, fixed, text, bytes, optional, element_size}
use Rattle.zarrs_data_type.specs.declared.endianness.Endianness.{Endianness}
use Rattle.zarrs_array_bytes.specs.Elements.{piece}
use Rattle.zarrs_array_bytes.specs.Held.{Held}
use Rattle.zarrs_array_bytes.specs.Validity.{Holds}
use Rattle.zarrs_codec.specs.StorageState.{StorageState, are_sure}
use Rattle.zarrs_data_type.specs.Form.{Form}
use Rattle.zarrs_bytes.specs.BytesCodec.{bytes_element}
use Rattle.zarrs_codec.specs.HandleCalls.{NeverFailsIf}

-- the numbers of the bytes of elements of one size at these places, in order
abbrev pub place_bytes : ℕ → List ℕ → List ℕ
place_bytes size places = flat_map (λ place. range_with_len (place * size) size) places

-- the numbers of the bytes at the places of these runs, each a start and a length
abbrev pub run_byte_numbers : ℕ → List (ℕ × ℕ) → List ℕ
run_byte_numbers size runs = place_bytes size (joined_runs runs)

-- all bytes of elements of one size at the places of these runs are sure to be read
abbrev pub runs_are_sure : ℕ → StorageState → List (ℕ × ℕ) → Bool
runs_are_sure size before runs = are_sure before.sure (run_byte_numbers size runs)

-- the bytes of elements of one size at these places of what is stored, joined in order, where the value has all of them; none, where nothing is stored
abbrev pub bytes_at : ℕ → Option (List ℕ) → List ℕ → Result (Option (List ℕ)) CodecError
bytes_at size None places = Ok None
bytes_at size (Some value) places = do
  _ ← demand (list_all (λ place. nat_le (place * size + size) (length value)) places) InvalidByteRange
  Ok (Some (concat (map (piece size value) places)))

-- the bytes of elements of one size at the places of these runs, of what the handle keeps
abbrev pub bytes_at_runs : ℕ → StorageState → List (ℕ × ℕ) → Result (Option (List ℕ)) CodecError
bytes_at_runs size before runs = bytes_at size before.value (joined_runs runs)

-- the same at places that are given one by one
abbrev pub bytes_at_places : ℕ → StorageState → List ℕ → Result (Option (List ℕ)) CodecError
bytes_at_places size before places = bytes_at size before.value places

-- all bytes of elements of one size at these places are sure to be read
abbrev pub places_are_sure : ℕ → StorageState → List ℕ → Bool
places_are_sure size before places = are_sure before.sure (place_bytes size places)

-- these bytes, and behind them those that are read, where there are any
abbrev pub with_read : List ℕ → Result (Option (List ℕ)) CodecError → Result (Option (List ℕ)) CodecError
with_read before read = seen (option_map (λ more. before ++ more)) read

-- Behind the old bytes stand those of elements of one size at the places of these runs, of what the handle keeps, or the first error is returned. Only a lack of memory or a failure of the handle may come in its place.
abbrev pub AddsRuns : Vec ℕ Global → Vec ℕ Global → ℕ → StorageState → List (ℕ × ℕ) → Result (Unit {0}) CodecError → Type 0
AddsRuns old new size before runs result =
    Answers memory_or_fault (λ _. Some new.items) result (with_read old.items (bytes_at_runs size before runs))

-- 64 bits count the bytes of elements of one size up to the end of each of these places
abbrev pub AreCounted : ℕ → List ℕ → Type 0
AreCounted size places = All (λ place. (place + 1) * size < 2 ^ 64) places

-- the answered bytes are the fill value for each of these places
abbrev pub RepeatsFill : {E : Type 0} → List ℕ → List ℕ → Result (Vec ℕ Global) E → Type 0
RepeatsFill fill places result = IfOk result (λ bytes. bytes.items ≡ flat_map (λ _. fill) places)

-- how many bytes an element of a fixed type has; none of any other type
abbrev pub place_size : ElementType → ℕ
place_size (fixed width components sign) = element_size width components
place_size type = 0

-- the type is fixed, an element has at least one byte, and `fill` is as long as one
abbrev pub IsFilledType : ElementType → List ℕ → Type 0
IsFilledType (fixed width components sign) fill =
    (length fill ≡ element_size width components) × (0 < element_size width components)
IsFilledType text fill = ⊥
IsFilledType bytes fill = ⊥
IsFilledType (optional type) fill = ⊥

-- the value has all bytes of the place
abbrev pub has_place : ElementType → List ℕ → ℕ → Bool
has_place type value place = nat_le (place * place_size type + place_size type) (length value)

-- the elements at these places: those of the stored value, where it has all their bytes; the fill element at each, where nothing is stored
abbrev pub read_places : Option Endianness → ElementType → List ℕ → Option (List ℕ) → List ℕ → Result Chunk CodecError
read_places order type fill None places = Ok (map (λ _. fill_element type fill) places)
read_places order type fill (Some value) places = do
  _ ← demand (list_all (has_place type value) places) InvalidByteRange
  Ok (map (bytes_element order type value) places)

-- the elements that a selection selects, of what is stored, or the first error
abbrev pub bytes_read : Option Endianness → Form → Option (List ℕ) → Selection → Result Chunk CodecError
bytes_read order form stored selection = do
  places ← places_of selection form.sizes
  read_places order form.type form.fill stored places

-- The answer is a container of the elements at these places: those of the stored value, where it has all their bytes; the fill element at each, where nothing is stored. Only a lack of memory or a failure of the handle may come in its place.
abbrev pub ReadsPlaces : Option Endianness → ElementType → List ℕ → StorageState → List ℕ → Result Held CodecError → Type 0
ReadsPlaces order type fill before places result =
    AnswersBy memory_or_fault (Holds type) result (read_places order type fill before.value places)

-- Where all bytes of the elements at these places are sure, no failure of the handle comes.
abbrev pub ReadsPlacesSurely : {T : Type 0} → ElementType → StorageState → List ℕ → Result T CodecError → Type 0
ReadsPlacesSurely type before places result = NeverFailsIf (places_are_sure (place_size type) before places) result

-- the numbers of the bytes that such a read asks for, or the first error
abbrev pub bytes_plan : List ℕ → ElementType → Selection → Result (List ℕ) CodecError
bytes_plan sizes type selection = seen (place_bytes (place_size type)) (places_of selection sizes)
