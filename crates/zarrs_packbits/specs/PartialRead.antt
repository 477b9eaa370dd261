-- What a read in part answers, by the bits of the places that are asked for alone.
use Rattle.std.specs.Prelude.{ℕ, ◌+◌, ◌-◌, ◌*◌, ◌/◌, Bool, nat_lt, Option, Some, None, List, length, map, Result, Ok, Err, IfOk, if◌then◌else◌}
use Rattle.std.specs.List.{flat_map, list_all, range_with_len}
use Rattle.zarrs_chunk.specs.Answer.{◌>>=◌, AnswersBy, demand, memory_or_fault}
use Rattle.zarrs_chunk.specs.Runs.{joined_runs}
use Rattle.zarrs_chunk.specs.Selection.{Selection, places_of}
use Rattle.zarrs_chunk.specs.declared.codec_error.CodecError.{CodecError}
use Rattle.zarrs_chunk.specs.declared.codec_error.CodecError.TheVariants.{InvalidByteRange}
use Rattle.zarrs_data_type.specs.Element.{Chunk, fill_element}
use Rattle.zarrs_data_type.specs.ElementType.{ElementType}
use Rattle.zarrs_data_type.specs.Form.{Form}
use Rattle.zarrs_array_bytes.specs.Held.{Held}
use Rattle.zarrs_array_bytes.specs.Validity.{Holds}
use Rattle.zarrs_codec.specs.StorageState.{StorageState, are_sure}
use Rattle.zarrs_codec.specs.HandleCalls.{NeverFailsIf}
use Rattle.zarrs_bytes.specs.PartialRead.{place_size}
use Rattle.zarrs_bytes.specs.ReadingCalls.{calls_for_runs}
use Rattle.zarrs_packbits.specs.BitStream.{element_bits, packed_element}
use Rattle.zarrs_packbits.specs.PackBitsSettings.{PackBitsSettings, keeps_all_bytes, packed_layout}
use Rattle.zarrs_packbits.specs.declared.layout.PackedLayout.{PackedLayout}
use Rattle.zarrs_packbits.specs.PackedLayout.{element_bits_len}
use Rattle.zarrs_packbits.specs.PaddingByte.{lead}
use Rattle.zarrs_packbits.specs.Packing.{packing}

-- the first byte of a value that holds kept bits of the run
abbrev pub run_start : PackedLayout → ℕ × ℕ → ℕ
run_start l run = lead l + run.0 * element_bits_len l / 8

-- the first byte behind those that hold kept bits of the run
abbrev pub run_end : PackedLayout → ℕ × ℕ → ℕ
run_end l run = lead l + ((run.0 + run.1) * element_bits_len l + 7) / 8

-- the numbers of a place's bytes
abbrev pub packed_place_bytes : PackedLayout → ℕ → List ℕ
packed_place_bytes l place = range_with_len (run_start l (place, 1)) (run_end l (place, 1) - run_start l (place, 1))

-- the numbers of the bytes of these places, place by place
abbrev pub packed_places_bytes : PackedLayout → List ℕ → List ℕ
packed_places_bytes l places = flat_map (packed_place_bytes l) places

-- all these numbers are below a count
abbrev pub all_below : ℕ → List ℕ → Bool
all_below count numbers = list_all (λ number. nat_lt number count) numbers

-- the bytes of the elements at these places, joined: of the stored value, where it has all bytes of the places; the fill element at each, where nothing is stored
abbrev pub read_packed_bytes : PackedLayout → Option (List ℕ) → List ℕ → List ℕ → Result (List ℕ) CodecError
read_packed_bytes l None fill places = Ok (flat_map (λ _. fill) places)
read_packed_bytes l (Some value) fill places =
    if all_below (length value) (packed_places_bytes l places) then Ok (packing (flat_map (element_bits l value) places)) else Err InvalidByteRange

-- the elements at these places: those of the stored value, where it has all their bytes; the fill element at each, where nothing is stored
abbrev pub read_packed_places : PackedLayout → ElementType → List ℕ → Option (List ℕ) → List ℕ → Result Chunk CodecError
read_packed_places l type fill None places = Ok (map (λ _. fill_element type fill) places)
read_packed_places l type fill (Some value) places = do
  _ ← demand (all_below (length value) (packed_places_bytes l places)) InvalidByteRange
  Ok (map (packed_element l value) places)

-- the elements at places, by their bits alone, or fill elements where nothing is stored; or the first error
abbrev pub read_places_of : PackBitsSettings → Form → Option (List ℕ) → List ℕ → Result Chunk CodecError
read_places_of settings form stored places = do
  l ← packed_layout settings form
  read_packed_places l form.type form.fill stored places

-- The answer is a container of the elements at the places of these runs, each a start and a length: those of the stored value, where it has all their bytes; the fill element at each, where nothing is stored. Only `OutOfMemory` or a failure of the handle may come in its place.
abbrev pub ReadsRuns : PackBitsSettings → Form → StorageState → List (ℕ × ℕ) → Result Held CodecError → Type 0
ReadsRuns settings form before runs result =
    AnswersBy memory_or_fault (Holds form.type) result (read_places_of settings form before.value (joined_runs runs))

-- the selected elements, of what is stored, or the first error
abbrev pub packbits_read : PackBitsSettings → Form → Option (List ℕ) → Selection → Result Chunk CodecError
packbits_read settings form stored selection = do
  places ← places_of selection form.sizes
  read_places_of settings form stored places

-- the numbers of the bytes of these places, by the settings
abbrev pub bytes_of_places : PackBitsSettings → Form → List ℕ → Result (List ℕ) CodecError
bytes_of_places settings form places = do
  l ← packed_layout settings form
  Ok (packed_places_bytes l places)

-- Where all bytes of the places of these runs are sure, no failure of the handle comes.
abbrev pub ReadsRunsSurely : {T : Type 0} → PackBitsSettings → Form → StorageState → List (ℕ × ℕ) → Result T CodecError → Type 0
ReadsRunsSurely settings form before runs result =
    IfOk (bytes_of_places settings form (joined_runs runs)) (λ numbers. NeverFailsIf (are_sure before.sure numbers) result)

-- how many reading calls a read of these runs makes of what is stored: one; where all bits of whole bytes are kept, as many as of the codec `bytes`
abbrev pub reading_calls_of : PackBitsSettings → Form → Option (List ℕ) → List (ℕ × ℕ) → ℕ
reading_calls_of settings form stored runs =
    if keeps_all_bytes (packed_layout settings form) then calls_for_runs (place_size form.type) stored runs else 1

-- the numbers of the bytes that such a read rests on, or the first error
abbrev pub packbits_plan : PackBitsSettings → Form → Selection → Result (List ℕ) CodecError
packbits_plan settings form selection = do
  places ← places_of selection form.sizes
  bytes_of_places settings form places

-- the selected places, and how their chunk is packed, or the first error
abbrev pub packbits_places : PackBitsSettings → Form → Selection → Result (List ℕ × PackedLayout) CodecError
packbits_places settings form selection = do
  places ← places_of selection form.sizes
  l ← packed_layout settings form
  Ok (places, l)
