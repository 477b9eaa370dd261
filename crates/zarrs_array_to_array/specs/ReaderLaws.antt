-- What a reader of a chunk answers over the reader of the moved chunk, by places.
use Rattle.std.specs.Prelude.{◌≡◌, ℕ, ◌<◌, ◌^◌, Bool, List, map, length, Result, Ok, All}
use Rattle.zarrs_chunk.specs.Answer.{◌>>=◌}
use Rattle.zarrs_chunk.specs.Selection.{Selection, tuples_of, bounds_of, places_of}
use Rattle.zarrs_chunk.specs.declared.codec_error.CodecError.{CodecError}
use Rattle.zarrs_data_type.specs.Element.{Element, Chunk}
use Rattle.zarrs_array_bytes.specs.Elements.{select}
use Rattle.zarrs_codec.specs.ArrayReader.{ArrayReader, mapped_reader}
use Rattle.zarrs_codec.specs.CoordinateMap.{CoordinateMap, moved_chunk}
use Rattle.zarrs_codec.specs.MappedSelection.{IsImage}
use Rattle.zarrs_array_to_array.specs.ArrayToArrayCodec.{ArrayMapping, IsMapping, coordinates}
use Rattle.zarrs_array_to_array.specs.EncodedSelection.{selection_in}

-- The reader answers of each selection what is answered of the selection's places, in their order, or the first error. A selection has fewer than 2^64 tuples, as a list in memory has.
abbrev pub AnswersByPlaces : ArrayReader → (List ℕ → Result Chunk CodecError) → Type 0
AnswersByPlaces reader answer =
    (selection : Selection) → length (tuples_of selection) < 2 ^ 64 → reader.answer selection ≡ (places_of selection reader.sizes >>= answer)

-- the reader answers of each selection the chunk's elements at its places, in their order
abbrev pub ReadsChunk : ArrayReader → Chunk → Type 0
ReadsChunk reader chunk = AnswersByPlaces reader (λ places. Ok (select chunk places))

-- the reader answers of each selection this element once for each place
abbrev pub ReadsFill : ArrayReader → Element → Type 0
ReadsFill reader fill = AnswersByPlaces reader (λ places. Ok (map (λ _. fill) places))

-- the reader of a chunk of these sizes over one of the moved chunk
abbrev pub reader_through : ArrayMapping → List ℕ → Bool → ArrayReader → ArrayReader
reader_through codec sizes in_part input = mapped_reader (coordinates codec sizes) (selection_in codec sizes) in_part sizes input

-- what a codec asks for of the moved chunk lies inside it, and selects there the same elements in the same order
abbrev pub SelectionsAreImages : Type 0
SelectionsAreImages =
    (codec : ArrayMapping) (sizes : List ℕ) (m : CoordinateMap) (selection : Selection) → IsMapping codec → coordinates codec sizes ≡ Ok m → bounds_of selection sizes ≡ Ok tt
    → IsImage sizes m selection (selection_in codec sizes m.encoded selection)

-- a codec's reader answers of places what its input answers of the places where they go, in their order
abbrev pub ReadersAskMappedPlaces : Type 0
ReadersAskMappedPlaces =
    (codec : ArrayMapping) (sizes : List ℕ) (m : CoordinateMap) (in_part : Bool) (input : ArrayReader) (answer : List ℕ → Result Chunk CodecError) → IsMapping codec → All (λ size. 0 < size) sizes → coordinates codec sizes ≡ Ok m → input.sizes ≡ m.encoded
    → AnswersByPlaces input answer → AnswersByPlaces (reader_through codec sizes in_part input) (λ places. answer (map m.to places))

-- over a reader of the moved chunk a codec's reader reads the chunk
abbrev pub ReadersReadChunks : Type 0
ReadersReadChunks =
    (codec : ArrayMapping) (sizes : List ℕ) (m : CoordinateMap) (in_part : Bool) (input : ArrayReader) (chunk : Chunk) → IsMapping codec → All (λ size. 0 < size) sizes → coordinates codec sizes ≡ Ok m → input.sizes ≡ m.encoded
    → ReadsChunk input (moved_chunk m chunk) → ReadsChunk (reader_through codec sizes in_part input) chunk

-- where its input answers one element for every place, so does a codec's reader
abbrev pub ReadersReadFills : Type 0
ReadersReadFills =
    (codec : ArrayMapping) (sizes : List ℕ) (m : CoordinateMap) (in_part : Bool) (input : ArrayReader) (fill : Element) → IsMapping codec → All (λ size. 0 < size) sizes → coordinates codec sizes ≡ Ok m → input.sizes ≡ m.encoded
    → ReadsFill input fill → ReadsFill (reader_through codec sizes in_part input) fill
