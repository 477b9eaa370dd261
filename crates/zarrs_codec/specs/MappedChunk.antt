-- What a codec that moves elements makes of a chunk.
-- Source: zarrs, `ArrayToArrayCodecTraits`.
use Rattle.std.specs.Prelude.{◌≡◌, ◌⊎◌, ℕ, List, Result, Ok, Err, IfOk, IfErr, Option, Some, None}
use Rattle.zarrs_chunk.specs.Answer.{◌>>=◌, Answers, AnswersBy, AnswersValue, GivesValue, checked_u64, memory, seen}
use Rattle.zarrs_chunk.specs.ChunkShape.{product}
use Rattle.zarrs_chunk.specs.declared.codec_error.CodecError.{CodecError}
use Rattle.zarrs_data_type.specs.ElementType.{ElementType}
use Rattle.zarrs_data_type.specs.Element.{Chunk}
use Rattle.zarrs_data_type.specs.Form.{Form}
use Rattle.zarrs_array_bytes.specs.Elements.{elements}
use Rattle.zarrs_array_bytes.specs.Held.{Held}
use Rattle.zarrs_array_bytes.specs.Validity.{Holds, validity}
use Rattle.zarrs_codec.specs.CoordinateMap.{CoordinateMap, moved_chunk, inverse_map}

-- what the codec does to chunks of these sizes and this type, where it accepts the type, the sizes can be counted, and the container has their elements; else the first error
abbrev pub map_for : Result (Unit {0}) CodecError → Result CoordinateMap CodecError → ElementType → List ℕ → Held → Result CoordinateMap CodecError
map_for takes coordinates type sizes held = do
  _ ← takes
  m ← coordinates
  _ ← checked_u64 (product sizes)
  _ ← validity type (product sizes) held
  Ok m

-- the moved chunk of the one that the container holds
abbrev pub encoded_chunk : Result (Unit {0}) CodecError → Result CoordinateMap CodecError → ElementType → List ℕ → Held → Result Chunk CodecError
encoded_chunk takes coordinates type sizes held = do
  m ← map_for takes coordinates type sizes held
  Ok (moved_chunk m (elements type (product sizes) held))

-- the decoded chunk of the one that the container holds
abbrev pub decoded_chunk : Result (Unit {0}) CodecError → Result CoordinateMap CodecError → ElementType → List ℕ → Held → Result Chunk CodecError
decoded_chunk takes coordinates type sizes held = do
  m ← map_for takes coordinates type sizes held
  Ok (moved_chunk (inverse_map sizes m) (elements type (product sizes) held))

-- the sizes, the type and the fill value of the moved chunk
abbrev pub encoded_form : Result (Unit {0}) CodecError → Result CoordinateMap CodecError → ElementType → List ℕ → Result (List ℕ × ElementType × List ℕ) CodecError
encoded_form takes coordinates type fill = do
  _ ← takes
  m ← coordinates
  Ok (m.encoded, type, fill)

-- where the sizes of the moved chunk fix those of the decoded one, they are those that the codec makes these of
abbrev pub IsSource : (List ℕ → Result CoordinateMap CodecError) → List ℕ → Option (List ℕ) → Type 0
IsSource coordinates encoded None = Unit {0}
IsSource coordinates encoded (Some sizes) = (decoded : List ℕ) (m : CoordinateMap) → coordinates decoded ≡ Ok m → m.encoded ≡ encoded → decoded ≡ sizes

-- ---- what the calls of such a codec give, by what it accepts and what it does to chunks of some sizes

-- the type of the encoded elements: the same, where the codec accepts it
abbrev pub encoded_type : (ElementType → Result (Unit {0}) CodecError) → ElementType → Result ElementType CodecError
encoded_type takes type = seen (λ _. type) (takes type)

-- The answer is the type of the encoded elements, or the codec's error. Only lack of memory may come in its place.
abbrev pub EncodesType : (ElementType → Result (Unit {0}) CodecError) → ElementType → Result ElementType CodecError → Type 0
EncodesType takes type result = AnswersValue memory result (encoded_type takes type)

-- The answer is the sizes of the moved chunk, or the first error.
abbrev pub GivesSizes : Result (List ℕ) CodecError → Result CoordinateMap CodecError → Type 0
GivesSizes result coordinates = GivesValue result (seen (λ m. m.encoded) coordinates)

-- The answer is the sizes, the type and the fill value of the moved chunk of such a one, or the first error. Only lack of memory may come in its place.
abbrev pub EncodesForm : (ElementType → Result (Unit {0}) CodecError) → (List ℕ → Result CoordinateMap CodecError) → Form → Result (List ℕ × ElementType × List ℕ) CodecError → Type 0
EncodesForm takes coordinates form result =
    AnswersValue memory result (encoded_form (takes form.type) (coordinates form.sizes) form.type form.fill)

-- Where the codec accepts such chunks and the container holds one, the answer is a container of the moved chunk. Only lack of memory may come in its place.
abbrev pub EncodesMoved : (ElementType → Result (Unit {0}) CodecError) → (List ℕ → Result CoordinateMap CodecError) → ElementType → List ℕ → Held → Result Held CodecError → Type 0
EncodesMoved takes coordinates type sizes held result =
    IfOk (encoded_chunk (takes type) (coordinates sizes) type sizes held) (λ chunk. AnswersBy memory (Holds type) result (Ok chunk))

-- Where the codec accepts such chunks and the container holds a moved one, the answer is a container of the decoded chunk. Only lack of memory may come in its place.
abbrev pub DecodesMoved : (ElementType → Result (Unit {0}) CodecError) → (List ℕ → Result CoordinateMap CodecError) → ElementType → List ℕ → Held → Result Held CodecError → Type 0
DecodesMoved takes coordinates type sizes held result =
    IfOk (decoded_chunk (takes type) (coordinates sizes) type sizes held) (λ chunk. AnswersBy memory (Holds type) result (Ok chunk))

-- Where there is no such chunk, the container is handed on as it is, or the first error is returned. Only lack of memory may come in its place.
abbrev pub LeavesUnfit : (ElementType → Result (Unit {0}) CodecError) → (List ℕ → Result CoordinateMap CodecError) → ElementType → List ℕ → Held → Result Held CodecError → Type 0
LeavesUnfit takes coordinates type sizes held result =
    IfErr (map_for (takes type) (coordinates sizes) type sizes held) (λ cause. (result ≡ Ok held) ⊎ Answers memory (λ given. given) result (Err cause))

-- Where a container holds no chunk that a codec accepts, it is handed on as it is, or the first error is returned. Only lack of memory may come in its place.
abbrev pub KeepsUnfit : {C : Type 0} → (C → ElementType → Result (Unit {0}) CodecError) → (C → List ℕ → Result CoordinateMap CodecError) → C → ElementType → List ℕ → Held → Result Held CodecError → Type 0
KeepsUnfit takes coordinates codec type sizes held result = LeavesUnfit (takes codec) (coordinates codec) type sizes held result
