-- What codecs answer of types, of encoded shapes and of containers.
use Rattle.std.specs.Prelude.{ℕ, List, Result, IfOk, Option}
use Rattle.zarrs_chunk.specs.Answer.{AnswersValue, memory}
use Rattle.zarrs_chunk.specs.declared.codec_error.CodecError.{CodecError}
use Rattle.zarrs_data_type.specs.ElementType.{ElementType}
use Rattle.zarrs_data_type.specs.Form.{Form}
use Rattle.zarrs_array_bytes.specs.Held.{Held}
use Rattle.zarrs_codec.specs.MappedChunk.{encoded_form, IsSource, EncodesMoved, DecodesMoved, LeavesUnfit}
use Rattle.zarrs_array_to_array.specs.ArrayToArrayCodec.{ArrayMapping, array_meaning, coordinates}

-- the codec accepts elements of the type, or its error
abbrev pub type_taken : ArrayMapping → ElementType → Result (Unit {0}) CodecError
type_taken codec type = (array_meaning codec).takes type

-- the sizes of the decoded chunk, where those of the moved one fix them; or the first error
abbrev pub sizes_before : ArrayMapping → List ℕ → Result (Option (List ℕ)) CodecError
sizes_before codec sizes = (array_meaning codec).sizes_before sizes

-- the answer is these sizes, where they are fixed, or the first error
abbrev pub AnswersSizesBefore : ArrayMapping → List ℕ → Result (Option (List ℕ)) CodecError → Type 0
AnswersSizesBefore codec sizes result = AnswersValue memory result (sizes_before codec sizes)

-- the sizes that are returned, where there are some, are the only ones of which the codec makes the moved ones
abbrev pub AnswersSource : ArrayMapping → List ℕ → Result (Option (List ℕ)) CodecError → Type 0
AnswersSource codec encoded result = IfOk result (IsSource (coordinates codec) encoded)

-- what `encode` gives of a container: transposition one of the moved chunk, or its first error; a codec that keeps places the container as it is
abbrev pub HeldMoved : ArrayMapping → ElementType → List ℕ → Held → Result Held CodecError → Type 0
HeldMoved codec type sizes held result = (array_meaning codec).Encodes type sizes held result

-- what `decode` gives of a container: transposition one of the chunk moved back, or its first error; a codec that keeps places the container as it is
abbrev pub HeldBack : ArrayMapping → ElementType → List ℕ → Held → Result Held CodecError → Type 0
HeldBack codec type sizes held result = (array_meaning codec).Decodes type sizes held result

-- the sizes, the type and the fill value of the moved chunk of such a one, or the first error
abbrev pub moved_form : ArrayMapping → Form → Result (List ℕ × ElementType × List ℕ) CodecError
moved_form codec form =
    encoded_form (type_taken codec form.type) (coordinates codec form.sizes) form.type form.fill

-- where the codec accepts such chunks and the container holds one, the answer is a container of the chunk moved, or `OutOfMemory`
abbrev pub Moves : ArrayMapping → ElementType → List ℕ → Held → Result Held CodecError → Type 0
Moves codec type sizes held result =
    EncodesMoved (type_taken codec) (coordinates codec) type sizes held result

-- where the codec accepts such chunks and the container holds a moved one, the answer is a container of the chunk moved back, or `OutOfMemory`
abbrev pub MovesBack : ArrayMapping → ElementType → List ℕ → Held → Result Held CodecError → Type 0
MovesBack codec type sizes held result =
    DecodesMoved (type_taken codec) (coordinates codec) type sizes held result

-- where a container holds no chunk that the codec accepts, it is handed on as it is, or the first error is returned
abbrev pub LeavesUnmoved : ArrayMapping → ElementType → List ℕ → Held → Result Held CodecError → Type 0
LeavesUnmoved codec type sizes held result =
    LeavesUnfit (type_taken codec) (coordinates codec) type sizes held result
