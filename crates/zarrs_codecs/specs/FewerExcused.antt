-- A law of the errors that a call may return in place of its answer.
use Rattle.std.specs.Prelude.{Result}
use Rattle.zarrs_chunk.specs.Answer.{AnswersBy, memory, memory_or_fault}
use Rattle.zarrs_chunk.specs.declared.codec_error.CodecError.{CodecError}
use Rattle.zarrs_data_type.specs.Element.{Chunk}
use Rattle.zarrs_data_type.specs.ElementType.{ElementType}
use Rattle.zarrs_array_bytes.specs.Held.{Held}
use Rattle.zarrs_array_bytes.specs.Validity.{Holds}

-- A call that answers a container of the expected chunk, but for a lack of memory, answers it but for a lack of memory or a failure of the handle.
abbrev pub FewerAreExcused : Type 0
FewerAreExcused =
    (type : ElementType) (result : Result Held CodecError) (expected : Result Chunk CodecError)
    → AnswersBy memory (Holds type) result expected → AnswersBy memory_or_fault (Holds type) result expected
