-- What decoding into a target answers.
-- Source: zarrs, `decode_into`.
use Rattle.std.specs.Prelude.{ℕ, List, Result}
use Rattle.zarrs_chunk.specs.Answer.{◌>>=◌, AnswersBy, memory}
use Rattle.zarrs_chunk.specs.ChunkShape.{product}
use Rattle.zarrs_chunk.specs.declared.codec_error.CodecError.{CodecError}
use Rattle.zarrs_data_type.specs.Element.{Chunk}
use Rattle.zarrs_data_type.specs.Form.{Form}
use Rattle.zarrs_array_bytes.specs.ArrayBytesDecodeIntoTarget.{target_of}
use Rattle.zarrs_array_bytes.specs.DecodeTarget.{TargetHolds, target_fit}
use Rattle.zarrs_array_bytes.specs.declared.array_bytes_decode_into_target.ArrayBytesDecodeIntoTarget.{ArrayBytesDecodeIntoTarget}
use Rattle.zarrs_codec.specs.declared.bytes_representation.BytesRepresentation.{BytesRepresentation}

-- the chunk that is written, or the first error: the codec's representation, the target, the value
abbrev pub decoded_into : {R : Type 0} → Result R CodecError → Result (Unit {0}) CodecError → Result Chunk CodecError → Result Chunk CodecError
decoded_into representation fit chunk = do
  _ ← representation
  _ ← fit
  chunk

-- The chunk that the codec reads of the value is written at the target's places, or the first error is returned: of the codec's representation, of the target, of the value. Only lack of memory may come in its place.
abbrev pub DecodesInto : (Form → Result BytesRepresentation CodecError) → (Form → List ℕ → Result Chunk CodecError) → ArrayBytesDecodeIntoTarget → ArrayBytesDecodeIntoTarget → Form → List ℕ → Result (Unit {0}) CodecError → Type 0
DecodesInto represented decoded before after form value result =
    AnswersBy memory (λ _ chunk. TargetHolds form.type (target_of before) (target_of after) chunk) result
    (decoded_into (represented form) (target_fit form.type (product form.sizes) (target_of before)) (decoded form value))
