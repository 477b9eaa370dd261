-- What is promised of the making of stages that read and write a chunk in part.
use Rattle.std.specs.Prelude.{◌≡◌, ℕ, List, Result}
use Rattle.zarrs_chunk.specs.Answer.{Answers, Gives, memory, seen}
use Rattle.zarrs_chunk.specs.declared.codec_error.CodecError.{CodecError}
use Rattle.zarrs_data_type.specs.ElementType.{ElementType}
use Rattle.zarrs_data_type.specs.Form.{Form, form_of}
use Rattle.zarrs_metadata.specs.Dims.{Dim}
use Rattle.zarrs_codec.specs.Refused.{outcome}
use Rattle.zarrs_codec.specs.declared.refused.Refused.{Refused}
use Rattle.zarrs_array_to_array.specs.ArrayToArrayCodec.{ArrayMapping, transpose, reshape, squeeze}
use Rattle.zarrs_array_to_array.specs.ArrayToArrayCodecPartial.{codec_of, sizes_of}
use Rattle.zarrs_array_to_array.specs.CodecAnswers.{moved_form}
use Rattle.zarrs_array_to_array.specs.Mapping.{mapping_of}
use Rattle.zarrs_array_to_array.specs.declared.array_to_array_codec.ArrayToArrayCodec.{ArrayToArrayCodec}
use Rattle.zarrs_array_to_array.specs.declared.array_to_array_codec_partial.ArrayToArrayCodecPartial.{ArrayToArrayCodecPartial}

-- The parts of a stage are made, an equal codec, as `view` shows it, and the sizes, where the codec accepts such chunks; else the first error is returned. Only `OutOfMemory` may come in its place.
abbrev pub MakesParts : {C S : Type 0} → (C → S) → C → ArrayMapping → Form → Result (C × List ℕ) CodecError → Type 0
MakesParts {S = S} view codec mapping form result =
    Answers {V = S × List ℕ} memory (λ parts. (view parts.0, parts.1)) result (seen (λ _. (view codec, form.sizes)) (moved_form mapping form))

-- A stage is made where the codec accepts such chunks; else the first error is returned.
abbrev pub MakesStage : {T I : Type 0} → ArrayMapping → Form → Result T (Refused I) → Type 0
MakesStage mapping form result = Gives (λ made. made) (outcome result) (seen (λ _. tt) (moved_form mapping form))

-- the stage has this codec and these sizes
abbrev pub IsStageOf : {C I : Type 0} → C → List ℕ → ArrayToArrayCodecPartial C I → Type 0
IsStageOf codec sizes stage = (codec_of stage ≡ codec) × (sizes_of stage ≡ sizes)

-- the stage has these sizes, and its codec is this one as plain data
abbrev pub IsStageOfMapping : {I : Type 0} → ArrayMapping → List ℕ → ArrayToArrayCodecPartial ArrayToArrayCodec I → Type 0
IsStageOfMapping mapping sizes stage = (mapping_of (codec_of stage) ≡ mapping) × (sizes_of stage ≡ sizes)

-- ---- what is made of a stage for chunks of these sizes, this type and this fill value, by the codec

-- a stage that transposes is made where the codec accepts such chunks, else the first error is returned
abbrev pub MakesTransposer : {T I : Type 0} → List ℕ → List ℕ → ElementType → List ℕ → Result T (Refused I) → Type 0
MakesTransposer order sizes type fill result = MakesStage (transpose order) (form_of sizes type fill) result

-- a stage that reshapes is made where the codec accepts such chunks, else the first error is returned
abbrev pub MakesReshaper : {T I : Type 0} → List Dim → List ℕ → ElementType → List ℕ → Result T (Refused I) → Type 0
MakesReshaper dims sizes type fill result = MakesStage (reshape dims) (form_of sizes type fill) result

-- those of a stage that squeezes
abbrev pub MakesSqueezerParts : {C : Type 0} → C → List ℕ → ElementType → List ℕ → Result (C × List ℕ) CodecError → Type 0
MakesSqueezerParts codec sizes type fill result =
    MakesParts (λ codec. codec) codec squeeze (form_of sizes type fill) result

-- a stage that squeezes is made where the codec accepts such chunks, else the first error is returned
abbrev pub MakesSqueezer : {T I : Type 0} → List ℕ → ElementType → List ℕ → Result T (Refused I) → Type 0
MakesSqueezer sizes type fill result = MakesStage squeeze (form_of sizes type fill) result

-- a stage of any of the codecs is made where the codec accepts such chunks, else the first error is returned
abbrev pub MakesMover : {T I : Type 0} → ArrayToArrayCodec → List ℕ → ElementType → List ℕ → Result T (Refused I) → Type 0
MakesMover codec sizes type fill result = MakesStage (mapping_of codec) (form_of sizes type fill) result
