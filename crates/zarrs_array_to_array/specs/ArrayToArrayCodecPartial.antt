-- What a reading stage is made of.
use Rattle.std.specs.Prelude.{ℕ, List}
use Rattle.zarrs_array_to_array.specs.declared.array_to_array_codec_partial.ArrayToArrayCodecPartial.{ArrayToArrayCodecPartial}

-- the reader of the moved chunk that a stage is over
abbrev pub input_of : {C I : Type 0} → ArrayToArrayCodecPartial C I → I
input_of stage = stage.input

-- the codec
abbrev pub codec_of : {C I : Type 0} → ArrayToArrayCodecPartial C I → C
codec_of stage = stage.codec

-- the sizes of the decoded chunk
abbrev pub sizes_of : {C I : Type 0} → ArrayToArrayCodecPartial C I → List ℕ
sizes_of stage = stage.shape
