-- The metadata of codecs that move elements.
use Rattle.std.specs.Prelude.{◌||◌, ℕ, Bool, List, Result, if◌then◌else◌}
use Rattle.zarrs_metadata.specs.Data.{Members}
use Rattle.zarrs_chunk.specs.Answer.{seen}
use Rattle.zarrs_metadata.specs.CodecMetadata.{is_transpose_name, transpose_made, is_reshape_name, reshape_made, is_squeeze_name, squeeze_made}
use Rattle.zarrs_metadata.specs.Metadata.{Metadata}
use Rattle.zarrs_metadata.specs.PluginCreateError.{Makes}
use Rattle.zarrs_metadata.specs.declared.plugin_create_error.PluginCreateError.{PluginCreateError}
use Rattle.zarrs_array_to_array.specs.ArrayToArrayCodec.{ArrayMapping, array_meaning, transpose, reshape, squeeze}

-- the name is one of an array-to-array codec
abbrev pub is_mapping_name : List ℕ → Bool
is_mapping_name name = is_transpose_name name || is_reshape_name name || is_squeeze_name name

-- the codec of a metadata, by its name, or the first error; no other name is known
abbrev pub mapping_made : Metadata → Result ArrayMapping PluginCreateError
mapping_made metadata =
    if is_transpose_name metadata.name then seen transpose (transpose_made metadata)
    else if is_reshape_name metadata.name then seen reshape (reshape_made metadata)
    else seen (λ _. squeeze) (squeeze_made metadata)

-- the name that is written of a codec
abbrev pub mapping_name : ArrayMapping → List ℕ
mapping_name codec = (array_meaning codec).name

-- the members of the configuration that are written of a codec
abbrev pub mapping_configuration : ArrayMapping → Members
mapping_configuration codec = (array_meaning codec).configuration

-- the codec that is made is the expected one, or the first error is returned
abbrev pub MakesCodec : {C : Type 0} → Result C PluginCreateError → Result C PluginCreateError → Type 0
MakesCodec result expected = Makes (λ codec. codec) result expected
