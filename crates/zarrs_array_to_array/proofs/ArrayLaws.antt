-- What holds of each array-to-array codec.
use Rattle.std.proofs.Common.{◌≡◌, Bool, true, false, if◌then◌else◌, Result, Ok, Err, refl, subst}
use Rattle.zarrs_chunk.specs.Answer.{seen}
use Rattle.zarrs_metadata.specs.CodecMetadata.{codec_metadata, is_transpose_name, transpose_made, is_reshape_name, reshape_made, squeeze_made}
use Rattle.zarrs_metadata.specs.Metadata.{Metadata}
use Rattle.zarrs_metadata.specs.declared.plugin_create_error.PluginCreateError.{PluginCreateError}
use Rattle.zarrs_metadata.proofs.MadeAgain.{transpose-made_again, reshape-made_again}
use Rattle.zarrs_array_to_array.specs.ArrayToArrayCodec.{ArrayMapping, IsMapping, array_meaning, transpose, reshape, squeeze}
use Rattle.zarrs_array_to_array.specs.MappingMetadata.{is_mapping_name, mapping_configuration, mapping_made, mapping_name}
use Rattle.zarrs_array_to_array.proofs.LawfulArray.{IsLawfulArray}
use Rattle.zarrs_array_to_array.proofs.LawfulReshape.{reshape_laws}
use Rattle.zarrs_array_to_array.proofs.LawfulSqueeze.{squeeze_laws}
use Rattle.zarrs_array_to_array.proofs.LawfulTranspose.{transpose_laws}
use Rattle.zarrs_array_to_array.proofs.MadeSound.{dims_are, order_is, same_value}

pub array_laws : (codec : ArrayMapping) → IsLawfulArray (array_meaning codec)
array_laws (transpose order) = transpose_laws order
array_laws (reshape dims) = reshape_laws dims
array_laws squeeze = squeeze_laws

-- ---- metadata

-- what is written of a codec makes an equal one
pub mappings_made_again : (codec : ArrayMapping) → IsMapping codec → mapping_made (codec_metadata (mapping_name codec) (mapping_configuration codec)) ≡ Ok codec
mappings_made_again (transpose order) h = rw (transpose-made_again order h) refl
mappings_made_again (reshape dims) h = rw (reshape-made_again dims h) refl
mappings_made_again squeeze h = refl

-- the name that is written of a codec is one of an array-to-array codec
pub mapping_named : (codec : ArrayMapping) → is_mapping_name (mapping_name codec) ≡ true
mapping_named (transpose order) = refl
mapping_named (reshape dims) = refl
mapping_named squeeze = refl

-- what is made by a name, and what is made by any other
by_name : (t : Bool) (named rest : Result ArrayMapping PluginCreateError) (codec : ArrayMapping) → (named ≡ Ok codec → IsMapping codec) → (rest ≡ Ok codec → IsMapping codec)
    → (if t then named else rest) ≡ Ok codec → IsMapping codec
by_name true named rest codec f g e = f e
by_name false named rest codec f g e = g e

-- what is made of what a metadata has, where that holds to what its type does
made_of : {A : Type 0} (make : A → ArrayMapping) (read : Result A PluginCreateError) (codec : ArrayMapping) → ((x : A) → read ≡ Ok x → IsMapping (make x)) → seen make read ≡ Ok codec → IsMapping codec
made_of make (Ok x) codec f e = subst (λ (m : ArrayMapping). IsMapping m) (same_value (make x) codec e) (f x refl)
made_of make (Err x) codec f e = absurd (cc)

-- what is made of metadata holds to what its type does
pub made_is : (metadata : Metadata) (codec : ArrayMapping) → mapping_made metadata ≡ Ok codec → IsMapping codec
made_is metadata codec e =
    by_name (is_transpose_name metadata.name) (seen transpose (transpose_made metadata)) _ codec (made_of transpose (transpose_made metadata) codec (order_is metadata))
    (by_name (is_reshape_name metadata.name) (seen reshape (reshape_made metadata)) _ codec (made_of reshape (reshape_made metadata) codec (dims_are metadata))
    (made_of (λ _. squeeze) (squeeze_made metadata) codec (λ u h. tt)))
    e
