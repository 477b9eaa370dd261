-- Extension points, and the list of codecs, read from JSON.
-- Source: the Zarr v3 core specification, "Extension definition" and `codecs`.
use Rattle.std.specs.Prelude.{List, [], ◌∷◌, Option, option_and_then, ok_or, Result, Ok}
use Rattle.std.specs.Result.{result_ok}
use Rattle.serde_json.specs.Data.{Data, Items, no_items, item}
use Rattle.serde_json.specs.Find.{as_array}
use Rattle.zarrs_chunk.specs.Answer.{◌>>=◌}
use Rattle.zarrs_metadata.specs.Metadata.{Metadata, read_metadata}
use Rattle.zarrs_array_metadata.specs.declared.array_metadata_error.ArrayMetadataError.{ArrayMetadataError}
use Rattle.zarrs_array_metadata.specs.declared.array_metadata_error.ArrayMetadataError.TheVariants.{InvalidCodecs}

-- What an extension point says, where a tree is one: a name, or an object with a name and maybe a configuration, in which no number is a float.
abbrev pub extension_of : Data → Option Metadata
extension_of tree = result_ok (read_metadata tree)

-- the same of a tree that may be missing
abbrev pub extension_at : Option Data → Option Metadata
extension_at tree = option_and_then extension_of tree

-- the metadata that a list's items are, or the error
abbrev pub codecs_among : Items → Result (List Metadata) ArrayMetadataError
codecs_among no_items = Ok []
codecs_among (item tree items) = do
  codec ← ok_or (extension_of tree) InvalidCodecs
  codecs ← codecs_among items
  Ok (codec ∷ codecs)

-- The metadata of the codecs, or the error. Errors of the chain that they make aren't found here: names of codecs that aren't known, settings that a codec doesn't take, and lists that are no chain.
abbrev pub codec_list_at : Option Data → Result (List Metadata) ArrayMetadataError
codec_list_at tree = do
  items ← ok_or (option_and_then as_array tree) InvalidCodecs
  codecs_among items
