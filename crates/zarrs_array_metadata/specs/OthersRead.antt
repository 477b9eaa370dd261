-- What the keys say that the metadata of an array may have, and which other keys it has.
use Rattle.std.specs.Prelude.{ℕ, List, Option, option_map, Result, Ok, codes}
use Rattle.serde_json.specs.Data.{Members}
use Rattle.serde_json.specs.Find.{get_member}
use Rattle.zarrs_chunk.specs.Answer.{◌>>=◌, demand}
use Rattle.zarrs_metadata.specs.MetadataV3.{configuration_seen}
use Rattle.zarrs_array_metadata.specs.Additional.{additional_of, all_understood}
use Rattle.zarrs_array_metadata.specs.OtherKeys.{attributes_at, has_no_transformers, names_seen, dimension_names_at}
use Rattle.zarrs_array_metadata.specs.declared.array_metadata_error.ArrayMetadataError.{ArrayMetadataError}
use Rattle.zarrs_array_metadata.specs.declared.array_metadata_error.ArrayMetadataError.TheVariants.{UnsupportedStorageTransformers}
use Rattle.zarrs_array_metadata.specs.declared.others.OtherKeys.{OtherKeys}

-- The attributes and the names of axes, where they are given, and the members of all other keys, as they are.
pub record Others : Type 0 where
  pub attributes : Option Members
  pub dimension_names : Option (List (Option (List ℕ)))
  pub additional : Members

-- what these are seen as
abbrev pub others_seen : OtherKeys → Others
others_seen keys = record { attributes = option_map configuration_seen keys.attributes; dimension_names = option_map names_seen keys.dimension_names; additional = configuration_seen keys.additional }

-- what these keys say of an array of so many axes, or the first error
abbrev pub others_in : ℕ → Members → Result Others ArrayMetadataError
others_in axes members = do
  attributes ← attributes_at (get_member (codes "attributes") members)
  _ ← demand (has_no_transformers (get_member (codes "storage_transformers") members)) UnsupportedStorageTransformers
  dimension_names ← dimension_names_at axes (get_member (codes "dimension_names") members)
  _ ← all_understood members
  Ok (record { attributes = attributes; dimension_names = dimension_names; additional = additional_of members })
