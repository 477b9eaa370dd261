-- Keys of an array's metadata that Zarr doesn't know.
-- Source: the Zarr v3 core specification, "Array metadata" and "Metadata extension".
use Rattle.std.specs.Prelude.{ℕ, Bool, false, not, ◌||◌, List, Option, Some, None, option_and_then, Result, Ok, Err, codes, if◌then◌else◌}
use Rattle.std.specs.Str.{bytes_eq}
use Rattle.serde_json.specs.Data.{Data, Members, no_members, member, put}
use Rattle.serde_json.specs.Find.{as_bool, as_object, get_member}
use Rattle.zarrs_array_metadata.specs.declared.array_metadata_error.ArrayMetadataError.{ArrayMetadataError}
use Rattle.zarrs_array_metadata.specs.declared.array_metadata_error.ArrayMetadataError.TheVariants.{UnknownKey}

-- the metadata of an array has a meaning for this key
abbrev pub is_array_key : List ℕ → Bool
is_array_key key =
    bytes_eq key (codes "attributes") || bytes_eq key (codes "chunk_grid") || bytes_eq key (codes "chunk_key_encoding") || bytes_eq key (codes "codecs")
    || bytes_eq key (codes "data_type") || bytes_eq key (codes "dimension_names") || bytes_eq key (codes "fill_value") || bytes_eq key (codes "node_type")
    || bytes_eq key (codes "shape") || bytes_eq key (codes "storage_transformers") || bytes_eq key (codes "zarr_format")

-- the members of other keys, in order, as they are
abbrev pub additional_of : Members → Members
additional_of no_members = no_members
additional_of (member key tree members) = if is_array_key key then additional_of members else member key tree (additional_of members)

-- the members with one more, unless its key has a meaning
abbrev pub with_additional : List ℕ → Data → Members → Members
with_additional key tree members = if is_array_key key then members else put key tree members

-- true where something is stated, and it is false
abbrev pub is_denied : Option Bool → Bool
is_denied None = false
is_denied (Some truth) = not truth

-- a value is an object that states that it need not be understood
abbrev pub may_be_passed_over : Data → Bool
may_be_passed_over tree =
    is_denied (option_and_then as_bool (option_and_then (get_member (codes "must_understand")) (as_object tree)))

-- A member is understood, or need not be: its key has a meaning, or its value says so. What others have consolidated is passed over, whatever it is.
abbrev pub is_accepted : List ℕ → Data → Bool
is_accepted key tree = is_array_key key || bytes_eq key (codes "consolidated_metadata") || may_be_passed_over tree

-- the first key, in order, whose member isn't understood and has to be
abbrev pub first_unknown : Members → Option (List ℕ)
first_unknown no_members = None
first_unknown (member key tree members) = if is_accepted key tree then first_unknown members else Some key

-- no error is due where there is no such key
abbrev pub unless_unknown : Option (List ℕ) → Result (Unit {0}) ArrayMetadataError
unless_unknown None = Ok tt
unless_unknown (Some key) = Err (UnknownKey key)

-- each member is understood, or need not be; else the error names the first key that isn't
abbrev pub all_understood : Members → Result (Unit {0}) ArrayMetadataError
all_understood members = unless_unknown (first_unknown members)
