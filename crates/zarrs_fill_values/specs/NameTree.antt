-- Names of element types as JSON: a text, or an object with a name, of optional types with a type inside.
-- Source: the Zarr v3 core specification, data types; zarrs, data type `zarrs.optional`.
use Rattle.std.specs.Prelude.{ℕ, zero, suc, ◌||◌, nat_lt, Bool, true, false, is_some, List, Option, Some, None, option_and_then, ok_or, Result, Ok, Err, codes, if◌then◌else◌}
use Rattle.std.specs.Ordering.{nat_cmp, match_ordering}
use Rattle.std.specs.Cmp.Lexicographic.{slice_cmp}
use Rattle.std.specs.Str.{bytes_eq}
use Rattle.serde_json.specs.Data.{Data, null, boolean, number, string, array, object, Members, no_members, member}
use Rattle.serde_json.specs.Find.{as_str, get_member}
use Rattle.zarrs_chunk.specs.Answer.{◌>>=◌, seen}
use Rattle.zarrs_fill_values.specs.ElementName.{plain_name}
use Rattle.zarrs_fill_values.specs.Names.{plain_named, text_of}
use Rattle.zarrs_fill_values.specs.declared.element_error.ElementError.{ElementError}
use Rattle.zarrs_fill_values.specs.declared.element_error.ElementError.TheVariants.{UnsupportedDataType}
use Rattle.zarrs_fill_values.specs.declared.element_name.PlainName.{PlainName}
use Rattle.zarrs_fill_values.specs.declared.element_name.ElementName.{ElementName}

-- the type of a name, or the error
abbrev pub named : Option (List ℕ) → Result ElementName ElementError
named name = seen plain_name (ok_or (option_and_then plain_named name) UnsupportedDataType)

-- a text is one of the two names of optional types
abbrev pub is_optional_text : List ℕ → Bool
is_optional_text name = bytes_eq name (codes "zarrs.optional") || bytes_eq name (codes "optional")

-- the text at the key `name`
abbrev pub name_at : Members → Option (List ℕ)
name_at members = option_and_then as_str (get_member (codes "name") members)

-- the tree at the key `configuration`
abbrev pub configuration_at : Members → Option Data
configuration_at members = get_member (codes "configuration") members

-- an object names an optional type
abbrev pub names_optional : Option (List ℕ) → Bool
names_optional None = false
names_optional (Some name) = is_optional_text name

-- an object has no members
abbrev pub has_no_members : Members → Bool
has_no_members no_members = true
has_no_members (member key tree more) = false

-- nothing is configured: the key is missing, or it is null or an object without members
abbrev pub is_unconfigured : Option Data → Bool
is_unconfigured None = true
is_unconfigured (Some null) = true
is_unconfigured (Some (object members)) = has_no_members members
is_unconfigured _ = false

-- an object, where there is one
abbrev pub object_in : Option Data → Option Data
object_in (Some (object members)) = Some (object members)
object_in _ = None

-- what an object configures that names an optional type: the object that names the type inside
abbrev pub inner_tree : Members → Option Data
inner_tree members = if names_optional (name_at members) then object_in (configuration_at members) else None

-- the type that an object names without a configuration
abbrev pub bare_name : Members → Result ElementName ElementError
bare_name members = if is_unconfigured (configuration_at members) then named (name_at members) else Err UnsupportedDataType

-- one optional type more round it: at most 255 stand one in another
abbrev pub one_level_more : ElementName → Result ElementName ElementError
one_level_more name = if nat_lt name.levels 255 then Ok (record { plain = name.plain; levels = suc name.levels }) else Err UnsupportedDataType

-- the same of a type that was read
abbrev pub level_round : Result ElementName ElementError → Result ElementName ElementError
level_round inner = inner >>= one_level_more

abbrev mutual
  -- The type that a tree names, or the error. An object has a name, and of an optional type a configuration, which is an object that names the type inside. Other keys are passed over.
  pub name_in : Data → Result ElementName ElementError
  name_in null = Err UnsupportedDataType
  name_in (boolean truth) = Err UnsupportedDataType
  name_in (number value) = Err UnsupportedDataType
  name_in (string name) = named (Some name)
  name_in (array items) = Err UnsupportedDataType
  name_in (object members) = if is_some (inner_tree members) then level_round (name_configured members) else bare_name members

  -- the type that the configuration names
  pub name_configured : Members → Result ElementName ElementError
  name_configured no_members = Err UnsupportedDataType
  name_configured (member key tree rest) =
      match_ordering (slice_cmp nat_cmp (codes "configuration") key) (name_configured rest) (name_in tree) (name_configured rest)

-- the object that names an optional type, by that of the type inside
abbrev pub optional_object : Members → Members
optional_object inner = member (codes "configuration") (object inner) (member (codes "name") (string (codes "zarrs.optional")) no_members)

-- the object that names a type with so many optional types round it
abbrev pub name_object : ℕ → PlainName → Members
name_object zero plain = member (codes "name") (string (text_of plain)) no_members
name_object (suc levels) plain = optional_object (name_object levels plain)

-- how a type is named: by its text where elements are all there, else by an object
abbrev pub name_written : ℕ → PlainName → Data
name_written zero plain = string (text_of plain)
name_written (suc levels) plain = object (name_object (suc levels) plain)

-- how a type is written, with the optional types round it
abbrev pub name_tree : ElementName → Data
name_tree name = name_written name.levels name.plain
