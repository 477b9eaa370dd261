-- Keys that the metadata of an array may have.
-- Source: the Zarr v3 core specification, "Array metadata".
use Rattle.std.specs.Prelude.{ℕ, ◌==◌, Bool, true, false, List, [], ◌∷◌, Vec, map, Option, Some, None, option_map, option_and_then, ok_or, Result, Ok, Err, String, string_bytes}
use Rattle.std.specs.declared.alloc.Global.{Global}
use Rattle.serde_json.specs.Data.{Data, null, boolean, number, string, array, object, Items, no_items, item, Members}
use Rattle.serde_json.specs.Events.{items_len}
use Rattle.serde_json.specs.Find.{as_object}
use Rattle.zarrs_chunk.specs.Answer.{◌>>=◌, demand, seen}
use Rattle.zarrs_array_metadata.specs.declared.array_metadata_error.ArrayMetadataError.{ArrayMetadataError}
use Rattle.zarrs_array_metadata.specs.declared.array_metadata_error.ArrayMetadataError.TheVariants.{InvalidAttributes, InvalidDimensionNames}

-- the attributes, where there are some: an object
abbrev pub attributes_at : Option Data → Result (Option Members) ArrayMetadataError
attributes_at None = Ok None
attributes_at (Some tree) = seen Some (ok_or (as_object tree) InvalidAttributes)

-- no storage transformer is listed: the key is missing, or it is null or a list of none
abbrev pub has_no_transformers : Option Data → Bool
has_no_transformers None = true
has_no_transformers (Some null) = true
has_no_transformers (Some (array items)) = items_len items == 0
has_no_transformers _ = false

-- the name of an axis, where it has one
abbrev pub name_seen : Option (String Global) → Option (List ℕ)
name_seen name = option_map string_bytes name

-- the names of axes
abbrev pub names_seen : Vec (Option (String Global)) Global → List (Option (List ℕ))
names_seen names = map name_seen names.items

-- the name of an axis, or that it has none, where a tree says either
abbrev pub dimension_name_in : Data → Option (Option (List ℕ))
dimension_name_in null = Some None
dimension_name_in (boolean truth) = None
dimension_name_in (number n) = None
dimension_name_in (string name) = Some (Some name)
dimension_name_in (array items) = None
dimension_name_in (object entries) = None

-- the names that a list's items are
abbrev pub names_among : Items → Option (List (Option (List ℕ)))
names_among no_items = Some []
names_among (item tree items) = option_and_then (λ name. option_map (λ names. name ∷ names) (names_among items)) (dimension_name_in tree)

-- the names of so many axes, which a list's items are
abbrev pub names_in : ℕ → Items → Result (List (Option (List ℕ))) ArrayMetadataError
names_in axes items = do
  _ ← demand (items_len items == axes) InvalidDimensionNames
  ok_or (names_among items) InvalidDimensionNames

-- the names of so many axes, where there are some: null counts as missing
abbrev pub dimension_names_at : ℕ → Option Data → Result (Option (List (Option (List ℕ)))) ArrayMetadataError
dimension_names_at axes None = Ok None
dimension_names_at axes (Some null) = Ok None
dimension_names_at axes (Some (array items)) = seen Some (names_in axes items)
dimension_names_at axes _ = Err InvalidDimensionNames
