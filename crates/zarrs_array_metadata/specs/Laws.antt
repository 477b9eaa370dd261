-- What is written of an array's metadata, and read again.
use Rattle.std.specs.Prelude.{◌≡◌, ◌≤◌, ℕ, true, false, List, length, Option, Some, None, Ok, IsOk, String, string_bytes, codes}
use Rattle.std.specs.declared.alloc.Global.{Global}
use Rattle.serde_json.specs.Data.{Data, object, Members, depth}
use Rattle.serde_json.specs.Find.{get_member}
use Rattle.serde_json.specs.Read.{read, max_depth}
use Rattle.zarrs_chunk.specs.ChunkShape.{shape_of}
use Rattle.zarrs_fill_values.specs.ElementName.{type_of}
use Rattle.zarrs_fill_values.specs.Laws.{IsNamed}
use Rattle.zarrs_fill_values.specs.Words.{IsBytes}
use Rattle.zarrs_metadata.specs.MetadataList.{have_no_float}
use Rattle.zarrs_array_metadata.specs.Additional.{is_array_key, additional_of, first_unknown}
use Rattle.zarrs_array_metadata.specs.ArrayMetadata.{ArrayMetadata, array_in, array_of}
use Rattle.zarrs_array_metadata.specs.Written.{write_array}

-- where axes have names, there is one of each, or that it has none
abbrev pub AreNamesOf : List ℕ → Option (List (Option (List ℕ))) → Type 0
AreNamesOf shape None = Unit {0}
AreNamesOf shape (Some names) = length names ≡ length shape

-- An array's metadata is as `zarr.json` can say it: its type is that of its name; no size of a chunk is zero, and a chunk has as many axes as the array; no number of its codecs' configurations is a float; and the other keys have no meaning, and each of their members is understood, or need not be.
pub record IsArrayMetadata (m : ArrayMetadata) : Type 0 where
  pub named : IsNamed m.element_name.plain
  pub levels : m.element_name.levels ≤ 255
  pub typed : type_of m.element_name ≡ Ok m.data_type
  pub positive : shape_of m.chunk_shape ≡ Some m.chunk_shape
  pub axes : length m.chunk_shape ≡ length m.shape
  pub codecs : have_no_float m.codecs ≡ true
  pub names : AreNamesOf m.shape m.dimension_names
  pub additional : additional_of m.additional ≡ m.additional
  pub understood : first_unknown m.additional ≡ None

-- a text is JSON that is read as this tree, where lists and objects in each other aren't too deep
abbrev pub IsTextOf : String Global → Data → Type 0
IsTextOf text tree = depth tree ≤ max_depth → read (string_bytes text) ≡ Some tree

-- What is written of metadata is read again as the same.
abbrev pub WrittenIsRead : Type 0
WrittenIsRead = (m : ArrayMetadata) (tree : Data) → IsArrayMetadata m → IsBytes m.fill_value → write_array m ≡ Ok tree → array_of tree ≡ Ok m

-- What is read can be written, and is metadata that is read again.
abbrev pub ReadIsWritten : Type 0
ReadIsWritten = (tree : Data) (m : ArrayMetadata) → array_of tree ≡ Ok m → IsArrayMetadata m × IsOk (write_array m)

-- What is read and written has attributes, and the keys that have no meaning, as they were.
abbrev pub KeptAsItWas : Type 0
KeptAsItWas =
    (members written : Members) (m : ArrayMetadata) → array_in members ≡ Ok m → write_array m ≡ Ok (object written)
    → (get_member (codes "attributes") written ≡ get_member (codes "attributes") members)
    × ((key : List ℕ) → is_array_key key ≡ false → get_member key written ≡ get_member key members)
