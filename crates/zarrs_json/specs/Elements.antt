-- Elements as JSON: a list of them, each by the type.
use Rattle.std.specs.Prelude.{ℕ, List, [], ◌∷◌, ◌==◌, length, map, Option, Some, None, ok_or, Result, Ok, Err}
use Rattle.std.specs.Result.{result_ok}
use Rattle.hex.specs.Hex.{decode_of}
use Rattle.serde_json.specs.Data.{Data, null, boolean, number, string, array, object, Items, no_items, item}
use Rattle.serde_json.specs.Find.{as_array}
use Rattle.serde_json.specs.View.{items_of}
use Rattle.zarrs_chunk.specs.Answer.{◌>>=◌, demand, seen}
use Rattle.zarrs_chunk.specs.declared.codec_error.CodecError.TheVariants.{ArrayBytesKind, InvalidBytesLength}
use Rattle.zarrs_data_type.specs.Element.{Element, plain, absent, present, Chunk}
use Rattle.zarrs_data_type.specs.ElementType.{ElementType, fixed, text, bytes, optional, fixed_size_of}
use Rattle.zarrs_array_bytes.specs.Elements.{element_at}
use Rattle.zarrs_array_bytes.specs.Held.{Held}
use Rattle.zarrs_json.specs.declared.refusal.Refusal.{Refusal}
use Rattle.zarrs_json.specs.declared.refusal.Refusal.TheVariants.{Syntax, Codec}
use Rattle.zarrs_json.specs.Json.{hex_tree, lone_item}

-- ---- read

-- the bytes of a hex text, where an element's bytes are due; null and a list are elements of other types
abbrev pub bytes_shown : Data → Result (List ℕ) Refusal
bytes_shown null = Err (Codec ArrayBytesKind)
bytes_shown (boolean truth) = Err Syntax
bytes_shown (number value) = Err Syntax
bytes_shown (string hex) = ok_or (result_ok (decode_of hex)) Syntax
bytes_shown (array items) = Err (Codec ArrayBytesKind)
bytes_shown (object entries) = Err Syntax

-- an element that is bytes: so many of them, or any number
abbrev pub plain_in : Option ℕ → Data → Result Element Refusal
plain_in None tree = seen plain (bytes_shown tree)
plain_in (Some size) tree = do
  found ← bytes_shown tree
  _ ← demand (length found == size) (Codec (InvalidBytesLength (length found) size))
  Ok (plain found)

-- an element that is present, by the only tree in a list
abbrev pub present_in : (Data → Result Element Refusal) → Option Data → Result Element Refusal
present_in inner None = Err Syntax
present_in inner (Some tree) = seen present (inner tree)

-- an element that may be absent: null, or a list of one element
abbrev pub optional_in : (Data → Result Element Refusal) → Data → Result Element Refusal
optional_in inner null = Ok absent
optional_in inner (boolean truth) = Err Syntax
optional_in inner (number value) = Err Syntax
optional_in inner (string hex) = Err Syntax
optional_in inner (array items) = present_in inner (lone_item items)
optional_in inner (object entries) = Err Syntax

-- the element of a type that a tree shows
abbrev pub element_shown : ElementType → Data → Result Element Refusal
element_shown (fixed width count sign) tree = plain_in (fixed_size_of (fixed width count sign)) tree
element_shown text tree = plain_in None tree
element_shown bytes tree = plain_in None tree
element_shown (optional type) tree = optional_in (element_shown type) tree

-- the elements in list order, or the error of the first that is rejected
abbrev pub elements_shown : ElementType → Items → Result Chunk Refusal
elements_shown type no_items = Ok []
elements_shown type (item tree items) = do
  element ← element_shown type tree
  elements ← elements_shown type items
  Ok (element ∷ elements)

-- the elements of a type that a list shows, or the first error
abbrev pub elements_of : ElementType → Data → Result Chunk Refusal
elements_of type tree = do
  items ← ok_or (as_array tree) Syntax
  elements_shown type items

-- ---- shown

-- an element as JSON: the hex text of its bytes; null where it is absent, and a list of one where it is present in an optional type
abbrev pub element_tree : Element → Data
element_tree (plain items) = hex_tree items
element_tree absent = null
element_tree (present element) = array (item (element_tree element) no_items)

-- the element at a place of a container as JSON
abbrev pub tree_at : ElementType → Held → ℕ → Data
tree_at type held place = element_tree (element_at type held place)

-- the elements of a chunk as JSON
abbrev pub chunk_tree : Chunk → Data
chunk_tree chunk = array (items_of (map element_tree chunk))
