-- What is written of names and of fill values is read again.
use Rattle.std.specs.Prelude.{◌≡◌, ◌≤◌, ◌<◌, ◌^◌, ℕ, true, List, Some, Ok, IsSome}
use Rattle.serde_json.specs.Data.{Data}
use Rattle.zarrs_data_type.specs.ElementType.{ElementType}
use Rattle.zarrs_data_type.specs.FillValue.{fill_fits}
use Rattle.zarrs_fill_values.specs.ElementName.{is_raw, type_of}
use Rattle.zarrs_fill_values.specs.FillValues.{fill_of}
use Rattle.zarrs_fill_values.specs.NameTree.{name_in, name_tree}
use Rattle.zarrs_fill_values.specs.Shown.{shown}
use Rattle.zarrs_fill_values.specs.Words.{IsBytes}
use Rattle.zarrs_fill_values.specs.declared.element_name.PlainName.{PlainName}
use Rattle.zarrs_fill_values.specs.declared.element_name.PlainName.TheVariants as plain
use Rattle.zarrs_fill_values.specs.declared.element_name.ElementName.{ElementName}

-- what is shown of a fill value is read again as the same bytes, whatever its bits are
abbrev pub ShownIsRead : Type 0
ShownIsRead = (name : ElementName) (fill : List ℕ) (tree : Data) → IsBytes fill → shown name fill ≡ Some tree → fill_of name tree ≡ Some fill

-- each fill value that is read can be shown
abbrev pub ReadIsShown : Type 0
ReadIsShown = (name : ElementName) (tree : Data) (fill : List ℕ) → fill_of name tree ≡ Some fill → IsSome (shown name fill)

-- the bytes of a fill value that is read are a fill value of the type of chunks
abbrev pub ReadFits : Type 0
ReadFits = (name : ElementName) (type : ElementType) (tree : Data) (fill : List ℕ) → type_of name ≡ Ok type → fill_of name tree ≡ Some fill → fill_fits type fill ≡ true

-- raw bits are whole bytes, one at least, and a number of 64 bits
abbrev pub IsNamed : PlainName → Type 0
IsNamed (plain.Raw bits) = (is_raw bits ≡ true) × (bits < 2 ^ 64)
IsNamed _ = Unit {0}

-- how a type is named is read as the type
abbrev pub NameIsRead : Type 0
NameIsRead = (name : ElementName) → IsNamed name.plain → name.levels ≤ 255 → name_in (name_tree name) ≡ Ok name
