-- Fill values read from JSON.
-- Source: the Zarr v3 core specification, "Fill value list"; zarr-extensions, `string` and `bytes`; zarrs, `zarrs.optional`.
use Rattle.std.specs.Prelude.{ℕ, zero, suc, ◌/◌, ◌==◌, ◌++◌, nat_lt, Bool, List, [], ◌∷◌, Option, Some, None, option_map, option_and_then, if◌then◌else◌}
use Rattle.std.specs.Int.{from_bool}
use Rattle.std.specs.Str.{is_utf8}
use Rattle.base64.specs.Engines.{standard}
use Rattle.base64.specs.GeneralPurpose.{decoded_of}
use Rattle.serde_json.specs.Data.{Data, null, boolean, number, string, array, object, Items, no_items, item}
use Rattle.serde_json.specs.Find.{as_array, as_bool, as_number, as_str, as_u64}
use Rattle.zarrs_fill_values.specs.Floats.{float_fill}
use Rattle.zarrs_fill_values.specs.Integers.{integer_fill}
use Rattle.zarrs_fill_values.specs.Words.{of_length}
use Rattle.zarrs_fill_values.specs.declared.element_name.FloatName.{FloatName}
use Rattle.zarrs_fill_values.specs.declared.element_name.PlainName.{PlainName}
use Rattle.zarrs_fill_values.specs.declared.element_name.PlainName.TheVariants as plain
use Rattle.zarrs_fill_values.specs.declared.element_name.ElementName.{ElementName}

-- the byte of a truth value
abbrev pub truth_fill : Bool → List ℕ
truth_fill truth = from_bool truth ∷ []

-- a number that is a byte
abbrev pub below_256 : ℕ → Option ℕ
below_256 n = if nat_lt n 256 then Some n else None

-- the byte that a JSON number is
abbrev pub json_byte : Data → Option ℕ
json_byte tree = option_and_then below_256 (option_and_then as_u64 (as_number tree))

-- the bytes that the items of a list are
abbrev pub json_bytes : Items → Option (List ℕ)
json_bytes no_items = Some []
json_bytes (item tree items) = option_and_then (λ byte. option_map (λ rest. byte ∷ rest) (json_bytes items)) (json_byte tree)

-- the bytes of a list of them, or of a text in base64, padded, as RFC 4648 has it
abbrev pub bytes_fill : Data → Option (List ℕ)
bytes_fill null = None
bytes_fill (boolean truth) = None
bytes_fill (number n) = None
bytes_fill (string text) = decoded_of standard text
bytes_fill (array items) = json_bytes items
bytes_fill (object entries) = None

-- how many items a list has
abbrev pub item_count : Items → ℕ
item_count no_items = 0
item_count (item tree items) = suc (item_count items)

-- the bytes of the floats that the items of a list are, one behind another
abbrev pub floats_in : FloatName → Items → Option (List ℕ)
floats_in name no_items = Some []
floats_in name (item tree items) = option_and_then (λ fill. option_map (λ rest. fill ++ rest) (floats_in name items)) (float_fill name tree)

-- the bytes of two floats, of the real part and of the imaginary one
abbrev pub complex_pair : FloatName → Items → Option (List ℕ)
complex_pair name items = if item_count items == 2 then floats_in name items else None

-- a complex number: a list of two floats
abbrev pub complex_fill : FloatName → Data → Option (List ℕ)
complex_fill name tree = option_and_then (complex_pair name) (as_array tree)

-- a text
abbrev pub text_fill : List ℕ → Option (List ℕ)
text_fill text = if is_utf8 text then Some text else None

-- the bytes of raw bits, so many of them
abbrev pub raw_fill : ℕ → Data → Option (List ℕ)
raw_fill bits tree = option_and_then (of_length (bits / 8)) (bytes_fill tree)

-- the fill value of a type whose elements are all there
abbrev pub plain_fill : PlainName → Data → Option (List ℕ)
plain_fill plain.Bool tree = option_map truth_fill (as_bool tree)
plain_fill (plain.Integer integer) tree = option_and_then (integer_fill integer) (as_number tree)
plain_fill (plain.Float name) tree = float_fill name tree
plain_fill (plain.Complex name) tree = complex_fill name tree
plain_fill (plain.Raw bits) tree = raw_fill bits tree
plain_fill plain.String tree = option_and_then text_fill (as_str tree)
plain_fill plain.Bytes tree = bytes_fill tree

-- the bytes of an element that is there: those of the element, and then 1
abbrev pub present : List ℕ → List ℕ
present fill = fill ++ 1 ∷ []

-- the only item of a list
abbrev pub lone : Items → Option Data
lone no_items = None
lone (item only no_items) = Some only
lone (item first (item second more)) = None

-- the fill value of an optional type: null is absent, and a list of one is present
abbrev pub optional_fill : (Data → Option (List ℕ)) → Data → Option (List ℕ)
optional_fill inner null = Some (0 ∷ [])
optional_fill inner (array items) = option_map present (option_and_then inner (lone items))
optional_fill inner _ = None

-- the fill value of a type with so many optional types round it
abbrev pub fill_in : ℕ → PlainName → Data → Option (List ℕ)
fill_in zero plain tree = plain_fill plain tree
fill_in (suc levels) plain tree = optional_fill (fill_in levels plain) tree

-- The fill value that JSON says, of a type by its name: the bytes of the element, where JSON says one.
abbrev pub fill_of : ElementName → Data → Option (List ℕ)
fill_of name tree = fill_in name.levels name.plain tree
