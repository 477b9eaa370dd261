-- Fill values written as JSON.
use Rattle.std.specs.Prelude.{ℕ, zero, suc, ◌/◌, ◌*◌, true, false, List, [], ◌∷◌, take, drop, map, Option, Some, None, option_map, if◌then◌else◌}
use Rattle.std.specs.Str.{bytes_eq}
use Rattle.base64.specs.Engines.{standard}
use Rattle.base64.specs.GeneralPurpose.{encode_of}
use Rattle.serde_json.specs.Data.{Data, unsigned, null, boolean, number, string, array, no_items, item}
use Rattle.serde_json.specs.View.{items_of}
use Rattle.zarrs_data_type.specs.FillValue.{is_null, ends_in_one, front_of}
use Rattle.zarrs_fill_values.specs.FillValues.{text_fill}
use Rattle.zarrs_fill_values.specs.Floats.{float_size, float_shown}
use Rattle.zarrs_fill_values.specs.Integers.{integer_sized}
use Rattle.zarrs_fill_values.specs.Words.{of_length}
use Rattle.zarrs_fill_values.specs.declared.element_name.FloatName.{FloatName}
use Rattle.zarrs_fill_values.specs.declared.element_name.PlainName.{PlainName}
use Rattle.zarrs_fill_values.specs.declared.element_name.PlainName.TheVariants as plain
use Rattle.zarrs_fill_values.specs.declared.element_name.ElementName.{ElementName}

-- a truth value, of the bytes 0 and 1 alone
abbrev pub truth_shown : List ℕ → Option Data
truth_shown fill =
    if bytes_eq fill (0 ∷ []) then Some (boolean false)
    else if bytes_eq fill (1 ∷ []) then Some (boolean true)
    else None

-- a complex number: a list of its two floats
abbrev pub complex_shown : FloatName → List ℕ → Data
complex_shown name fill =
    array (item (float_shown name (take (float_size name) fill)) (item (float_shown name (drop (float_size name) fill)) no_items))

-- a list of bytes
abbrev pub bytes_list : List ℕ → Data
bytes_list fill = array (items_of (map (λ byte. number (unsigned byte)) fill))

-- the fill value of a type whose elements are all there: raw bits as a list of bytes, bytes of any length in base64
abbrev pub plain_shown : PlainName → List ℕ → Option Data
plain_shown plain.Bool fill = truth_shown fill
plain_shown (plain.Integer integer) fill = integer_sized integer fill
plain_shown (plain.Float name) fill = option_map (float_shown name) (of_length (float_size name) fill)
plain_shown (plain.Complex name) fill = option_map (complex_shown name) (of_length (2 * float_size name) fill)
plain_shown (plain.Raw bits) fill = option_map bytes_list (of_length (bits / 8) fill)
plain_shown plain.String fill = option_map string (text_fill fill)
plain_shown plain.Bytes fill = Some (string (encode_of standard fill))

-- a list of one
abbrev pub lone_list : Data → Data
lone_list tree = array (item tree no_items)

-- the fill value of an optional type: null where it is absent, else a list of one
abbrev pub optional_shown : (List ℕ → Option Data) → List ℕ → Option Data
optional_shown inner fill =
    if is_null fill then Some null
    else if ends_in_one fill then option_map lone_list (inner (front_of fill))
    else None

-- the fill value of a type with so many optional types round it
abbrev pub shown_in : ℕ → PlainName → List ℕ → Option Data
shown_in zero plain fill = plain_shown plain fill
shown_in (suc levels) plain fill = optional_shown (shown_in levels plain) fill

-- The JSON of a fill value, of a type by its name, where the bytes are those of an element.
abbrev pub shown : ElementName → List ℕ → Option Data
shown name fill = shown_in name.levels name.plain fill
