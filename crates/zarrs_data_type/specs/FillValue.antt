-- Which bytes are a fill value of a type.
-- Source: zarrs, `FillValue`.
use Rattle.std.specs.Prelude.{ℕ, ◌-◌, Bool, true, List, length, take, slice_index, nat_lt, ◌==◌, ◌&&◌, ◌||◌}
use Rattle.zarrs_data_type.specs.ElementType.{ElementType, fixed, text, bytes, optional, element_size}

-- an absent fill value: the one byte 0
abbrev pub is_null : List ℕ → Bool
is_null fill = (length fill == 1) && (slice_index fill 0 == 0)

-- a present fill value: its last byte is 1
abbrev pub ends_in_one : List ℕ → Bool
ends_in_one fill = nat_lt 0 (length fill) && (slice_index fill (length fill - 1) == 1)

-- what a present fill value has for the type inside: all but the last byte
abbrev pub front_of : List ℕ → List ℕ
front_of fill = take (length fill - 1) fill

-- The bytes are a fill value of the type: of a fixed type as many as an element has, of a variable type any, of an optional type the byte 0, or bytes that fit the type inside and then 1.
abbrev pub fill_fits : ElementType → List ℕ → Bool
fill_fits (fixed width count sign) fill = length fill == element_size width count
fill_fits (optional type) fill = is_null fill || (ends_in_one fill && fill_fits type (front_of fill))
fill_fits type fill = true
