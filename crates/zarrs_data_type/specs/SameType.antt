-- Whether two types are the same.
use Rattle.std.specs.Prelude.{Bool, true, false, not, ◌==◌, ◌&&◌}
use Rattle.zarrs_data_type.specs.ElementType.{ElementType, fixed, text, bytes, optional}

-- both have a sign, or neither has
abbrev pub is_same_sign : Bool → Bool → Bool
is_same_sign true sign = sign
is_same_sign false sign = not sign

-- both are fixed, with the same width, count and sign; both are text, or bytes; or both are optional, with the same type inside
abbrev pub is_same_type : ElementType → ElementType → Bool
is_same_type (fixed w c s) (fixed v d r) = (w == v) && (c == d) && is_same_sign s r
is_same_type text text = true
is_same_type bytes bytes = true
is_same_type (optional t) (optional u) = is_same_type t u
is_same_type _ _ = false
