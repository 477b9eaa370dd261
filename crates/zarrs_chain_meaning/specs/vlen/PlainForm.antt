-- The form of a plain `vlen`: what its codecs leave open.
use Rattle.std.specs.Prelude.{Bool, Option, Some, None}
use Rattle.zarrs_data_type.specs.declared.endianness.Endianness.{Endianness}

-- what a plain `vlen` leaves open: the byte order of the offsets, whether they have 64 bits, whether the index stands at the end
pub record PlainForm : Type 0 where
  pub order : Endianness
  pub wide : Bool
  pub at_end : Bool

-- the form of a `vlen`, where its index chain is a lone `bytes` with a byte order and its data chain a lone `bytes`; none of any other
abbrev pub form_of_chains : Option (Option Endianness) → Option (Option Endianness) → Bool → Bool → Option PlainForm
form_of_chains (Some (Some order)) (Some content) wide at_end =
    Some (record { order = order; wide = wide; at_end = at_end })
form_of_chains _ _ wide at_end = None
