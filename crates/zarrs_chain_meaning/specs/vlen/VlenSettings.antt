-- The settings of vlen as contracts see them.
-- Source: codec.zarrs.dev, `vlen`.
use Rattle.std.specs.Prelude.{Bool, true, false}
use Rattle.zarrs_metadata.specs.declared.codec.vlen.VlenIndexDataType.{VlenIndexDataType}
use Rattle.zarrs_metadata.specs.declared.codec.vlen.VlenIndexDataType.TheVariants.{UInt32, UInt64}
use Rattle.zarrs_metadata.specs.declared.codec.vlen.VlenIndexLocation.{VlenIndexLocation}
use Rattle.zarrs_metadata.specs.declared.codec.vlen.VlenIndexLocation.TheVariants.{Start, End}

-- offsets have 64 bits
abbrev pub is_wide : VlenIndexDataType → Bool
is_wide UInt32 = false
is_wide UInt64 = true

-- the index stands at the end
abbrev pub is_at_end : VlenIndexLocation → Bool
is_at_end Start = false
is_at_end End = true

-- the type of offsets that have 64 bits, or 32
abbrev pub offset_type_of : Bool → VlenIndexDataType
offset_type_of false = UInt32
offset_type_of true = UInt64

-- where an index stands
abbrev pub index_place : Bool → VlenIndexLocation
index_place false = Start
index_place true = End
