-- The type inside an optional one has fewer levels.
use Rattle.std.proofs.Common.{◌≤◌, max, arith}
use Rattle.zarrs_data_type.specs.ElementType.{optional_levels}
use Rattle.zarrs_data_type.specs.DataType.{type_of_kind}
use Rattle.zarrs_data_type.specs.declared.data_type.Kind.{Kind}
use Rattle.zarrs_data_type.specs.declared.data_type.Kind.TheVariants.{Fixed, Text, Bytes, Optional}
use Rattle.zarrs_data_type.specs.declared.data_type.DataType.TheDeep.{deep-Kind}

pub type_of_kind-optional_levels : (kind : Kind) → max (deep-Kind kind) 0 ≤ optional_levels (type_of_kind kind)
type_of_kind-optional_levels (Fixed c) = omega arith
type_of_kind-optional_levels Text = omega arith
type_of_kind-optional_levels Bytes = omega arith
type_of_kind-optional_levels (Optional inner) = omega arith
