-- How many bytes the value of a chunk has.
-- Source: zarrs, `BytesRepresentation`.
use Rattle.std.specs.Prelude.{ℕ, Option, Some, None}
use Rattle.zarrs_codec.specs.declared.bytes_representation.BytesRepresentation.{BytesRepresentation}
use Rattle.zarrs_codec.specs.declared.bytes_representation.BytesRepresentation.TheVariants.{FixedSize, BoundedSize, UnboundedSize}

-- the number of bytes, or the greatest one; none, where there is no bound
abbrev pub greatest_size : BytesRepresentation → Option ℕ
greatest_size (FixedSize size) = Some size
greatest_size (BoundedSize size) = Some size
greatest_size UnboundedSize = None
