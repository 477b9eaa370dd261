-- What a range of bytes is seen as.
-- Source: zarrs, `ByteRange`.
use Rattle.std.specs.Prelude.{ℕ}

-- a range of bytes: the number of its first byte, and of the first one behind it
pub record ByteSpan : Type 0 where
  pub start : ℕ
  pub end : ℕ
