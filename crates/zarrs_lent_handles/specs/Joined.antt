-- Ranges of bytes in order, joined.
use Rattle.std.specs.Prelude.{◌≡◌, ℕ, ◌+◌, ◌&&◌, nat_le, nat_lt, max, Bool, true, List, [], ◌∷◌, if◌then◌else◌}
use Rattle.std.specs.List.{list_any}
use Rattle.zarrs_codec.specs.ByteSpan.{ByteSpan}

-- the range has the byte of this number
abbrev pub has_number : ByteSpan → ℕ → Bool
has_number range number = nat_le range.start number && nat_lt number range.end

-- one of the ranges has it
abbrev pub have_number : List ByteSpan → ℕ → Bool
have_number ranges number = list_any (λ range. has_number range number) ranges

-- the ranges come in order from a number on, each has a byte, and between one and the next is at least one
abbrev pub ranges_apart : ℕ → List ByteSpan → Bool
ranges_apart free [] = true
ranges_apart free (range ∷ ranges) =
    nat_le free range.start && (nat_lt range.start range.end && ranges_apart (range.end + 1) ranges)

-- Ranges have the same bytes as those of the first list, each has a byte, and at least one byte lies between one and the next.
pub record Joins (ranges joined : List ByteSpan) : Type 0 where
  pub apart : ranges_apart 0 joined ≡ true
  pub same : (number : ℕ) → have_number joined number ≡ have_number ranges number

-- a range before others, unless it is empty
abbrev pub filled : ℕ → ℕ → List ByteSpan → List ByteSpan
filled start end ranges = if nat_lt start end then record { start = start; end = end } ∷ ranges else ranges

-- ranges that come in order, joined with one before them, of which none of them begins before the start; empty ones are passed over
abbrev pub joined_from : ℕ → ℕ → List ByteSpan → List ByteSpan
joined_from start end [] = filled start end []
joined_from start end (range ∷ ranges) =
    if nat_le range.end range.start then joined_from start end ranges
    else (if nat_le range.start end then joined_from start (max end range.end) ranges else filled start end (joined_from range.start range.end ranges))
