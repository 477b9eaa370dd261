-- Which bytes a read lacks, of a value of which pieces are at hand.
use Rattle.std.specs.Prelude.{◌≡◌, ℕ, ◌+◌, ◌&&◌, ◌||◌, nat_le, nat_lt, not, max, Bool, true, Option, Some, None, List, [], ◌∷◌, length, Vec, if◌then◌else◌}
use Rattle.std.specs.List.{list_all}
use Rattle.std.specs.declared.alloc.Global.{Global}
use Rattle.zarrs_chunk.specs.declared.codec_error.StorageError.{StorageError}
use Rattle.zarrs_codec.specs.ByteRanges.{range_indices}
use Rattle.zarrs_codec.specs.ByteSpan.{ByteSpan}
use Rattle.zarrs_lent_handles.specs.Joined.{filled, have_number, ranges_apart}
use Rattle.zarrs_lent_handles.specs.Pieces.{PlainPiece, is_at_hand}

-- a value of so many bytes has the byte of this number, and it isn't at hand
abbrev pub is_lacking : ℕ → List PlainPiece → ℕ → Bool
is_lacking len pieces number = nat_lt number len && not (is_at_hand pieces number)

-- one of the bytes of ranges is lacking
pub record LacksOne (len : ℕ) (pieces : List PlainPiece) (asked : List ByteSpan) : Type 0 where
  pub number : ℕ
  pub is_asked : have_number asked number ≡ true
  pub lacks : is_lacking len pieces number ≡ true

-- The ranges have those bytes of the asked ones that are lacking, and no others. They come in order, each has a byte, and between one and the next is at least one.
pub record AreLacking (len : ℕ) (pieces : List PlainPiece) (asked ranges : List ByteSpan) : Type 0 where
  pub apart : ranges_apart 0 ranges ≡ true
  pub same : (number : ℕ) → have_number ranges number ≡ (have_number asked number && is_lacking len pieces number)

-- all bytes of ranges are lacking; they come in order, each has a byte, and between one and the next is at least one
abbrev pub are_all_lacking : ℕ → List PlainPiece → List ByteSpan → Bool
are_all_lacking len pieces ranges = ranges_apart 0 ranges && list_all (is_lacking len pieces) (range_indices ranges)

-- ---- before they are returned

-- the parts of a range, from one number to another, that none of these pieces has, which stand apart
abbrev pub gaps_from : ℕ → ℕ → List PlainPiece → List ByteSpan
gaps_from start end [] = filled start end []
gaps_from start end (piece ∷ pieces) =
    if nat_le end piece.start then filled start end [] else filled start piece.start (gaps_from (max start (piece.start + length piece.bytes)) end pieces)

-- Ranges have besides the bytes that they had those of the asked ranges that are lacking.
pub record AddsLacking (len : ℕ) (pieces : List PlainPiece) (asked before after : List ByteSpan) : Type 0 where
  pub same : (number : ℕ) → have_number after number ≡ (have_number before number || (have_number asked number && is_lacking len pieces number))

-- the ranges that a handle keeps; none, where it keeps no list
abbrev pub ranges_kept : Option (Vec ByteSpan Global) → List ByteSpan
ranges_kept None = []
ranges_kept (Some ranges) = ranges.items

-- a list has ranges just where there was a failure
abbrev pub are_of_failure : Option StorageError → List ByteSpan → Bool
are_of_failure None ranges = nat_le (length ranges) 0
are_of_failure (Some failure) ranges = nat_lt 0 (length ranges)
