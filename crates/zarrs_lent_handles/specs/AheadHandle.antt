-- What a handle has read ahead of another handle's value.
use Rattle.std.specs.Prelude.{ℕ, ◌&&◌, ◌||◌, nat_eq, nat_le, nat_lt, Bool, Option, None, Some, List, length, take, is_some, Result, Ok, Err}
use Rattle.std.specs.Cmp.Lexicographic.{pointwise}
use Rattle.std.specs.List.{list_all}
use Rattle.zarrs_chunk.specs.Answer.{Answers, memory_or_fault, seen}
use Rattle.zarrs_chunk.specs.declared.codec_error.CodecError.{CodecError}
use Rattle.zarrs_codec.specs.ByteRanges.{bytes_in_ranges, read_ranges}
use Rattle.zarrs_codec.specs.ByteSpan.{ByteSpan}
use Rattle.zarrs_codec.specs.StorageState.{value_or_empty}

-- there are no ranges, or there is a value
abbrev pub none_or_stored : Option (List ℕ) → List ByteSpan → Bool
none_or_stored stored ranges = nat_le (length ranges) 0 || is_some stored

-- the ranges end inside the value
abbrev pub end_inside : Option (List ℕ) → List ByteSpan → Bool
end_inside stored ranges = list_all (λ range. nat_le range.end (length (value_or_empty stored))) ranges

-- the ranges' bytes, joined in order
abbrev pub bytes_ahead : Option (List ℕ) → List ByteSpan → List ℕ
bytes_ahead stored ranges = bytes_in_ranges (value_or_empty stored) ranges

-- The call passes where the ranges can be read of what is stored; else the first error is returned. Only lack of memory or a failure of the handle may come in its place.
abbrev pub ReadsAhead : Result (Unit {0}) CodecError → Option (List ℕ) → List ByteSpan → Type 0
ReadsAhead result stored ranges = Answers memory_or_fault (λ read. read) result (seen (λ _. tt) (read_ranges stored ranges))

-- the ranges begin and end alike
abbrev pub is_same_range : ByteSpan → ByteSpan → Bool
is_same_range one other = nat_eq one.start other.start && nat_eq one.end other.end

-- these ranges, one at least, come first of those that have been read ahead
abbrev pub are_next : List ByteSpan → List ByteSpan → Bool
are_next asked ahead = nat_lt 0 (length asked) && pointwise is_same_range (take (length asked) ahead) asked

-- Which ranges are kept ahead after a call that was to read these ahead, and answered this: these, where it was accepted and there is a value; else those that were.
abbrev pub kept_ahead : {E T : Type 0} → Result T E → Option (List ℕ) → List ByteSpan → List ByteSpan → List ByteSpan
kept_ahead (Ok _) (Some _) ranges before = ranges
kept_ahead (Ok _) None ranges before = before
kept_ahead (Err _) stored ranges before = before
