-- What a handle on a span of another handle's value is seen as.
use Rattle.std.specs.Prelude.{ℕ, ◌+◌, nat_le, Bool, false, Option, Some, None, List, length, take, drop, map}
use Rattle.std.specs.Borrow.{GName}
use Rattle.std.specs.Option.{option_map}
use Rattle.zarrs_codec.specs.ByteSpan.{ByteSpan}
use Rattle.zarrs_codec.specs.Lent.{Lent}
use Rattle.zarrs_codec.specs.StorageState.{StorageState}

-- the bytes of a span of a value
abbrev pub spanned : ℕ → ℕ → List ℕ → List ℕ
spanned at len value = take len (drop at value)

-- The state of a handle, seen through a span: these bytes of its value, counted from where the span begins. What is sure there, and the failures and the writing calls, are the handle's.
abbrev pub span_state : ℕ → ℕ → StorageState → StorageState
span_state at len state = record state {
  value = option_map (spanned at len) state.value;
  sure = option_map (λ sure number. sure (at + number)) state.sure;
}

-- a value is there, and the span ends inside it
abbrev pub is_span_of : ℕ → ℕ → Option (List ℕ) → Bool
is_span_of at len None = false
is_span_of at len (Some value) = nat_le (at + len) (length value)

-- a range as it stands in the whole value
abbrev pub moved_range : ℕ → ByteSpan → ByteSpan
moved_range at range = record { start = at + range.start; end = at + range.end }

-- ranges as they stand in the whole value
abbrev pub moved_ranges : ℕ → List ByteSpan → List ByteSpan
moved_ranges at ranges = map (moved_range at) ranges

-- a state with no failures in it
abbrev pub without_failures : StorageState → StorageState
without_failures state = record state { faults = 0; failure = None }

-- a reference to a handle in this state, of which a span alone is seen
abbrev pub span_reference : GName → StorageState → Lent
span_reference name state = record { name = name; behind = Some (without_failures state) }
