-- Which ranges of bytes a read in part asks for.
use Rattle.std.specs.Prelude.{◌≡◌, ◌≢◌, ◌<◌, ℕ, ◌+◌, ◌*◌, nat_lt, if◌then◌else◌, Option, Some, None, List, [], ◌∷◌, ◌++◌, length, map, take, drop, Result}
use Rattle.std.specs.List.{flat_map, range_with_len}
use Rattle.zarrs_codec.specs.ByteSpan.{ByteSpan}
use Rattle.zarrs_codec.specs.Calls.{AsksRanges}
use Rattle.zarrs_codec.specs.StorageState.{StorageState}
use Rattle.zarrs_bytes.specs.PlannedRanges.{element_span, IsPlan}
use Rattle.zarrs_bytes.specs.ReadingCalls.{are_many_short, are_scattered, batch_count, consecutive_runs}

-- the range that starts and ends so
abbrev pub span_range : ℕ × ℕ → ByteSpan
span_range span = record { start = span.0; end = span.1 }

-- the ranges that start and end so
abbrev pub ranges_of : List (ℕ × ℕ) → List ByteSpan
ranges_of all = map span_range all

-- the ranges of these runs of elements of one size, one for each: the bytes of the run
abbrev pub ranges_of_runs : ℕ → List (ℕ × ℕ) → List ByteSpan
ranges_of_runs size runs = ranges_of (map (element_span size) runs)

-- the ranges of elements of one size at these places: one for each run of consecutive places, as long as it can be
abbrev pub ranges_of_places : ℕ → List ℕ → List ByteSpan
ranges_of_places size places = ranges_of_runs size (consecutive_runs places)

-- the same, 1,024 places at a time: those of each batch, from the first one on
abbrev pub ranges_by_batches : ℕ → List ℕ → List ByteSpan
ranges_by_batches size places =
    flat_map (λ n. ranges_of_places size (take 1024 (drop (n * 1024) places))) (range_with_len 0 (batch_count (length places)))

-- ranges, and behind them the one from here up to there, where it has any bytes
abbrev pub with_range : List ByteSpan → ℕ → ℕ → List ByteSpan
with_range ranges start end = if nat_lt start end then ranges ++ span_range (start, end) ∷ [] else ranges

-- Behind ranges, and an open one from `start` up to `end`, there are bytes from `here` on. Where the open one ends here, it goes on, and no range is put behind the others. Else it is one more of them, where it has any bytes, and the one that is open then begins here.
pub record GoesOn (ranges next : List ByteSpan) (start end here begin : ℕ) : Type 0 where
  pub joined : here ≡ end → (next ≡ ranges) × (begin ≡ start)
  pub apart : here ≢ end → (next ≡ with_range ranges start end) × (begin ≡ here)

-- ---- what a read asks for, of what is stored

-- a read of runs of elements of one size asks for their ranges; where nothing is stored, for those of its first call
abbrev pub asked_for_runs : ℕ → Option (List ℕ) → List (ℕ × ℕ) → List ByteSpan
asked_for_runs size None runs = ranges_of_runs size (take (if are_many_short size runs then 1024 else length runs) runs)
asked_for_runs size (Some value) runs = ranges_of_runs size runs

-- one that asks for places a batch at a time does so, or for the first batch alone, where nothing is stored
abbrev pub asked_by_batches : ℕ → Option (List ℕ) → List ℕ → List ByteSpan
asked_by_batches size None places = ranges_of_places size (take 1024 places)
asked_by_batches size (Some value) places = ranges_by_batches size places

-- one of places asks for scattered ones a batch at a time, and else for their runs
abbrev pub asked_for_places : ℕ → Option (List ℕ) → List ℕ → List ByteSpan
asked_for_places size stored places =
    if are_scattered places then asked_by_batches size stored places else asked_for_runs size stored (consecutive_runs places)

-- ---- what is promised of a read with this handle: `state` and `asked` state what it keeps and which ranges it was asked for

-- an accepted read of these runs of elements of one size asks for one range for each of them, in order; where nothing is stored, for those of its first call
abbrev pub AsksForRuns : {H E T : Type 0} → ℕ → (H → StorageState) → (H → Option (List ByteSpan)) → H → H → List (ℕ × ℕ) → Result T E → Type 0
AsksForRuns size state asked before after runs result =
    AsksRanges asked (asked_for_runs size (state before).value runs) before after result

-- an accepted read that asks for these places a batch at a time does so
abbrev pub AsksByBatches : {H E T : Type 0} → ℕ → (H → StorageState) → (H → Option (List ByteSpan)) → H → H → List ℕ → Result T E → Type 0
AsksByBatches size state asked before after places result =
    AsksRanges asked (asked_by_batches size (state before).value places) before after result

-- an accepted read of these places asks for one range for each run of consecutive places, in order; scattered places are asked for, and their runs made, 1,024 places at a time
abbrev pub AsksForPlaces : {H E T : Type 0} → ℕ → (H → StorageState) → (H → Option (List ByteSpan)) → H → H → List ℕ → Result T E → Type 0
AsksForPlaces size state asked before after places result =
    AsksRanges asked (asked_for_places size (state before).value places) before after result

-- ---- laws

-- The ranges of places are those that are planned: their runs are filled, none begins where the one before it ends, and joined they are the places.
abbrev pub AskedAsPlanned : Type 0
AskedAsPlanned = (size : ℕ) (places : List ℕ) → IsPlan size places (ranges_of_places size places)

-- Consecutive places, at least one, have one range.
abbrev pub RunIsOneRange : Type 0
RunIsOneRange =
    (size start len : ℕ) → 0 < len → ranges_of_places size (range_with_len start len) ≡ span_range (start * size, (start + len) * size) ∷ []
