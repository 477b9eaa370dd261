-- How many reading calls a read in part makes.
use Rattle.std.specs.Prelude.{ℕ, suc, ◌+◌, ◌-◌, ◌*◌, ◌/◌, ◌==◌, ◌&&◌, nat_lt, Bool, if◌then◌else◌, Option, Some, None, List, [], ◌∷◌, length, Result}
use Rattle.zarrs_chunk.specs.Runs.{joined_runs}
use Rattle.zarrs_codec.specs.Calls.{Calls, MakesReads}
use Rattle.zarrs_codec.specs.StorageState.{StorageState}

-- how many batches of 1,024 so many are
abbrev pub batch_count : ℕ → ℕ
batch_count count = (count + 1023) / 1024

-- runs of elements of one size are many and short: more than a batch, and a range for each, of 16 bytes, takes more memory than the elements
abbrev pub are_many_short : ℕ → List (ℕ × ℕ) → Bool
are_many_short size runs =
    nat_lt 1024 (length runs) && nat_lt (length (joined_runs runs) * size) (length runs * 16)

-- how many reading calls a read of these runs makes of a stored value: one; of many short runs one for each batch
abbrev pub reading_calls : ℕ → List (ℕ × ℕ) → ℕ
reading_calls size runs = if are_many_short size runs then batch_count (length runs) else 1

-- the same of what is stored: one, where nothing is
abbrev pub calls_for_runs : ℕ → Option (List ℕ) → List (ℕ × ℕ) → ℕ
calls_for_runs size None runs = 1
calls_for_runs size (Some value) runs = reading_calls size runs

-- ---- places

-- a place before these runs: the first of them begins with it where that one follows the place, and else it is a run of its own
abbrev pub with_place_before : ℕ → List (ℕ × ℕ) → List (ℕ × ℕ)
with_place_before place [] = (place, 1) ∷ []
with_place_before place (run ∷ runs) =
    if run.0 == place + 1 then (place, suc run.1) ∷ runs else (place, 1) ∷ run ∷ runs

-- places in runs of consecutive ones, each as long as it can be
abbrev pub consecutive_runs : List ℕ → List (ℕ × ℕ)
consecutive_runs [] = []
consecutive_runs (place ∷ places) = with_place_before place (consecutive_runs places)

-- whether the second place follows the first, as a number
abbrev pub follows_count : ℕ → ℕ → ℕ
follows_count place next = if next == place + 1 then 1 else 0

-- how many of the places follow the one before them
abbrev pub following_count : List ℕ → ℕ
following_count [] = 0
following_count (place ∷ []) = 0
following_count (place ∷ next ∷ places) = follows_count place next + following_count (next ∷ places)

-- more than a batch of places, of which fewer than half follow the one before them: their runs take more memory than the places
abbrev pub are_scattered : List ℕ → Bool
are_scattered places =
    nat_lt 1024 (length places) && nat_lt (following_count places) (length places / 2)

-- how many reading calls a read makes that asks for these places a batch at a time: one, where nothing is stored
abbrev pub calls_by_batches : Option (List ℕ) → List ℕ → ℕ
calls_by_batches None places = 1
calls_by_batches (Some value) places = suc (batch_count (length places - 1024))

-- how many reading calls a read of these places makes of a stored value: one for each batch of scattered places, and else as many as a read of their runs
abbrev pub reading_calls_at : ℕ → List ℕ → ℕ
reading_calls_at size places =
    if are_scattered places then batch_count (length places) else reading_calls size (consecutive_runs places)

-- how many reading calls a read of places makes: one; of many short runs in a stored value one for each batch
abbrev pub calls_for_places : ℕ → Option (List ℕ) → List ℕ → ℕ
calls_for_places size None places = 1
calls_for_places size (Some value) places = reading_calls_at size places

-- ---- what is promised of a read with this handle: `state` and `calls` state what it keeps and what its record is

-- an accepted read of these runs of elements of one size makes so many reading calls
abbrev pub CountsRuns : {H E T : Type 0} → ℕ → (H → StorageState) → (H → Option Calls) → H → H → List (ℕ × ℕ) → Result T E → Type 0
CountsRuns size state calls before after runs result =
    MakesReads calls (calls_for_runs size (state before).value runs) before after result

-- an accepted read that asks for these places a batch at a time does
abbrev pub CountsBatches : {H E T : Type 0} → (H → StorageState) → (H → Option Calls) → H → H → List ℕ → Result T E → Type 0
CountsBatches state calls before after places result =
    MakesReads calls (calls_by_batches (state before).value places) before after result

-- an accepted read makes a reading call for each batch of so many
abbrev pub MakesBatches : {H E T : Type 0} → (H → Option Calls) → ℕ → H → H → Result T E → Type 0
MakesBatches calls count = MakesReads calls (batch_count count)
