-- Places in runs of consecutive numbers.
use Rattle.std.specs.Prelude.{◌≡◌, ℕ, ◌+◌, ◌<◌, ◌≤◌, ◌≢◌, ◌++◌, List, Vec, length, All, Result, IfOk, OnOk}
use Rattle.std.specs.declared.alloc.Global.{Global}
use Rattle.std.specs.List.{flat_map, range_with_len, AllAdjacentBelow}

-- the numbers that runs of a start and a length cover, joined in order
abbrev pub joined_runs : List (ℕ × ℕ) → List ℕ
joined_runs runs = flat_map (λ run. range_with_len run.0 run.1) runs

-- the places that a vector of runs covers, joined in order
abbrev pub places_in : Vec (ℕ × ℕ) Global → List ℕ
places_in runs = joined_runs runs.items

-- no run is empty
abbrev pub AreFilled : List (ℕ × ℕ) → Type 0
AreFilled runs = All (λ run. 0 < run.1) runs

-- each run ends at or below the limit, so the numbers that it covers are below it
abbrev pub EndWithin : ℕ → List (ℕ × ℕ) → Type 0
EndWithin limit runs = All (λ run. run.0 + run.1 ≤ limit) runs

-- where the old runs end within the limit, so do the new ones
abbrev pub StayWithin : ℕ → List (ℕ × ℕ) → List (ℕ × ℕ) → Type 0
StayWithin limit old new = EndWithin limit old → EndWithin limit new

-- no run starts where the one before it ends, so no two neighbours could be one
abbrev pub AreApart : List (ℕ × ℕ) → Type 0
AreApart runs = AllAdjacentBelow (λ run next. run.0 + run.1 ≢ next.0) runs (length runs)

-- a call that returns Ok has put runs of these places behind the old ones
abbrev pub AddsPlaces : {E : Type 0} → Vec (ℕ × ℕ) Global → Vec (ℕ × ℕ) Global → Result (Unit {0}) E → List ℕ → Type 0
AddsPlaces old new result places = OnOk result (places_in new ≡ places_in old ++ places)

-- below each limit of all the places, the returned runs end within that limit
abbrev pub EndsBelow : {E : Type 0} → List ℕ → Result (Vec (ℕ × ℕ) Global) E → Type 0
EndsBelow places result =
    (limit : ℕ) → All (λ place. place < limit) places → IfOk result (λ v. EndWithin limit v.items)
