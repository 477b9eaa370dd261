use Rattle.std.proofs.Common.{ℕ, ◌≡◌, ◌<◌, ◌≤◌, ◌+◌, ◌-◌, take, get_or, length}
use Rattle.std.specs.List.{All}
use Rattle.zarrs_chunk.specs.Runs.{joined_runs, AreApart}
use Rattle.zarrs_chunk.proofs.Apart.{EndsElsewhere}
use Rattle.zarrs_chunk.proofs.runs.runs_of_places.Given as goal

abbrev pub invariant-loop-at : goal.invariant-loop-at
invariant-loop-at l = record {
  within : l.at ≤ length l.places;
  places : joined_runs l.runs.items ≡ take l.at l.places;
  filled : All (λ run. 0 < run.1) l.runs.items;
  below : (limit : ℕ) → All (λ place. place < limit) l.places → All (λ run. run.0 + run.1 ≤ limit) l.runs.items;
  count : length l.runs.items ≤ l.at;
  apart : AreApart l.runs.items;
  ends : l.at < length l.places → EndsElsewhere l.runs.items (get_or l.places l.at 0);
}

abbrev pub decreases-loop-at : goal.decreases-loop-at
decreases-loop-at l = length l.places - l.at
