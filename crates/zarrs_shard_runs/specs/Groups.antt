-- Cut runs by inner chunks, and where the elements of each stand.
use Rattle.std.specs.List.{All, flat_map}
use Rattle.std.specs.Prelude.{◌≡◌, ◌+◌, ◌<◌, ◌≤◌, ℕ, List, [], ◌∷◌, length, take, drop, get_or}
use Rattle.zarrs_shard_runs.specs.CutRuns.{cells, cells_at, places_of_cut}
use Rattle.zarrs_shard_runs.specs.declared.cut_runs.CutRun.{CutRun}

-- the places of groups in their inner chunks, each with the number of the inner chunk, in order
abbrev pub cells_of_groups : List (ℕ × List ℕ) → List (ℕ × ℕ)
cells_of_groups groups = flat_map (λ it. cells_at it.0 it.1) groups

-- the numbers of groups rise, from this one on, and each group has places
abbrev pub AreRising : ℕ → List (ℕ × List ℕ) → Type 0
AreRising low [] = Unit {0}
AreRising low (it ∷ groups) = (low ≤ it.0) × (0 < length it.1) × AreRising (it.0 + 1) groups

-- groups of the places of cut runs, in order
pub record AreGrouped (cuts : List CutRun) (groups : List (ℕ × List ℕ)) : Type 0 where
  pub rising : AreRising 0 groups
  pub below : (limit : ℕ) → All (λ it. it.number < limit) cuts → All (λ it. it.0 < limit) groups
  pub cells : cells_of_groups groups ≡ cells cuts

-- the span has the places of a cut run among these
abbrev pub IsSpanOf : List (ℕ × ℕ) → ℕ × ℕ → CutRun → Type 0
IsSpanOf all span it = (span.1 ≡ it.len) × (take it.len (drop span.0 all) ≡ cells_at it.number (places_of_cut it))

-- each span has the places of the cut run of its index
abbrev pub AreSpans : List CutRun → List (ℕ × ℕ) → Type 0
AreSpans cuts spans = (k : ℕ) (d : CutRun) (e : ℕ × ℕ) → k < length cuts → IsSpanOf (cells cuts) (get_or spans (get_or cuts k d).index e) (get_or cuts k d)

-- cut runs are fewer than their indices say, and no two have one index
pub record AreIndexed (cuts : List CutRun) : Type 0 where
  pub below : All (λ it. it.index < length cuts) cuts
  pub same : (j k : ℕ) (d : CutRun) → j < length cuts → k < length cuts → (get_or cuts j d).index ≡ (get_or cuts k d).index → get_or cuts j d ≡ get_or cuts k d
