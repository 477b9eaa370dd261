-- The runs of a box, row by row.
use Rattle.std.specs.Prelude.{◌≡◌, ℕ, ◌+◌, ◌*◌, ◌++◌, List, Vec, map, Result, OnOk}
use Rattle.std.specs.declared.alloc.Global.{Global}
use Rattle.zarrs_chunk.specs.ChunkShape.{product}
use Rattle.zarrs_chunk.specs.Levels.{box_places}
use Rattle.zarrs_chunk.specs.Runs.{joined_runs, AreFilled, EndWithin, AreApart}
use Rattle.zarrs_chunk.specs.declared.rows.Row.{Row}

-- the row behind a front: where it starts, and how many places it has
abbrev pub row_at : Row → ℕ → ℕ × ℕ
row_at row front = (front * row.step + row.start, row.len)

-- a call that returns Ok has put the rows of these fronts behind the old runs
abbrev pub AppendsRows : {E : Type 0} → Row → List ℕ → Vec (ℕ × ℕ) Global → Vec (ℕ × ℕ) Global → Result (Unit {0}) E → Type 0
AppendsRows row fronts old new result = OnOk result (new.items ≡ old.items ++ map (row_at row) fronts)

-- runs are those of a box inside these sizes: they have its places, and none is empty, ends behind the last element or starts where the one before it ends
pub record AreBoxRuns (sizes starts lengths : List ℕ) (runs : List (ℕ × ℕ)) : Type 0 where
  pub places : joined_runs runs ≡ box_places sizes starts lengths
  pub filled : AreFilled runs
  pub below : EndWithin (product sizes) runs
  pub apart : AreApart runs
