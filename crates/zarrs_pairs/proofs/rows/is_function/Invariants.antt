use Rattle.std.specs.List.{AllAdjacentBelow}
use Rattle.zarrs_pairs.specs.Rows.{HaveClash}
use Rattle.zarrs_pairs.proofs.rows.is_function.Given as goal

abbrev pub invariant-loop-place : goal.invariant-loop-place
invariant-loop-place l = AllAdjacentBelow (λ front behind. HaveClash front behind → ⊥) l.rows l.place
