use Rattle.std.proofs.Common.{◌+◌, ◌++◌, ◌∷◌, [], List, ℕ, ap, ◌∙◌, arith}
use Rattle.zarrs_chunk.specs.Rows.{row_at}
use Rattle.zarrs_chunk.proofs.RowLaws.{rows_more, few_fronts}
use Rattle.zarrs_array_regions.proofs.few_runs.put_rows.Goals as goal

pub overflow_add-first : goal.overflow_add-first
overflow_add-first c = omega (arith, few_fronts (c.args.first + c.args.count) c.args.row.step c.requires.step c.requires.room)

pub loop-index-preserved : goal.loop-index-preserved
loop-index-preserved c = record {
  rows = c.push.ensures.items
      ∙ ap (λ (xs : List (ℕ × ℕ)). xs ++ row_at c.args.row (c.args.first + c.loop-index.index) ∷ []) c.loop-index.invariant.rows
      ∙ rows_more c.args.row c.args.out.now.items c.args.first c.loop-index.index;
  len = omega (arith, c.push.ensures.len, c.loop-index.invariant.len);
}
