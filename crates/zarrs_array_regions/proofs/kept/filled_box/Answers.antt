use Rattle.std.proofs.Common.{[], not, Some, ap, refl, sym, ◌∙◌}
use Rattle.std.specs.Prelude.{is_ok}
use Rattle.zarrs_chunk.specs.Indexer.{selection_of}
use Rattle.zarrs_array_regions.proofs.KeptRegions.{is_kept_by, kept_in_bounds, kept_filled, one_box}
use Rattle.zarrs_array_regions.proofs.kept.filled_box.Goals as goal

pub returns-then-is_err-clause-only : goal.returns-then-is_err-clause-only
returns-then-is_err-clause-only c = λ region kept.
    absurd (let bounds = ap is_ok c.check.ensures.answer ∙ kept_in_bounds [] c.args.shape.now (selection_of c.args.indexer.now) region kept in
    let refused = c.is_err.ensures.negation ∙ ap not c.if-is_err.true in
    cc)

pub returns-then-is_filled : goal.returns-then-is_filled
returns-then-is_filled c = record {
  filled = is_kept_by [] c.args.shape.now (selection_of c.args.indexer.now) c.in-Subset.region (ap selection_of c.in-Subset.is)
      (ap is_ok (sym c.check.ensures.answer) ∙ c.is_err.ensures.negation ∙ ap not c.if-is_err.false)
      (sym c.is_filled.ensures.value ∙ c.if-is_filled.true)
      refl;
  only = λ region kept. ap Some (one_box (selection_of c.args.indexer.now) c.in-Subset.region region (ap selection_of c.in-Subset.is) kept.selection_is);
}

pub returns-clause-only : goal.returns-clause-only
returns-clause-only c = λ region kept.
    absurd (let filled = c.is_filled.ensures.value ∙ kept_filled [] c.args.shape.now (selection_of c.args.indexer.now) c.in-Subset.region region (ap selection_of c.in-Subset.is) kept in
    let empty = c.if-is_filled.false in
    cc)
