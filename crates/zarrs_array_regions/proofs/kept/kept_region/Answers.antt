use Rattle.std.proofs.Common.{map, not, ap, sym, ◌∙◌}
use Rattle.std.specs.Prelude.{is_ok}
use Rattle.zarrs_chunk.specs.Indexer.{selection_of}
use Rattle.zarrs_array_to_array.specs.Mapping.{mapping_of}
use Rattle.zarrs_array_regions.proofs.KeptRegions.{is_kept_by}
use Rattle.zarrs_array_regions.proofs.kept.kept_region.Goals as goal

pub returns-then-keeps_regions-clause-region_kept : goal.returns-then-keeps_regions-clause-region_kept
returns-then-keeps_regions-clause-region_kept c =
    is_kept_by (map mapping_of c.args.codecs.now) c.args.shape.now (selection_of c.args.indexer.now) c.in-Subset.region (ap selection_of c.in-Subset.is)
    (ap is_ok (sym c.check.ensures.answer) ∙ c.is_err.ensures.negation ∙ ap not c.if-is_err.false)
    (sym c.is_filled.ensures.value ∙ c.if-is_filled.true)
    (sym c.keeps_regions.ensures.value ∙ c.if-keeps_regions.true)
