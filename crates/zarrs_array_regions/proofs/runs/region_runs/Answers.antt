use Rattle.std.proofs.Common.{◌∙◌, sym}
use Rattle.zarrs_array_regions.proofs.KeptRegions.{filled_has}
use Rattle.zarrs_array_regions.proofs.runs.region_runs.Goals as goal

pub transposed_runs-requires-clause-filled : goal.transposed_runs-requires-clause-filled
transposed_runs-requires-clause-filled c = filled_has c.args.region.now (sym c.is_filled.ensures.value ∙ c.if-is_filled.true)
