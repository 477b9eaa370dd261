use Rattle.std.proofs.Common.{◌∙◌, sym}
use Rattle.zarrs_array_regions.proofs.FewRuns.{none_take, one_takes}
use Rattle.zarrs_array_regions.proofs.few_runs.few_region_runs.Goals as goal

pub returns-then-as_slice-le-FEW-clause-few : goal.returns-then-as_slice-le-FEW-clause-few
returns-then-as_slice-le-FEW-clause-few c = λ _. none_take c.args.codecs.now c.args.shape.now c.args.region.now (sym c.is_empty.ensures ∙ c.if-is_empty.true) c.requires.region

pub returns-in-Some-clause-few : goal.returns-in-Some-clause-few
returns-in-Some-clause-few c = λ _. one_takes c.args.codecs.now c.in-Some.codec.now c.args.shape.now c.args.region.now c.in-Some.ensures.only c.requires.region
