use Rattle.std.proofs.Common.{subst}
use Rattle.zarrs_chunk.specs.Answer.{Gives}
use Rattle.zarrs_chunk.specs.Runs.{places_in}
use Rattle.zarrs_array_regions.proofs.KeptWindows.{places_are}
use Rattle.zarrs_array_regions.proofs.window.own_runs.Goals as goal

pub returns-clause-places : goal.returns-clause-places
returns-clause-places c = subst (Gives places_in c.subset_runs.result) (places_are c.args.shape.now c.args.region.now c.requires.inside c.requires.counted) c.subset_runs.ensures.places
