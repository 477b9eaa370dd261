use Rattle.std.proofs.Common.{◌≡◌, Ok, rules}
use Rattle.zarrs_chunk.specs.Runs.{joined_runs}
use Rattle.zarrs_chunk.specs.Selection.{subset, places_of}
use Rattle.zarrs_chunk.proofs.PlaceLaws.{places_counted}
use Rattle.zarrs_chunk.proofs.indexer.subset_runs.Goals as goal

pub returns-clause-count : goal.returns-clause-count
returns-clause-count c =
    let places : places_of (subset c.args.subset.now) c.args.shape.now ≡ Ok (joined_runs c.in_ok-runs.runs.items) = search rules in
    places_counted c.args.subset.now c.args.shape.now (joined_runs c.in_ok-runs.runs.items) places
