use Rattle.std.proofs.Common.{◌<◌, ◌^◌, ap, length, subst, sym, arith}
use Rattle.std.specs.List.{All}
use Rattle.zarrs_chunk.specs.Runs.{EndWithin}
use Rattle.zarrs_array_to_array.proofs.BoxNumbers.{factors_positive}
use Rattle.zarrs_array_regions.proofs.RegionRuns.{axes_there, count_there, places_there}
use Rattle.zarrs_array_regions.proofs.runs.transposed_runs.Goals as goal

pub ordered_runs-requires-clause-axes : goal.ordered_runs-requires-clause-axes
ordered_runs-requires-clause-axes c =
    axes_there c.args.codec.now c.args.shape.now c.args.region.now c.requires.region c.order.result.now c.as_slice.result.now c.start.result.now c.shape.result.now c.order.ensures.value c.as_slice.ensures.value c.start.ensures.value c.shape.ensures.value c.order.ensures.order c.as_slice.ensures.positive

pub ordered_runs-requires-clause-filled : goal.ordered_runs-requires-clause-filled
ordered_runs-requires-clause-filled c = subst (λ lengths. All (λ len. 0 < len) lengths) (sym c.shape.ensures.value) (factors_positive c.args.region.now.lengths c.requires.filled)

pub ordered_runs-requires-clause-fits : goal.ordered_runs-requires-clause-fits
ordered_runs-requires-clause-fits c =
    let count = count_there c.args.codec.now c.args.shape.now c.args.region.now c.requires.region c.order.result.now c.as_slice.result.now c.order.ensures.value c.as_slice.ensures.value c.order.ensures.order in
    omega (arith, count, c.requires.region.counted)

pub returns-clause-below : goal.returns-clause-below
returns-clause-below c =
    let count = count_there c.args.codec.now c.args.shape.now c.args.region.now c.requires.region c.order.result.now c.as_slice.result.now c.order.ensures.value c.as_slice.ensures.value c.order.ensures.order in
    subst (λ n. EndWithin n c.in_ok-runs.runs.items) count ((c.in_ok-runs.ensures {u = tt}).places.below)

pub returns-clause-count : goal.returns-clause-count
returns-clause-count c =
    let axes = axes_there c.args.codec.now c.args.shape.now c.args.region.now c.requires.region c.order.result.now c.as_slice.result.now c.start.result.now c.shape.result.now c.order.ensures.value c.as_slice.ensures.value c.start.ensures.value c.shape.ensures.value c.order.ensures.order c.as_slice.ensures.positive in
    let few = places_there c.args.codec.now c.args.shape.now c.args.region.now c.requires.region c.order.result.now c.as_slice.result.now c.start.result.now c.shape.result.now c.order.ensures.value c.as_slice.ensures.value c.order.ensures.order axes in
    subst (λ n. n < 2 ^ 64) (sym (ap length (c.in_ok-runs.ensures {u = tt}).places.places)) few
