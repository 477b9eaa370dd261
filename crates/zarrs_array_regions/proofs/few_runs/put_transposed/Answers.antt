use Rattle.std.proofs.Common.{◌<◌, ◌∙◌, ℕ, List, length, ap, subst, sym, arith}
use Rattle.std.specs.Prelude.{nat_le}
use Rattle.std.specs.List.{All}
use Rattle.zarrs_array_to_array.proofs.BoxNumbers.{factors_positive}
use Rattle.zarrs_bytes.specs.ReadingCalls.{consecutive_runs}
use Rattle.zarrs_array_regions.proofs.FewRuns.{moved_places, moved_runs_there}
use Rattle.zarrs_array_regions.proofs.RegionRuns.{axes_there, count_there}
use Rattle.zarrs_array_regions.proofs.few_runs.put_transposed.Goals as goal

pub put_ordered-requires-clause-axes : goal.put_ordered-requires-clause-axes
put_ordered-requires-clause-axes c =
    axes_there c.args.codec.now c.args.shape.now c.args.region.now c.requires.region c.order.result.now c.as_slice.result.now c.start.result.now c.shape.result.now c.order.ensures.value c.as_slice.ensures.value c.start.ensures.value c.shape.ensures.value c.order.ensures.order c.as_slice.ensures.positive

pub put_ordered-requires-clause-filled : goal.put_ordered-requires-clause-filled
put_ordered-requires-clause-filled c = subst (λ lengths. All (λ len. 0 < len) lengths) (sym c.shape.ensures.value) (factors_positive c.args.region.now.lengths c.requires.filled)

pub put_ordered-requires-clause-fits : goal.put_ordered-requires-clause-fits
put_ordered-requires-clause-fits c =
    let count = count_there c.args.codec.now c.args.shape.now c.args.region.now c.requires.region c.order.result.now c.as_slice.result.now c.order.ensures.value c.as_slice.ensures.value c.order.ensures.order in
    omega (arith, count, c.requires.region.counted)

pub returns : goal.returns
returns c =
    let count = count_there c.args.codec.now c.args.shape.now c.args.region.now c.requires.region c.order.result.now c.as_slice.result.now c.order.ensures.value c.as_slice.ensures.value c.order.ensures.order in
    record {
      runs = λ done. moved_runs_there c.args.codec.now c.args.shape.now c.args.region.now c.order.result.now c.as_slice.result.now c.start.result.now c.shape.result.now c.put_ordered.new.out.items c.order.ensures.value c.as_slice.ensures.value c.start.ensures.value c.shape.ensures.value count (c.put_ordered.ensures.places done);
      count = c.put_ordered.ensures.count
          ∙ ap (λ (ps : List ℕ). nat_le (length (consecutive_runs ps)) 15) (moved_places c.args.codec.now c.args.shape.now c.args.region.now c.order.result.now c.as_slice.result.now c.start.result.now c.shape.result.now c.order.ensures.value c.as_slice.ensures.value c.start.ensures.value c.shape.ensures.value);
    }
