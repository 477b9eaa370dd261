use Rattle.std.proofs.Common.{◌<◌, ◌∙◌, ℕ, List, take, length, ap, subst, sym, arith}
use Rattle.std.specs.Prelude.{nat_le}
use Rattle.std.specs.List.{All}
use Rattle.zarrs_array_to_array.proofs.BoxNumbers.{factors_positive}
use Rattle.zarrs_bytes.specs.ReadingCalls.{consecutive_runs}
use Rattle.zarrs_array_regions.proofs.FewRuns.{eight, first_axes, own_axes, own_count, own_places, own_runs_there}
use Rattle.zarrs_array_regions.proofs.few_runs.put_own.Goals as goal

pub put_ordered-requires-clause-axes : goal.put_ordered-requires-clause-axes
put_ordered-requires-clause-axes c =
    let sizes = c.as_slice-sizes.result.now in
    let axes = first_axes c.args.shape.now sizes c.as_slice-sizes.ensures.value c.requires.few in
    own_axes c.args.shape.now c.args.region.now c.requires.inside (take (length sizes) eight) sizes c.start.result.now c.shape.result.now axes c.as_slice-sizes.ensures.value c.start.ensures.value c.shape.ensures.value c.as_slice-sizes.ensures.positive

pub put_ordered-requires-clause-filled : goal.put_ordered-requires-clause-filled
put_ordered-requires-clause-filled c = subst (λ lengths. All (λ len. 0 < len) lengths) (sym c.shape.ensures.value) (factors_positive c.args.region.now.lengths c.requires.filled)

pub put_ordered-requires-clause-fits : goal.put_ordered-requires-clause-fits
put_ordered-requires-clause-fits c =
    let sizes = c.as_slice-sizes.result.now in
    let axes = first_axes c.args.shape.now sizes c.as_slice-sizes.ensures.value c.requires.few in
    let count = own_count c.args.shape.now c.args.region.now c.requires.inside (take (length sizes) eight) sizes c.start.result.now c.shape.result.now axes c.as_slice-sizes.ensures.value c.start.ensures.value c.shape.ensures.value in
    omega (arith, count, c.requires.counted)

pub returns : goal.returns
returns c =
    let sizes = c.as_slice-sizes.result.now in
    let axes = first_axes c.args.shape.now sizes c.as_slice-sizes.ensures.value c.requires.few in
    record {
      runs = λ done. own_runs_there c.args.shape.now c.args.region.now c.requires.inside (take (length sizes) eight) sizes c.start.result.now c.shape.result.now axes c.as_slice-sizes.ensures.value c.start.ensures.value c.shape.ensures.value c.put_ordered.new.out.items (c.put_ordered.ensures.places done);
      count = c.put_ordered.ensures.count
          ∙ ap (λ (ps : List ℕ). nat_le (length (consecutive_runs ps)) 15) (own_places c.args.shape.now c.args.region.now c.requires.inside (take (length sizes) eight) sizes c.start.result.now c.shape.result.now axes c.as_slice-sizes.ensures.value c.start.ensures.value c.shape.ensures.value);
    }
