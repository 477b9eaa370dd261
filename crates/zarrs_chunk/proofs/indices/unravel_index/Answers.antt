use Rattle.std.proofs.Common.{◌≡◌, ◌+◌, ◌-◌, ◌%◌, get_or, drop, arith, ap, sym, ◌∙◌, true}
use Rattle.std.proofs.lemmas.List.{length-set}
use Rattle.zarrs_chunk.specs.Levels.{number_behind}
use Rattle.zarrs_chunk.specs.Tuples.{is_tuple_inside}
use Rattle.zarrs_chunk.proofs.Numbers.{unravel_number, unravel_inside}
use Rattle.zarrs_chunk.proofs.indices.unravel_index.Goals as goal

pub loop-axis-preserved : goal.loop-axis-preserved
loop-axis-preserved c =
    let sizes = c.as_slice-sizes.result.now in
    let items = c.loop-axis.indices.items in
    let axis = c.loop-axis.axis - 1 in
    let rest = c.loop-axis.rest in
    let back : c.loop-axis.axis ≡ axis + 1 = omega arith in
    let number : number_behind rest (drop (axis + 1) sizes) (drop (axis + 1) items) ≡ c.args.index
    = ap (λ n. number_behind rest (drop n sizes) (drop n items)) (sym back) ∙ c.loop-axis.invariant.number in
    let inside : is_tuple_inside (drop (axis + 1) sizes) (drop (axis + 1) items) ≡ true
    = ap (λ n. is_tuple_inside (drop n sizes) (drop n items)) (sym back) ∙ c.loop-axis.invariant.inside in
    record {
      number = unravel_number sizes items axis rest (omega arith) c.loop-axis.invariant.len ∙ number;
      inside = unravel_inside sizes items axis rest (omega arith) c.loop-axis.invariant.len c.as_slice-sizes.ensures.positive inside;
      len = length-set items axis (rest % get_or sizes axis 0) ∙ c.loop-axis.invariant.len;
      axes = omega arith;
    }
