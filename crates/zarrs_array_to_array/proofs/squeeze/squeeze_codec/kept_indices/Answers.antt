use Rattle.std.proofs.Common.{◌<◌, ◌++◌, length, drop, ◌+◌, arith, ap, ◌∙◌}
use Rattle.zarrs_array_to_array.specs.Squeeze.{kept_indices}
use Rattle.zarrs_array_to_array.proofs.Indexers.{kept_dropped, kept_pushed}
use Rattle.zarrs_array_to_array.proofs.squeeze.squeeze_codec.kept_indices.Goals as goal
use Rattle.zarrs_array_to_array.proofs.squeeze.squeeze_codec.kept_indices.Goals.{then-sizes-axis-ne1+in_ok-push, else-sizes-axis-ne1}

pub loop-axis-preserved : goal.loop-axis-preserved
loop-axis-preserved c =
    let sizes = c.args.sizes.now in
    let xs = c.args.indices.now in
    let axis = c.loop-axis.axis in
    let p : axis < length sizes = omega arith in
    let q : axis < length xs = omega (arith, c.requires.axes) in
    let all = kept_indices sizes xs in
    elim c.if-sizes-axis-ne1.branch [
      | then-sizes-axis-ne1+in_ok-push w ↦
          ap (λ v. v.items ++ kept_indices (drop (axis + 1) sizes) (drop (axis + 1) xs)) w.kept-is
          ∙ ap (λ ys. ys ++ kept_indices (drop (axis + 1) sizes) (drop (axis + 1) xs)) (w.in_ok-push.ensures {u = tt}).items
          ∙ kept_pushed sizes xs c.loop-axis.kept.items all axis p q w.if-sizes-axis-ne1.true c.loop-axis.invariant
      | else-sizes-axis-ne1 w ↦
          ap (λ v. v.items ++ kept_indices (drop (axis + 1) sizes) (drop (axis + 1) xs)) w.kept-is
          ∙ kept_dropped sizes xs c.loop-axis.kept.items all axis p q w.if-sizes-axis-ne1.false c.loop-axis.invariant
    ]
