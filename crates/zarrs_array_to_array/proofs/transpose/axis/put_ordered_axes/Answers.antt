use Rattle.std.proofs.Common.{◌∷◌, [], ℕ, List, length, ap, ◌∙◌, arith}
use Rattle.zarrs_array_to_array.specs.Axes.{behind, reach, axes_of}
use Rattle.zarrs_array_to_array.specs.Strides.{strides}
use Rattle.zarrs_array_to_array.proofs.Steps.{length-strides}
use Rattle.zarrs_array_to_array.proofs.AxisRows.{behind-axes_of, reach-axes_of}
use Rattle.zarrs_array_to_array.proofs.transpose.axis.put_ordered_axes.Goals as goal

pub put_axes-requires-clause-steps : goal.put_axes-requires-clause-steps
put_axes-requires-clause-steps c = λ k d l.
    omega (arith, c.requires.order k d l, ap length c.put_strides.ensures.written ∙ length-strides c.args.sizes.now)

pub returns-clause-places : goal.returns-clause-places
returns-clause-places c =
    let order = c.args.order.now in
    let sizes = c.args.sizes.now in
    c.put_axes.ensures.places
    ∙ ap (λ (xs : List ℕ). behind (axes_of sizes xs order) (0 ∷ [])) c.put_strides.ensures.written
    ∙ behind-axes_of sizes (strides sizes) order (0 ∷ [])

pub returns-clause-reach : goal.returns-clause-reach
returns-clause-reach c =
    let order = c.args.order.now in
    let sizes = c.args.sizes.now in
    let is = ap (λ (xs : List ℕ). reach (axes_of sizes xs order)) c.put_strides.ensures.written ∙ reach-axes_of sizes (strides sizes) order in
    omega (arith, c.put_axes.ensures.reach, is)
