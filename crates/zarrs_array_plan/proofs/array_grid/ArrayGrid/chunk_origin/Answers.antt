use Rattle.std.proofs.Common.{◌∙◌, ap, sym}
use Rattle.zarrs_array_plan.specs.ArrayForm.{ArrayForm, grid_shape}
use Rattle.zarrs_array_plan.proofs.Origins.{origin_ready}
use Rattle.zarrs_array_plan.proofs.array_grid.ArrayGrid.chunk_origin.Goals as goal

pub origin-requires-clause-fits : goal.origin-requires-clause-fits
origin-requires-clause-fits c =
    origin_ready c.self.inside.shape.items c.self.inside.chunk_shape c.args.chunk.now c.as_slice-2.ensures.value
    (c.as_slice.ensures.value ∙ (c.in_ok-grid.ensures {u = tt}).value ∙ ap (λ (form : ArrayForm). grid_shape form.shape form.chunk_shape) (sym c.self.view_is))
    (sym (c.if-not-is_tuple_inside.ensures {u = tt}).value) c.self.invariant c.as_slice-2.ensures.positive
