use Rattle.std.proofs.Common.{sym}
use Rattle.std.proofs.lemmas.Result.{err_from_is_err_and}
use Rattle.zarrs_codecs.specs.Form.{form_of}
use Rattle.zarrs_uses.proofs.ArrayBounds.{fill_refused, rest_fits}
use Rattle.zarrs_uses.proofs.array_region.read_region.Goals as goal

pub returns-in_err-empty-clause-elements : goal.returns-in_err-empty-clause-elements
returns-in_err-empty-clause-elements g c =
    let form = form_of c.args.shape.now c.args.data_type.now c.args.fill_value.now in
    let p = err_from_is_err_and c.from_residual-in_err-empty.result c.from_residual-in_err-empty.ensures.1 in
    λ rows sizes chunks e read inside.
    rw (p.1, p.2) (fill_refused c.fewer_are_excused.ensures.law form chunks c.args.region.now c.in_ok-num_elements.field-0 c.in_ok-num_elements-2.field-0 c.in_err-empty.field-0.0 (sym (c.in_ok-num_elements.ensures {u = tt}).answer) (sym (c.in_ok-num_elements-2.ensures {u = tt}).tuples) c.in_err-empty.ensures.exact.is)

pub join_rows-requires-clause-ends : goal.join_rows-requires-clause-ends
join_rows-requires-clause-ends g c =
    rw (c.start.ensures.value, c.shape.ensures.value) (rest_fits c.args.region.now.starts c.args.region.now.lengths c.shape.ensures.axes c.shape.ensures.ends)
