use Rattle.std.proofs.Common.{◌≡◌, length, ap, ◌∙◌}
use Rattle.zarrs_chunk.specs.Indices.{tuple_of_number}
use Rattle.zarrs_chunk.proofs.NumberedTuples.{length-tuple_of_number}
use Rattle.zarrs_array_to_array.proofs.BoxNumbers.{index_fits}
use Rattle.zarrs_array_to_array.proofs.boxes.box_tuple.Goals as goal

pub indices_behind-requires-clause-axes : goal.indices_behind-requires-clause-axes
indices_behind-requires-clause-axes c =
    let is : c.in_ok-tuple.tuple.items ≡ tuple_of_number c.args.lengths.now c.args.number = cc ((c.in_ok-tuple.ensures {u = tt}).answer.is) in
    ap length (c.as_slice.ensures.value ∙ is) ∙ length-tuple_of_number c.args.lengths.now c.args.number ∙ c.requires.axes

pub indices_behind-requires-clause-fits : goal.indices_behind-requires-clause-fits
indices_behind-requires-clause-fits c =
    let is : c.in_ok-tuple.tuple.items ≡ tuple_of_number c.args.lengths.now c.args.number = cc ((c.in_ok-tuple.ensures {u = tt}).answer.is) in
    let now : c.as_slice.result.now ≡ tuple_of_number c.args.lengths.now c.args.number = c.as_slice.ensures.value ∙ is in
    rw now (index_fits c.args.starts.now c.args.lengths.now c.args.number c.requires.known c.requires.fits)
