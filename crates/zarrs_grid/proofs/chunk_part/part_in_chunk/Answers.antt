use Rattle.std.proofs.Common.{sym, ◌∙◌}
use Rattle.zarrs_grid.specs.Touched.{is_in_box}
use Rattle.zarrs_grid.proofs.Cut.{known_chunk}
use Rattle.zarrs_grid.proofs.chunk_part.part_in_chunk.Goals as goal

pub known_part-requires-clause-known : goal.known_part-requires-clause-known
known_part-requires-clause-known c =
    let made = c.in_ok-chunks.ensures {u = tt} in
    known_chunk made.axes made.answer.is
    ((λ i. is_in_box (sym c.start.ensures.value i) (sym c.shape.ensures.value i) (sym c.as_slice.ensures.value i)) ∙ sym c.if-not-is_in_box.ensures.value)
